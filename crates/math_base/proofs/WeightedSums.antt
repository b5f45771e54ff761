-- The loop of a weighted sum keeps the sum of what it has and of what is left.
use Rattle.std.proofs.Common.{◌≡◌, refl, List, [], ◌∷◌, length, inl, inr, ◌⊎◌, arith}
use Rattle.math_theory.specs.Laws.{IsEquality, IsGroup}
use Rattle.math_theory.specs.Sums.{weighted_sum}

module _ {A B : Type 0} {same : A → A → Type 0} {zero : A} {sum : A → A → A} {negative : A → A} {scaling : A → B → A}
    (E : IsEquality same) (G : IsGroup same zero sum negative) (respects : (a b : A) (x : B) → same a b → same (scaling a x) (scaling b x)) where
  pub weighted_sum-start : (out : A) {points points' : List A} {scalars scalars' : List B} → points ≡ points' → scalars ≡ scalars' → same out zero
      → same (sum out (weighted_sum zero sum scaling points scalars)) (weighted_sum zero sum scaling points' scalars')
  weighted_sum-start out {points} {points'} {scalars} {scalars'} e e' h =
      rw (e, e') (grw (E.transitive, E.reflexive, G.respects_sum, h, G.identity (weighted_sum zero sum scaling points' scalars')))

  pub weighted_sum-step : {out out' term p p' : A} (whole : A) {s : B} {points points' : List A} {scalars scalars' : List B} → points ≡ p ∷ points' → scalars ≡ s ∷ scalars'
      → same p' p → same term (scaling p' s) → same out' (sum out term)
      → same (sum out (weighted_sum zero sum scaling points scalars)) whole → same (sum out' (weighted_sum zero sum scaling points' scalars')) whole
  weighted_sum-step {out} {out'} {term} {p} {p'} whole {s} {points} {points'} {scalars} {scalars'} e e' hp ht ho h =
      let k = rw (e, e') at h in
      grw (E.transitive, E.reflexive, G.respects_sum, λ (a b : A). respects a b s, ho, ht, hp, G.associative out (scaling p s) (weighted_sum zero sum scaling points' scalars'), k)

  weighted_sum-none : (points : List A) (scalars : List B) → (length points ≡ 0) ⊎ (length scalars ≡ 0) → weighted_sum zero sum scaling points scalars ≡ zero
  weighted_sum-none [] scalars h = refl
  weighted_sum-none (p ∷ points) [] h = refl
  weighted_sum-none (p ∷ points) (s ∷ scalars) h = absurd (elim h [ inl e ↦ omega arith | inr e ↦ omega arith ])

  pub weighted_sum-end : {out whole : A} (points : List A) (scalars : List B) → (length points ≡ 0) ⊎ (length scalars ≡ 0)
      → same (sum out (weighted_sum zero sum scaling points scalars)) whole → same out whole
  weighted_sum-end {out} {whole} points scalars e h =
      let k = rw (weighted_sum-none points scalars e) at h in
      grw (E.transitive, E.reflexive, E.symmetric _ _ (G.identity out), G.commutative zero out, k)
