-- Two lists that differ have one fingerprint under few keys.
use Rattle.std.proofs.Common.{◌≡◌, ℕ, ◌-◌, ◌<◌, ◌≤◌, List, [], ◌∷◌, ◌++◌, length, get_or, refl, arith}
use Rattle.std.specs.List.{All}
use Rattle.math_theory.specs.Laws.{IsEquality, IsGroup, IsProduct, IsRing, IsField}
use Rattle.math_theory.specs.Values.{value}
use Rattle.math_theory.specs.Interpolation.{AreApart}
use Rattle.math_theory.proofs.classes.RingUpToSame.{combine_same, combine2_same, ring_same}
use Rattle.math_theory.proofs.polynomials.CarriedRoots.{agreement-same}
use Rattle.math_theory.proofs.polynomials.CarriedValues.{value-cons}
use Rattle.math_theory.proofs.rings.Normal.{◌⊕◌, ◌⊗◌, ◌⊖◌, 𝟘, 𝟙, v0, v1, v2, v3, v4}

module _ {A : Type 0} {same : A → A → Type 0} {zero_of : A} {sum : A → A → A} {negative : A → A} {product : A → A → A} {one : A} {inverse : A → A}
    (E : IsEquality same) (G : IsGroup same zero_of sum negative) (P : IsProduct same product) (L : IsRing same sum product one) (F : IsField same zero_of product one inverse) where
  abbrev at : A → List A → A
  at r p = value zero_of sum product one r p

  -- what is added to the value is as good as added to the first word
  pub added_first : (a d : A) (p : List A) (key : A) → same (sum (at key (a ∷ p)) d) (at key (sum a d ∷ p))
  added_first a d p key =
      let rest = product (at key p) key in
      let front : same (sum (at key (a ∷ p)) d) (sum (sum a rest) d) = G.respects_sum _ _ _ _ (value-cons E G P L key a p) (E.reflexive d) in
      let moved : same (sum (sum a rest) d) (sum (sum a d) rest) = ring_same E G P L (a ∷ d ∷ at key p ∷ key ∷ []) ((v0 ⊕ (v2 ⊗ v3)) ⊕ v1) ((v0 ⊕ v1) ⊕ (v2 ⊗ v3)) refl in
      E.transitive _ _ _ front (E.transitive _ _ _ moved (E.symmetric _ _ (value-cons E G P L key (sum a d) p)))

  -- what leaves a sum as it is, is zero
  pub adds_nothing : (a d : A) → same (sum a d) a → same d zero_of
  adds_nothing a d h = combine_same E G P L (a ∷ d ∷ []) v1 𝟘 𝟙 (v0 ⊕ v1) v0 h refl

  pub few_keys : (p q keys : List A) (k : ℕ) → length p ≡ length q → k < length p → ¬ (same (get_or p k zero_of) (get_or q k zero_of))
      → AreApart same keys → All (λ key. same (at key p) (at key q)) keys → length keys ≤ length p - 1
  few_keys p q keys k size l differ apart agree =
      let not_many : ¬ (length p ≤ length keys) =
      λ many. differ (agreement-same E G P L F keys p q many (omega (arith, size, many)) apart agree k) in
      omega (arith, not_many)

  -- below the place at which they differ, the values are the same where those of the whole are
  below : (r c u w : A) → ¬ (same r zero_of) → same (sum c (product u r)) (sum c (product w r)) → same u w
  below r c u w n h =
      combine2_same E G P L (r ∷ c ∷ u ∷ w ∷ inverse r ∷ []) v2 v3 v4 (v1 ⊕ (v2 ⊗ v0)) (v1 ⊕ (v3 ⊗ v0)) (v3 ⊖ v2) (v0 ⊗ v4) 𝟙 h (F.inverts r n) refl

  pub one_change : (before after : List A) (x y key : A) → ¬ (same key zero_of) → same (at key (before ++ x ∷ after)) (at key (before ++ y ∷ after)) → same x y
  one_change [] after x y key n h =
      let here : same (sum x (product (at key after) key)) (sum y (product (at key after) key)) =
      E.transitive _ _ _ (E.symmetric _ _ (value-cons E G P L key x after)) (E.transitive _ _ _ h (value-cons E G P L key y after)) in
      combine_same E G P L (x ∷ y ∷ at key after ∷ key ∷ []) v0 v1 𝟙 (v0 ⊕ (v2 ⊗ v3)) (v1 ⊕ (v2 ⊗ v3)) here refl
  one_change (c ∷ before) after x y key n h =
      one_change before after x y key n
      (below key c (at key (before ++ x ∷ after)) (at key (before ++ y ∷ after)) n
      (E.transitive _ _ _ (E.symmetric _ _ (value-cons E G P L key c (before ++ x ∷ after))) (E.transitive _ _ _ h (value-cons E G P L key c (before ++ y ∷ after)))))
