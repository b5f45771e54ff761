-- Steps in dealing and verifying: the next point, the value there, and answers about what is same.
use Rattle.std.proofs.Common.{◌≡◌, ◌↔◌, ◌∙◌, ℕ, zero, suc, ◌+◌, ◌<◌, ◌≤◌, List, [], ◌∷◌, ◌++◌, map, inl, inr, sym, ap, subst, arith}
use Rattle.std.specs.List.{AllZip, range_with_len}
use Rattle.std.proofs.lemmas.Bool.{cases_lt}
use Rattle.std.proofs.lemmas.List.{map-append}
use Rattle.math_theory.specs.Laws.{IsEquality, IsGroup, IsProduct, IsModule}
use Rattle.math_theory.specs.Powers.{power-suc}
use Rattle.math_theory.proofs.polynomials.ValuesRespect.{value_over-respects}
use Rattle.math_theory.specs.Values.{value_over}
use Rattle.math_base.specs.Members.{RingOf}
use Rattle.shared_secret.specs.declared.shares.Share.{Share}
use Rattle.shared_secret.specs.Shares.{point}

range-push : (a n : ℕ) → range_with_len a (suc n) ≡ range_with_len a n ++ (a + n) ∷ []
range-push a zero = let e : a ≡ a + 0 = omega arith in ap (λ k. k ∷ []) e
range-push a (suc n) = let e : a + 1 + n ≡ a + suc n = omega arith in ap (λ ks. a ∷ ks) (range-push (a + 1) n ∙ ap (λ k. range_with_len (a + 1) n ++ k ∷ []) e)

-- one share more, with the next index
pub indices-push : {A : Type 0} (shares : List (Share A)) (s : Share A) (n : ℕ) → map (λ u. u.index) shares ≡ range_with_len 1 n → s.index ≡ n + 1
    → map (λ u. u.index) (shares ++ s ∷ []) ≡ range_with_len 1 (n + 1)
indices-push shares s n h e =
    let i : s.index ≡ 1 + n = omega (arith, e) in
    let m : suc n ≡ n + 1 = omega arith in
    map-append (λ u. u.index) shares (s ∷ []) ∙ ap (λ is. is ++ s.index ∷ []) h ∙ ap (λ k. range_with_len 1 n ++ k ∷ []) i ∙ sym (range-push 1 n) ∙ ap (range_with_len 1) m

-- answers about what is same on both sides
pub answer_alike : {A : Type 0} {same : A → A → Type 0} → IsEquality same → (Answer : Type 0) (a b c d : A) → same a c → same b d → (Answer ↔ same a b) → Answer ↔ same c d
answer_alike E Answer a b c d h k answer = (
  λ t. E.transitive _ _ _ (E.symmetric _ _ h) (E.transitive _ _ _ (answer.0 t) k),
  λ s. answer.1 (E.transitive _ _ _ h (E.transitive _ _ _ s (E.symmetric _ _ k))),
)

module _ {A : Type 0} (R : RingOf A) (E : IsEquality R.same) (G : IsGroup R.same R.zero R.sum R.negative) where
  -- one more is the point of the next index
  pub next_point : (x one y : A) (n : ℕ) → R.same x (point R n) → R.same one R.one → R.same y (R.sum x one) → R.same y (point R (n + 1))
  next_point x one y n h k s =
      let e : suc n ≡ n + 1 = omega arith in
      subst (λ m. R.same y (point R m)) e (rw (power-suc R.zero R.sum R.one n) (E.transitive _ _ _ s (G.respects_sum _ _ _ _ h k)))

  pub next_points : (n : ℕ) → ((k : ℕ) → 0 < k → k ≤ n → ¬ (R.same (point R k) R.zero)) → ¬ (R.same (point R (n + 1)) R.zero)
      → (k : ℕ) → 0 < k → k ≤ n + 1 → ¬ (R.same (point R k) R.zero)
  next_points n before next k a l = elim (cases_lt k (n + 1)) [
    | inl less ↦ before k a (omega arith)
    | inr more ↦ let e : n + 1 ≡ k = omega arith in subst (λ m. ¬ (R.same (point R m) R.zero)) e next
  ]

module _ {A B : Type 0} {same : A → A → Type 0} {zero_of : A} {sum : A → A → A} {negative : A → A} {scaling : A → B → A} {same_scalar : B → B → Type 0}
    {zero_scalar : B} {sum_scalar : B → B → B} {product : B → B → B} {one : B}
    (E : IsEquality same) (G : IsGroup same zero_of sum negative) (M : IsModule same zero_of sum scaling same_scalar zero_scalar sum_scalar product one)
    (Es : IsEquality same_scalar) (P : IsProduct same_scalar product) where
  reflexive_places : (p : List A) → AllZip same p p
  reflexive_places [] = tt
  reflexive_places (c ∷ p) = (E.reflexive c, reflexive_places p)

  -- the value at what is same as a point is that at the point
  pub value_alike : (p : List A) (x y : B) (v : A) → same_scalar x y → same v (value_over zero_of sum scaling one product x p) → same v (value_over zero_of sum scaling one product y p)
  value_alike p x y v h s = E.transitive _ _ _ s (value_over-respects E G M Es P x y h p p (reflexive_places p))
