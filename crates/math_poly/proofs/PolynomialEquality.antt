-- Whether coefficient lists have the same coefficients, told by the places of the shorter and the degree of the longer.
use Rattle.std.proofs.Common.{◌≡◌, ◌↔◌, ◌⊎◌, inl, inr, ℕ, ◌<◌, ◌≤◌, List, length, arith}
use Rattle.std.proofs.lemmas.List.{get_or_past}
use Rattle.std.proofs.lemmas.Bool.{cases_lt}
use Rattle.math_theory.specs.Laws.{IsEquality}
use Rattle.math_theory.specs.Coefficients.{coefficient, HaveSameCoefficients, HasDegree}

module _ {A : Type 0} {same : A → A → Type 0} (zero_of : A) (E : IsEquality same) where
  -- the degree of b lies past the end of a
  pub differ_by_degree : (a b : List A) (n : ℕ) → HasDegree same zero_of b n → 0 < n → length a ≤ n → HaveSameCoefficients same zero_of a b → ⊥
  differ_by_degree a b n d p l h =
      elim d.leading [
        | inl e ↦ absurd (omega arith)
        | inr k ↦ k (E.symmetric _ _ (rw (get_or_past a n zero_of l) at (h n)))
      ]

  -- the coefficients are the same in the places of a, which lie beyond the degree of b
  pub same_by_degree : (a b : List A) (n : ℕ) → HasDegree same zero_of b n → n < length a
      → ((k : ℕ) → k < length a → same (coefficient zero_of a k) (coefficient zero_of b k)) → HaveSameCoefficients same zero_of a b
  same_by_degree a b n d l h k =
      elim (cases_lt k (length a)) [
        | inl m ↦ h k m
        | inr m ↦ rw (get_or_past a k zero_of m) (E.symmetric _ _ (d.above k (omega arith)))
      ]

  -- the coefficients of two lists of the same length are the same in each place
  pub same_by_count : (a b : List A) (n : ℕ) → length a ≡ n → length b ≡ n → ((k : ℕ) → k < n → same (coefficient zero_of a k) (coefficient zero_of b k)) → HaveSameCoefficients same zero_of a b
  same_by_count a b n e f h k =
      elim (cases_lt k n) [
        | inl m ↦ h k m
        | inr m ↦
            let p : length a ≤ k = omega arith in
            let q : length b ≤ k = omega arith in
            rw (get_or_past a k zero_of p, get_or_past b k zero_of q) (E.reflexive zero_of)
      ]

  -- equality in either order
  pub same_in_either_order : (a b c d : List A) → ((c ≡ a) × (d ≡ b)) ⊎ ((c ≡ b) × (d ≡ a)) → HaveSameCoefficients same zero_of c d ↔ HaveSameCoefficients same zero_of a b
  same_in_either_order a b c d (inl e) = rw (e.0, e.1) (λ h. h, λ h. h)
  same_in_either_order a b c d (inr e) = rw (e.0, e.1) (λ h i. E.symmetric _ _ (h i), λ h i. E.symmetric _ _ (h i))
