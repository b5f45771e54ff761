-- The sum of two coefficient lists, made by adding to each of the longer's first coefficients that of the shorter.
use Rattle.std.proofs.Common.{◌≡◌, ◌≢◌, ◌⊎◌, inl, inr, ℕ, ◌+◌, ◌<◌, ◌≤◌, ◌∙◌, sym, refl, List, [], length, take, get_or, arith}
use Rattle.std.proofs.Math.ListN.{set}
use Rattle.std.proofs.lemmas.List.{get_or_past, get_or_read, get_or-set_other, get_or-take, length-take, take_all}
use Rattle.std.proofs.lemmas.Grind.{get_or-set_at}
use Rattle.std.proofs.lemmas.Bool.{cases_order}
use Rattle.math_theory.specs.Laws.{IsEquality, IsGroup}
use Rattle.math_theory.specs.Coefficients.{coefficient, HaveSameCoefficients, polynomial_sum}
use Rattle.math_poly.specs.PolynomialLaws.{coefficients_equality, coefficient_of_sum, sum_with_zero, polynomials_group}

-- one coefficient more or less taken does not change another
coefficient_of_take : {A : Type 0} (zero_of : A) (b : List A) (i k : ℕ) → k ≢ i → coefficient zero_of (take (i + 1) b) k ≡ coefficient zero_of (take i b) k
coefficient_of_take zero_of b i k n =
    elim (cases_order k i) [
      | inl e ↦ absurd (n e)
      | inr o ↦ elim o [
        | inl l ↦ let m : k < i + 1 = omega arith in get_or-take (i + 1) b k zero_of m ∙ sym (get_or-take i b k zero_of l)
        | inr l ↦
            let p : length (take (i + 1) b) ≤ k = omega (arith, length-take (i + 1) b) in
            let q : length (take i b) ≤ k = omega (arith, length-take i b) in
            get_or_past (take (i + 1) b) k zero_of p ∙ sym (get_or_past (take i b) k zero_of q)
      ]
    ]

module _ {A : Type 0} {same : A → A → Type 0} {zero_of : A} {sum : A → A → A} {negative : A → A} (E : IsEquality same) (G : IsGroup same zero_of sum negative) where
  -- nothing is added yet
  pub sum_begins : (a b : List A) → HaveSameCoefficients same zero_of a (polynomial_sum sum a (take 0 b))
  sum_begins a b k = E.symmetric _ _ (E.transitive _ _ _ (coefficient_of_sum E G a [] k) (sum_with_zero E G _))

  -- coefficient i, which is still that of a, becomes its sum with that of b
  pub sum_continues : (a b out : List A) (i : ℕ) (before after c : A) → i < length b → i < length out → c ≡ get_or b i c → before ≡ get_or out i before → same after (sum before c)
      → HaveSameCoefficients same zero_of out (polynomial_sum sum a (take i b)) → HaveSameCoefficients same zero_of (set out i after) (polynomial_sum sum a (take (i + 1) b))
  sum_continues a b out i before after c l m e f s h k =
      elim (cases_order k i) [
        | inl o ↦
            let n : i < i + 1 = omega arith in
            let past : length (take i b) ≤ i = omega (arith, length-take i b) in
            let here : same before (coefficient zero_of a i) =
            rw (get_or_read out i before m f zero_of)
            (E.transitive _ _ _ (h i) (E.transitive _ _ _ (coefficient_of_sum E G a (take i b) i) (rw (get_or_past (take i b) i zero_of past) (sum_with_zero E G _)))) in
            let added : coefficient zero_of (take (i + 1) b) i ≡ c = get_or-take (i + 1) b i zero_of n ∙ sym (get_or_read b i c l e zero_of) in
            rw (o, get_or-set_at out i i after zero_of refl m)
            (E.transitive _ _ _ (E.transitive _ _ _ s (G.respects_sum _ _ _ _ here (E.reflexive c)))
            (E.symmetric _ _ (rw added at (coefficient_of_sum E G a (take (i + 1) b) i))))
        | inr o ↦
            let n : k ≢ i = λ e. elim o [ inl x ↦ omega arith | inr x ↦ omega arith ] in
            rw (get_or-set_other out i k after zero_of n)
            (E.transitive _ _ _ (h k) (E.transitive _ _ _ (coefficient_of_sum E G a (take i b) k)
            (E.symmetric _ _ (rw (coefficient_of_take zero_of b i k n) at (coefficient_of_sum E G a (take (i + 1) b) k)))))
      ]

  -- the copy of the longer list, with all of the shorter added, is the sum in either order
  pub sum_ends : (a b shorter longer copy out : List A) (n : ℕ) → ((shorter ≡ a) × (longer ≡ b)) ⊎ ((shorter ≡ b) × (longer ≡ a)) → length shorter ≤ n
      → HaveSameCoefficients same zero_of copy longer → HaveSameCoefficients same zero_of out (polynomial_sum sum copy (take n shorter))
      → HaveSameCoefficients same zero_of out (polynomial_sum sum a b)
  sum_ends a b shorter longer copy out n o l e h =
      let P = polynomials_group E G in
      let Q = coefficients_equality zero_of E in
      let whole : HaveSameCoefficients same zero_of out (polynomial_sum sum longer shorter) =
      Q.transitive out (polynomial_sum sum copy shorter) (polynomial_sum sum longer shorter) (rw (take_all n shorter l) at h)
      (P.respects_sum copy longer shorter shorter e (Q.reflexive shorter)) in
      elim o [
        | inl k ↦ Q.transitive out (polynomial_sum sum b a) (polynomial_sum sum a b) (rw (k.0, k.1) at whole) (P.commutative b a)
        | inr k ↦ rw (k.0, k.1) at whole
      ]
