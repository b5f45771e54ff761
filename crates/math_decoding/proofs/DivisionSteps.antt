-- A step of division: the last coefficient of what is left, over that of d, times d is taken away.
use Rattle.std.proofs.Common.{◌≡◌, ℕ, suc, ◌+◌, ◌-◌, ◌<◌, ◌≤◌, List, [], ◌∷◌, ◌++◌, length, take, drop, inl, inr, refl, sym, ◌∙◌, ap, ap₂, arith}
use Rattle.std.proofs.lemmas.Bool.{cases_lt}
use Rattle.std.proofs.lemmas.List.{get_or-take, get_or_past, get_or_default, take_all, drop_all, append-nil, length-append}
use Rattle.math_theory.specs.Coefficients.{coefficient, HaveSameCoefficients, IsZeroPolynomial, polynomial_difference, polynomial_multiple}
use Rattle.math_theory.specs.Division.{HasExactDegree, IsDivision, IsDividedDownTo, moved_up}
use Rattle.math_theory.specs.Laws.{IsEquality, IsGroup, IsProduct, IsRing}
use Rattle.math_theory.proofs.classes.Classes.{class, class_same, same_class, ring_of_classes}
use Rattle.math_theory.proofs.polynomials.CarriedDivision.{division_step-same}
use Rattle.math_theory.proofs.rings.Normal.{combine, ◌⊗◌, 𝟙, v0, v1, v2}
use Rattle.math_decoding.proofs.CoefficientLists.{coefficient-append, coefficient-appended}
use Rattle.math_decoding.proofs.SubtractedMultiples.{subtracted-below, subtracted-from}

module _ {A : Type 0} {same : A → A → Type 0} {zero : A} {sum : A → A → A} {negative : A → A} {product : A → A → A} {one : A}
    (E : IsEquality same) (G : IsGroup same zero sum negative) (P : IsProduct same product) (R : IsRing same sum product one) where
  -- the top coefficient times the inverse, times the leading coefficient, is the top coefficient
  leads : (d top inverse c : A) → same (product d inverse) one → same c (product top inverse) → same (product d c) top
  leads d top inverse c h k =
      let C = ring_of_classes E G P R in
      same_class E _ _
      (ap (C.product (class E d)) (class_same E _ _ k)
      ∙ combine C (class E d ∷ class E inverse ∷ class E top ∷ []) (v0 ⊗ (v2 ⊗ v1)) v2 v2 (v0 ⊗ v1) 𝟙 (class_same E _ _ h) refl)

  pub divided-next : (i n : ℕ) (p d q left front new : List A) (top inverse c : A) → HasExactDegree same zero d n
      → same (product (coefficient zero d n) inverse) one → left ≡ front ++ (top ∷ []) → length front ≡ i + n
      → same c (product top inverse) → length new ≡ length front
      → HaveSameCoefficients same zero new (polynomial_difference sum negative front (moved_up zero i (polynomial_multiple product (take n d) c)))
      → IsDividedDownTo same zero sum product (suc i) p d q left → IsDividedDownTo same zero sum product i p d (c ∷ q) new
  divided-next i n p d q left front new top inverse c degree h split count hc short hn e =
      let at : (j : ℕ) → j < i + n → coefficient zero left j ≡ coefficient zero front j =
      λ j l. ap (λ p. coefficient zero p j) split ∙ coefficient-append zero front top j (omega (arith, l, count)) in
      let is_top : coefficient zero left (i + n) ≡ top = ap₂ (coefficient zero) split (sym count) ∙ coefficient-appended zero front top in
      division_step-same E G P R i n p d q left new c degree (omega (arith, ap length split, length-append front (top ∷ []), count)) (omega (arith, short, count))
      (rw is_top (leads (coefficient zero d n) top inverse c h hc))
      (λ j l. rw (at j (omega (arith, l))) (subtracted-below E G P R i front new (take n d) c hn j l))
      (λ j l. rw (at (i + j) (omega (arith, l)), ← get_or-take n d j zero l) (subtracted-from E G P R i front new (take n d) c hn j))
      e

  -- what is left at the end is the remainder, also of a polynomial with the same coefficients
  pub divided-ended : (n : ℕ) (p padded d q r : List A) → HaveSameCoefficients same zero padded p → length r ≡ n → IsDividedDownTo same zero sum product 0 padded d q r
      → IsDivision same zero sum product n p d q r
  divided-ended n p padded d q r h l e = record {
    gives = λ i. E.transitive _ _ _ (E.symmetric _ _ (h i)) (e i);
    below = λ i m. rw (get_or_past r i zero (omega (arith, m, l))) (E.reflexive zero);
  }

  -- what is not zero has a coefficient before its zeros
  pub some-before_zeros : (d : List A) (n : ℕ) → ¬ (IsZeroPolynomial same zero d) → ((i : ℕ) → n ≤ i → same (coefficient zero d i) zero) → 0 < n
  some-before_zeros d n some h =
      elim (cases_lt 0 n) [
        | inl l ↦ l
        | inr g ↦ absurd (some (λ k e l. rw (get_or_default d k e zero l) (h k (omega (arith, g)))))
      ]

  pub degree-before_zeros : (d : List A) (n : ℕ) → 0 < n → ((i : ℕ) → n ≤ i → same (coefficient zero d i) zero) → (0 < n → ¬ (same (coefficient zero d (n - 1)) zero))
      → HasExactDegree same zero d (n - 1)
  degree-before_zeros d n l above leading = record { leading = leading l; above = λ i m. above i (omega (arith, l, m)) }

-- a slice that was written back over all of a vector
pub written-back : {A : Type 0} (n : ℕ) (xs ys : List A) → n ≡ length xs → length xs ≡ length ys → take n (xs ++ drop (length xs) ys) ≡ xs
written-back n xs ys e l =
    let none : drop (length xs) ys ≡ [] = drop_all (length xs) ys (omega (arith, l)) in
    rw (none, append-nil xs) (take_all n xs (omega (arith, e)))
