-- Lists of coefficients that are copied, padded and cut, up to a type's own equality.
use Rattle.std.proofs.Common.{◌≡◌, ℕ, ◌+◌, ◌-◌, ◌<◌, ◌≤◌, List, [], ◌∷◌, ◌++◌, length, map, take, drop, get_or, inl, inr, refl, sym, ◌∙◌, ap, ap₂, arith}
use Rattle.std.proofs.lemmas.Bool.{cases_lt, cases_eq}
use Rattle.std.proofs.lemmas.List.{get_or_past, get_or_append_left, get_or-append-add, get_or-take, drop_more, length-take-le, length-append}
use Rattle.math_theory.specs.Coefficients.{coefficient, HaveSameCoefficients}
use Rattle.math_theory.specs.Division.{HasExactDegree}
use Rattle.math_theory.specs.Laws.{IsEquality, IsGroup, IsProduct, IsRing}
use Rattle.math_theory.specs.OverRing as OverRing
use Rattle.math_theory.specs.Values.{value}
use Rattle.math_theory.proofs.classes.Classes.{class, class_same, same_class, ring_of_classes}
use Rattle.math_theory.proofs.classes.ClassesOfLists.{value-class}
use Rattle.math_theory.proofs.polynomials.Values.{value-cons}
use Rattle.math_theory.proofs.rings.Normal.{ring, ◌⊕◌, ◌⊗◌, v0, v1, v2}

module _ {A : Type 0} (zero : A) where
  pub coefficient-take : (p : List A) (n i : ℕ) → i < n → coefficient zero (take n p) i ≡ coefficient zero p i
  coefficient-take p n i l = get_or-take n p i zero l

  pub coefficient-cut : (p : List A) (n i : ℕ) → n ≤ length p → n ≤ i → coefficient zero (take n p) i ≡ zero
  coefficient-cut p n i l m = get_or_past (take n p) i zero (omega (arith, length-take-le n p l, m))

  pub coefficient-append : (p : List A) (x : A) (i : ℕ) → i < length p → coefficient zero (p ++ (x ∷ [])) i ≡ coefficient zero p i
  coefficient-append p x i l = get_or_append_left p (x ∷ []) zero i l

  pub coefficient-appended : (p : List A) (x : A) → coefficient zero (p ++ (x ∷ [])) (length p) ≡ x
  coefficient-appended p x = let e : length p + 0 ≡ length p = omega arith in ap (coefficient zero (p ++ (x ∷ []))) (sym e) ∙ get_or-append-add p (x ∷ []) 0 zero

  pub coefficient-past : (p : List A) (x : A) (i : ℕ) → length p < i → coefficient zero (p ++ (x ∷ [])) i ≡ zero
  coefficient-past p x i l = get_or_past (p ++ (x ∷ [])) i zero (omega (arith, l, length-append p (x ∷ [])))

module _ {A : Type 0} {same : A → A → Type 0} (zero : A) (E : IsEquality same) where
  -- one coefficient more is copied
  pub copied-pushed : (out p : List A) (x : A) (n : ℕ) → length out ≡ n → n < length p → HaveSameCoefficients same zero out (take n p) → same x (coefficient zero p n)
      → HaveSameCoefficients same zero (out ++ (x ∷ [])) (take (n + 1) p)
  copied-pushed out p x n l m h s i =
      elim (cases_lt i n) [
        | inl b ↦ rw (coefficient-append zero out x i (omega (arith, l, b)), coefficient-take zero p (n + 1) i (omega arith), ← coefficient-take zero p n i b) (h i)
        | inr b ↦ elim (cases_eq i n) [
          | inl e ↦ rw (e, coefficient-take zero p (n + 1) n (omega arith), ← l, coefficient-appended zero out x) (rw l s)
          | inr o ↦ rw (coefficient-past zero out x i (omega (arith, l, b, o)), coefficient-cut zero p (n + 1) i (omega (arith, m)) (omega (arith, b, o))) (E.reflexive zero)
        ]
      ]

  -- one zero more
  pub padded-pushed : (out p : List A) (x : A) → length p ≤ length out → HaveSameCoefficients same zero out p → same x zero → HaveSameCoefficients same zero (out ++ (x ∷ [])) p
  padded-pushed out p x l h s i =
      elim (cases_lt i (length out)) [
        | inl b ↦ rw (coefficient-append zero out x i b) (h i)
        | inr b ↦ elim (cases_eq i (length out)) [
          | inl e ↦ rw (e, coefficient-appended zero out x, get_or_past p (length out) zero l) s
          | inr o ↦ rw (coefficient-past zero out x i (omega (arith, b, o)), get_or_past p i zero (omega (arith, b, l))) (E.reflexive zero)
        ]
      ]

  -- a polynomial has one degree
  pub degree-once : (p : List A) (n m : ℕ) → HasExactDegree same zero p n → HasExactDegree same zero p m → n ≡ m
  degree-once p n m h k =
      elim (cases_lt n m) [
        | inl l ↦ absurd (k.leading (h.above m l))
        | inr g ↦ elim (cases_lt m n) [
          | inl l ↦ absurd (h.leading (k.above n l))
          | inr g' ↦ omega (arith, g, g')
        ]
      ]

  -- and an index below the length
  pub degree-within : (p : List A) (n : ℕ) → HasExactDegree same zero p n → n < length p
  degree-within p n h =
      elim (cases_lt n (length p)) [
        | inl l ↦ l
        | inr g ↦ absurd (h.leading (rw (get_or_past p n zero g) (E.reflexive zero)))
      ]

module _ {A : Type 0} {same : A → A → Type 0} {zero : A} {sum : A → A → A} {negative : A → A} {product : A → A → A} {one : A}
    (E : IsEquality same) (G : IsGroup same zero sum negative) (P : IsProduct same product) (R : IsRing same sum product one) where
  -- Horner's rule, from the coefficient before place i
  pub value-before : (r : A) (p : List A) (i : ℕ) (c v m new : A) → 0 < i → i ≤ length p → c ≡ get_or p (i - 1) c
      → same v (value zero sum product one r (drop i p)) → same m (product v r) → same new (sum m c)
      → same new (value zero sum product one r (drop (i - 1) p))
  value-before r p i c v m new some within e hv hm hn =
      let C = ring_of_classes E G P R in
      let next : (i - 1) + 1 ≡ i = omega (arith, some) in
      let apart : drop (i - 1) p ≡ c ∷ drop i p = drop_more p (i - 1) c (omega (arith, some, within)) ∙ ap₂ (λ x j. x ∷ drop j p) (sym e) next in
      rw apart (same_class E _ _
      (class_same E _ _ hn ∙ ap (λ x. C.sum x (class E c)) (class_same E _ _ hm ∙ ap (λ x. C.product x (class E r)) (class_same E _ _ hv ∙ sym (value-class E G P R r (drop i p))))
      ∙ ring C (class E c ∷ class E r ∷ OverRing.value C (class E r) (map (class E) (drop i p)) ∷ []) ((v2 ⊗ v1) ⊕ v0) (v0 ⊕ (v1 ⊗ v2)) refl
      ∙ sym (value-cons C (class E r) (class E c) (map (class E) (drop i p))) ∙ value-class E G P R r (c ∷ drop i p)))
