-- Steps of Newton's interpolation: the product by X - x, and one value more that the polynomial goes through.
use Rattle.std.proofs.Common.{◌≡◌, ◌≢◌, ℕ, zero, suc, ◌+◌, ◌<◌, ◌≤◌, List, [], ◌∷◌, ◌++◌, length, map, take, get_or, inl, inr, refl, sym, ◌∙◌, ap, ap₂, subst, arith}
use Rattle.std.proofs.lemmas.Bool.{cases_lt}
use Rattle.std.proofs.lemmas.List.{take_more, get_or-take, get_or_past, length-take-le}
use Rattle.std.proofs.lemmas.List as Lists
use Rattle.std.specs.List.{All}
use Rattle.math_theory.specs.Coefficients.{coefficient, HaveSameCoefficients, polynomial_difference, polynomial_multiple}
use Rattle.math_theory.specs.Division.{HasExactDegree, moved_up}
use Rattle.math_theory.specs.Interpolation.{AreApart}
use Rattle.math_theory.specs.Laws.{IsEquality, IsGroup, IsProduct, IsRing, IsField}
use Rattle.math_theory.specs.OverRing as OverRing
use Rattle.math_theory.specs.Rings.{CommutativeRing, Field}
use Rattle.math_theory.specs.RootProducts.{root_product}
use Rattle.math_theory.specs.Values.{value}
use Rattle.math_theory.proofs.classes.Classes.{Class, class, class_same, same_class, ring_of_classes, field_of_classes}
use Rattle.math_theory.proofs.classes.ClassesOfLists.{value-class, coefficient-class, root_product-class, length-classes}
use Rattle.math_theory.proofs.domains.RootProductLists.{root_product-append}
use Rattle.math_theory.proofs.polynomials.RootProducts.{root_product-at_root, root_product-nonzero}
use Rattle.math_theory.proofs.polynomials.Values.{value-cons}
use Rattle.math_theory.proofs.rings.Normal.{ring, combine, combine2, ◌⊕◌, ◌⊖◌, ◌⊗◌, minus, 𝟘, 𝟙, v0, v1, v2, v3, v4}
use Rattle.math_decoding.proofs.SubtractedMultiples.{less-respects, value-less, subtracted-from}

module _ {A : Type 0} {same : A → A → Type 0} {zero_of : A} {sum : A → A → A} {negative : A → A} {product : A → A → A} {one : A}
    (E : IsEquality same) (G : IsGroup same zero_of sum negative) (P : IsProduct same product) (R : IsRing same sum product one) where
  abbrev C : CommutativeRing (Class E)
  C = ring_of_classes E G P R

  abbrev at : A → List A → A
  at r p = value zero_of sum product one r p

  abbrev over : A → List A → A
  over r roots = root_product sum negative product one r roots

  abbrev times : List A → A → List A
  times p x = polynomial_difference sum negative (moved_up zero_of 1 p) (polynomial_multiple product p x)

  -- X p less x p, from a copy of p after a zero
  pub times-from_copy : (z x : A) (p copy new : List A) → same z zero_of → HaveSameCoefficients same zero_of copy p
      → HaveSameCoefficients same zero_of new (polynomial_difference sum negative (z ∷ copy) (moved_up zero_of 0 (polynomial_multiple product p x)))
      → HaveSameCoefficients same zero_of new (times p x)
  times-from_copy z x p copy new hz hc h = less-respects E G P R 0 (z ∷ copy) (zero_of ∷ p) new p x begun h
    where
      begun : HaveSameCoefficients same zero_of (z ∷ copy) (zero_of ∷ p)
      begun zero = hz
      begun (suc i) = hc i

  -- its value is that of p times the difference
  value-times : (r x : A) (p new : List A) → HaveSameCoefficients same zero_of new (times p x) → same (at r new) (product (at r p) (sum r (negative x)))
  value-times r x p new h =
      same_class E _ _
      (value-less E G P R r (zero_of ∷ p) new p x h
      ∙ ap (λ v. C.sum v (C.negative (C.product (class E (at r p)) (class E x)))) (sym (value-class E G P R r (zero_of ∷ p))
      ∙ value-cons C (class E r) C.zero (map (class E) p) ∙ ap (λ v. C.sum C.zero (C.product (class E r) v)) (value-class E G P R r p))
      ∙ ring C (class E r ∷ class E (at r p) ∷ class E x ∷ []) ((𝟘 ⊕ (v0 ⊗ v1)) ⊖ (v1 ⊗ v2)) (v1 ⊗ (v0 ⊖ v2)) refl)

  -- one more root
  pub product-next : (points p new : List A) (i : ℕ) (x : A) → i < length points → x ≡ get_or points i x
      → HaveSameCoefficients same zero_of new (times p x) → ((r : A) → same (at r p) (over r (take i points)))
      → (r : A) → same (at r new) (over r (take (i + 1) points))
  product-next points p new i x l e h before r =
      same_class E _ _
      (class_same E _ _ (value-times r x p new h)
      ∙ ap (λ v. C.product v (class E (sum r (negative x)))) (class_same E _ _ (before r) ∙ sym (root_product-class E G P R r (take i points)))
      ∙ ring C (OverRing.root_product C (class E r) (map (class E) (take i points)) ∷ class E (sum r (negative x)) ∷ []) (v0 ⊗ v1) (v0 ⊗ (v1 ⊗ 𝟙)) refl
      ∙ sym (root_product-append C (class E r) (map (class E) (take i points)) (class E x ∷ []))
      ∙ ap (OverRing.root_product C (class E r)) (sym (Lists.map-append (class E) (take i points) (x ∷ []))
      ∙ ap (map (class E)) (sym (take_more points i x l ∙ ap (λ y. take i points ++ (y ∷ [])) (sym e))))
      ∙ root_product-class E G P R r (take (i + 1) points))

  -- the greatest coefficient stays one
  pub leading-next : (p new : List A) (i : ℕ) (x : A) → length p ≡ suc i → HaveSameCoefficients same zero_of new (times p x)
      → same (coefficient zero_of p i) one → same (coefficient zero_of new (i + 1)) one
  leading-next p new i x l h e =
      let more : suc i ≡ i + 1 = omega arith in
      let n : 0 + suc i ≡ suc i = omega arith in
      subst (λ j. same (coefficient zero_of new j) one) more
      (same_class E _ _
      (class_same E _ _ (subst (λ j. same (coefficient zero_of new j) (sum (coefficient zero_of (zero_of ∷ p) j) (negative (product (coefficient zero_of p (suc i)) x)))) n
      (subtracted-from E G P R 0 (zero_of ∷ p) new p x h (suc i)))
      ∙ ap (λ y. C.sum (class E (coefficient zero_of p i)) (C.negative (C.product (class E y) (class E x)))) (get_or_past p (suc i) zero_of (omega (arith, l)))
      ∙ ring C (class E (coefficient zero_of p i) ∷ class E x ∷ []) (v0 ⊖ (𝟘 ⊗ v1)) v0 refl ∙ class_same E _ _ e))

  module _ {inverse : A → A} (F : IsField same zero_of product one inverse) where
    abbrev K : Field (Class E)
    K = field_of_classes E G P R F

    -- at a point before, the product is zero
    zero_before : (points : List A) (i k : ℕ) → i < length points → k < i → class E (over (get_or points k zero_of) (take i points)) ≡ C.zero
    zero_before points i k l m =
        let front = map (class E) (take i points) in
        let count : length front ≡ i = length-classes E (take i points) ∙ length-take-le i points (omega (arith, l)) in
        sym (root_product-class E G P R (get_or points k zero_of) (take i points))
        ∙ ap (λ x. OverRing.root_product C x front) (sym (coefficient-class E G P R (take i points) k ∙ ap (class E) (get_or-take i points k zero_of m)))
        ∙ root_product-at_root C front k (class E zero_of) (omega (arith, m, count))

    -- and at the next it is not
    nonzero_next : (points : List A) (i : ℕ) → AreApart same points → i < length points → class E (over (get_or points i zero_of) (take i points)) ≢ C.zero
    nonzero_next points i apart l e =
        root_product-nonzero K (class E (get_or points i zero_of)) (map (class E) (take i points)) apart_from
        (root_product-class E G P R (get_or points i zero_of) (take i points) ∙ e)
      where
        apart_from : All (λ y. class E (get_or points i zero_of) ≢ y) (map (class E) (take i points))
        apart_from k d m z =
            let n : k < i = omega (arith, m, length-classes E (take i points), length-take-le i points (omega (arith, l))) in
            apart k i zero_of n l
            (E.symmetric _ _ (same_class E _ _
            (z ∙ Lists.get_or-map (class E) (take i points) k zero_of d (omega (arith, m, length-classes E (take i points))) ∙ ap (class E) (get_or-take i points k zero_of n))))

    -- one value more
    pub fits-next : (points values fit prod new : List A) (i : ℕ) (c1 c2 divisor inv c : A) → AreApart same points → i < length points
        → ((r : A) → same (at r prod) (over r (take i points)))
        → ((k : ℕ) → k < i → same (at (get_or points k zero_of) fit) (get_or values k zero_of))
        → same c1 (at (get_or points i zero_of) fit) → same c2 (sum c1 (negative (get_or values i zero_of)))
        → same divisor (at (get_or points i zero_of) prod) → same inv (inverse divisor) → same c (product c2 inv)
        → HaveSameCoefficients same zero_of new (polynomial_difference sum negative fit (polynomial_multiple product prod c))
        → (k : ℕ) → k < i + 1 → same (at (get_or points k zero_of) new) (get_or values k zero_of)
    fits-next points values fit prod new i c1 c2 divisor inv c apart l roots fits h1 h2 hd hi hc h k m =
        elim (cases_lt k i) [ inl b ↦ below k b | inr g ↦ (let e : i ≡ k = omega (arith, m, g) in subst (λ k. same (at (get_or points k zero_of) new) (get_or values k zero_of)) e here) ]
      where
        below : (k : ℕ) → k < i → same (at (get_or points k zero_of) new) (get_or values k zero_of)
        below k b =
            let x = get_or points k zero_of in
            same_class E _ _
            (value-less E G P R x fit new prod c h
            ∙ combine C (class E (at x fit) ∷ class E (at x prod) ∷ class E c ∷ []) (v0 ⊖ (v1 ⊗ v2)) v0 (minus v2) v1 𝟘
            (class_same E _ _ (roots x) ∙ zero_before points i k l b) refl
            ∙ class_same E _ _ (fits k b))

        here : same (at (get_or points i zero_of) new) (get_or values i zero_of)
        here =
            let x = get_or points i zero_of in
            let z = class E (at x prod) in
            let z_nonzero : z ≢ C.zero = λ e. nonzero_next points i apart l (sym (class_same E _ _ (roots x)) ∙ e) in
            let inverse_is : class E inv ≡ K.inverse z = class_same E _ _ hi ∙ class_same E _ _ (F.respects _ _ hd) in
            let c_is : class E c ≡ C.product (C.sum (class E (at x fit)) (C.negative (class E (get_or values i zero_of)))) (K.inverse z) =
            class_same E _ _ hc ∙ ap₂ C.product (class_same E _ _ h2 ∙ ap (λ v. C.sum v (C.negative (class E (get_or values i zero_of)))) (class_same E _ _ h1)) inverse_is in
            same_class E _ _
            (value-less E G P R x fit new prod c h
            ∙ combine2 C (class E (at x fit) ∷ z ∷ class E c ∷ class E (get_or values i zero_of) ∷ K.inverse z ∷ []) (v0 ⊖ (v1 ⊗ v2)) v3
            (minus v1) v2 ((v0 ⊖ v3) ⊗ v4) (v3 ⊖ v0) (v1 ⊗ v4) 𝟙
            c_is (K.product_inverse z z_nonzero) refl)

    -- at the end the product has the number of points as its degree
    pub product-degree : (prod : List A) (n : ℕ) → length prod ≡ n + 1 → same (coefficient zero_of prod n) one → HasExactDegree same zero_of prod n
    product-degree prod n l h = record {
      leading = λ e. F.distinct (E.transitive _ _ _ (E.symmetric _ _ h) e);
      above = λ i m. rw (get_or_past prod i zero_of (omega (arith, l, m))) (E.reflexive zero_of);
    }

    -- and each point as its zero
    pub product-zeros : (points prod : List A) (n : ℕ) → length points ≤ n → ((r : A) → same (at r prod) (over r (take n points)))
        → (k : ℕ) → k < length points → same (at (get_or points k zero_of) prod) zero_of
    product-zeros points prod n all roots k l =
        let whole : take n points ≡ points = Lists.take_all n points all in
        same_class E _ _
        (class_same E _ _ (roots (get_or points k zero_of)) ∙ ap (λ xs. class E (over (get_or points k zero_of) xs)) whole
        ∙ sym (root_product-class E G P R (get_or points k zero_of) points)
        ∙ ap (λ x. OverRing.root_product C x (map (class E) points)) (sym (coefficient-class E G P R points k))
        ∙ root_product-at_root C (map (class E) points) k (class E zero_of) (omega (arith, l, length-classes E points)))
