-- The values of polynomials that are built coefficient by coefficient, up to a type's own equality.
use Rattle.std.proofs.Common.{◌≡◌, ℕ, suc, ◌<◌, List, [], ◌∷◌, ◌++◌, length, map, get_or, refl, sym, ◌∙◌, ap, ap₂, arith}
use Rattle.std.proofs.lemmas.List.{map-append, get_or-map, get_or_default, length-map, same_lists}
use Rattle.std.specs.List.{All}
use Rattle.math_theory.specs.Laws.{IsEquality, IsGroup, IsProduct, IsRing}
use Rattle.math_theory.specs.OverRing as OverRing
use Rattle.math_theory.specs.Powers.{power, power-suc}
use Rattle.math_theory.specs.Rings.{CommutativeRing}
use Rattle.math_theory.specs.Values.{value}
use Rattle.math_theory.proofs.classes.Classes.{Class, class, class_same, same_class, ring_of_classes}
use Rattle.math_theory.proofs.classes.ClassesOfLists.{power-class, value-class, length-classes, coefficient-class}
use Rattle.math_theory.proofs.polynomials.Coefficients.{coefficient-dilation, length-dilation, value-zero_polynomial}
use Rattle.math_theory.proofs.transforms.EvenOddItems.{value-append}
use Rattle.math_theory.proofs.rings.Normal.{combine3, ◌⊕◌, ◌⊗◌, ◌⊖◌, 𝟘, 𝟙, v0, v1, v2, v3, v4, v5, v6, v7, v8}
use Rattle.math_theory.proofs.classes.RingUpToSame.{combine_same}
use Rattle.math_theory.proofs.transforms.TransformValues.{value-of_one_coefficient}
use Rattle.math_theory.proofs.polynomials.Values.{value-dilation, value-multiple, value-at_zero}

module _ {A : Type 0} {same : A → A → Type 0} {zero_of : A} {sum : A → A → A} {negative : A → A} {product : A → A → A} {one : A}
    (E : IsEquality same) (G : IsGroup same zero_of sum negative) (P : IsProduct same product) (R : IsRing same sum product one) where
  abbrev C : CommutativeRing (Class E)
  C = ring_of_classes E G P R

  abbrev classes : List A → List (Class E)
  classes p = map (class E) p

  abbrev at : A → List A → A
  at r p = value zero_of sum product one r p

  abbrev pow : A → ℕ → A
  pow r n = power one product r n

  -- two lists, one after the other
  pub value-joined : (r : A) (p q : List A) (n : ℕ) → length p ≡ n → same (at r (p ++ q)) (sum (at r p) (product (pow r n) (at r q)))
  value-joined r p q n e =
      same_class E _ _
      (sym (value-class E G P R r (p ++ q))
      ∙ ap (OverRing.value C (class E r)) (map-append (class E) p q)
      ∙ value-append C (class E r) (classes p) (classes q)
      ∙ ap₂ C.sum (value-class E G P R r p)
      (ap₂ C.product (ap (OverRing.power C (class E r)) (length-classes E p ∙ e) ∙ power-class E G P R r n) (value-class E G P R r q)))

  -- one coefficient more
  pub value-pushed : (r : A) (p : List A) (a : A) (n : ℕ) → length p ≡ n → same (at r (p ++ (a ∷ []))) (sum (at r p) (product (pow r n) a))
  value-pushed r p a n e =
      E.transitive _ _ _ (value-joined r p (a ∷ []) n e)
      (G.respects_sum _ _ _ _ (E.reflexive (at r p)) (P.respects _ _ _ _ (E.reflexive (pow r n))
      (same_class E _ _ (sym (value-class E G P R r (a ∷ [])) ∙ value-of_one_coefficient C (class E r) (class E a)))))

  -- the value at zero is the first coefficient
  pub value-at_zero-same : (p : List A) → same (at zero_of p) (get_or p 0 zero_of)
  value-at_zero-same p = same_class E _ _ (sym (value-class E G P R zero_of p) ∙ value-at_zero C (classes p) ∙ coefficient-class E G P R p 0)

  pub value-at : (r s : A) (p : List A) → same r s → same (at r p) (at s p)
  value-at r s p h = same_class E _ _ (sym (value-class E G P R r p) ∙ ap (λ x. OverRing.value C x (classes p)) (class_same E r s h) ∙ value-class E G P R s p)

  -- coefficients that are same, place by place
  pub value-respects : (r : A) (p q : List A) → length p ≡ length q → ((j : ℕ) → j < length p → same (get_or p j zero_of) (get_or q j zero_of)) → same (at r p) (at r q)
  value-respects r p q l h =
      let e : classes p ≡ classes q =
      same_lists (classes p) (classes q) (length-classes E p ∙ l ∙ sym (length-classes E q))
      (λ k d m. let n : k < length p = omega (arith, m, length-classes E p) in
      get_or-map (class E) p k zero_of d n ∙ class_same E _ _ (h k n) ∙ sym (get_or-map (class E) q k zero_of d (omega (arith, n, l)))) in
      same_class E _ _ (sym (value-class E G P R r p) ∙ ap (OverRing.value C (class E r)) e ∙ value-class E G P R r q)

  -- coefficient j times power j of s: the value at r is that at s r
  pub value-dilated : (r s : A) (p q : List A) → length q ≡ length p → ((j : ℕ) → j < length p → same (get_or q j zero_of) (product (get_or p j zero_of) (pow s j)))
      → same (at r q) (at (product s r) p)
  value-dilated r s p q l h =
      let dilated : List (Class E) = OverRing.polynomial_dilation C (class E s) (classes p) in
      let long : length dilated ≡ length p = length-dilation C.product C.one C.product (class E s) (classes p) ∙ length-classes E p in
      let e : classes q ≡ dilated =
      same_lists (classes q) dilated (length-classes E q ∙ l ∙ sym long)
      (λ k d m. let n : k < length p = omega (arith, m, length-classes E q, l) in
      get_or-map (class E) q k zero_of d (omega (arith, n, l)) ∙ class_same E _ _ (h k n)
      ∙ sym (get_or_default dilated k d (class E zero_of) (omega (arith, n, long)) ∙ coefficient-dilation C (class E s) (classes p) k
      ∙ ap₂ C.product (coefficient-class E G P R p k) (power-class E G P R s k))) in
      same_class E _ _
      (sym (value-class E G P R r q) ∙ ap (OverRing.value C (class E r)) e ∙ value-dilation C (class E r) (class E s) (classes p) ∙ value-class E G P R (product s r) p)

  -- zeros after the coefficients
  pub value-zeros_after : (r : A) (p rest : List A) → All (λ c. same c zero_of) rest → same (at r (p ++ rest)) (at r p)
  value-zeros_after r p rest h =
      let none : OverRing.IsZeroPolynomial C (classes rest) =
      λ k d m. let n : k < length rest = omega (arith, m, length-classes E rest) in get_or-map (class E) rest k zero_of d n ∙ class_same E _ _ (h k zero_of n) in
      let nothing : same (at r rest) zero_of = same_class E _ _ (sym (value-class E G P R r rest) ∙ value-zero_polynomial C (class E r) (classes rest) none) in
      E.transitive _ _ _ (value-joined r p rest (length p) refl)
      (combine_same E G P R (at r p ∷ pow r (length p) ∷ at r rest ∷ []) (v0 ⊕ (v1 ⊗ v2)) v0 v1 v2 𝟘 nothing refl)

  pub value-of_one : (r c : A) (p : List A) → p ≡ c ∷ [] → same c one → same (at r p) one
  value-of_one r c p e h = rw e (E.transitive _ _ _ (same_class E _ _ (sym (value-class E G P R r (c ∷ [])) ∙ value-of_one_coefficient C (class E r) (class E c))) h)

  -- coefficients, and after them each times a factor
  pub value-with_multiple : (factor r : A) (low copies high all : List A) (n : ℕ) → length low ≡ n → all ≡ low ++ high → length copies ≡ n → length high ≡ length copies
      → ((j : ℕ) → j < n → same (get_or copies j zero_of) (get_or low j zero_of)) → ((j : ℕ) → j < length copies → same (get_or high j zero_of) (product (get_or copies j zero_of) factor))
      → same (at r all) (product (sum one (product factor (pow r n))) (at r low))
  value-with_multiple factor r low copies high all n l e lc lh hc hh =
      let multiple : List (Class E) = OverRing.polynomial_multiple C (classes low) (class E factor) in
      let is_multiple : classes high ≡ multiple =
      same_lists (classes high) multiple (length-classes E high ∙ lh ∙ lc ∙ sym (length-map (classes low) (λ c. C.product c (class E factor)) ∙ length-classes E low ∙ l))
      (λ k d m. let inside : k < n = omega (arith, m, length-classes E high, lh, lc) in
      get_or-map (class E) high k zero_of d (omega (arith, lh, lc)) ∙ class_same E _ _ (E.transitive _ _ _ (hh k (omega (arith, lc))) (P.respects _ _ _ _ (hc k inside) (E.reflexive factor)))
      ∙ sym (get_or-map (λ c. C.product c (class E factor)) (classes low) k (class E zero_of) d (omega (arith, inside, l, length-classes E low))
      ∙ ap (λ c. C.product c (class E factor)) (coefficient-class E G P R low k))) in
      let high_is : same (at r high) (product (at r low) factor) =
      same_class E _ _ (sym (value-class E G P R r high) ∙ ap (OverRing.value C (class E r)) is_multiple ∙ value-multiple C (class E r) (classes low) (class E factor)
      ∙ ap (λ x. C.product x (class E factor)) (value-class E G P R r low)) in
      rw e (E.transitive _ _ _ (value-joined r low high n l)
      (combine_same E G P R (at r low ∷ pow r n ∷ factor ∷ at r high ∷ []) (v0 ⊕ (v1 ⊗ v3)) ((𝟙 ⊕ (v2 ⊗ v1)) ⊗ v0) v1 v3 (v0 ⊗ v2) high_is refl))

  -- the product by X less a root, coefficient by coefficient: before the first, one more, and the last
  pub times_root-none : (root before r : A) → same before zero_of → same (sum (at r []) (product (pow r 0) before)) (product (at r []) (sum r (negative root)))
  times_root-none root before r h = combine_same E G P R (root ∷ before ∷ r ∷ pow r 0 ∷ []) (𝟘 ⊕ (v3 ⊗ v1)) (𝟘 ⊗ (v2 ⊖ v0)) v3 v1 𝟘 h refl

  times_root-pushed : (root c cell before next : A) (i : ℕ) (all some : List A) (r : A) → length all ≡ i → length some ≡ i → same cell (product c root) → same next (sum before (negative cell))
      → same (sum (at r all) (product (pow r i) before)) (product (at r some) (sum r (negative root)))
      → same (sum (at r (all ++ (next ∷ []))) (product (pow r (suc i)) c)) (product (at r (some ++ (c ∷ []))) (sum r (negative root)))
  times_root-pushed root c cell before next i all some r la ls hc hn h =
      rw (power-suc one product r i)
      (same_class E _ _ (class_same E _ _ (G.respects_sum _ _ _ _ (value-pushed r all next i la) (E.reflexive (product (product (pow r i) r) c)))
      ∙ combine3 C (class E root ∷ class E c ∷ class E cell ∷ class E before ∷ class E (pow r i) ∷ class E r ∷ class E (at r all) ∷ class E (at r some) ∷ class E next ∷ [])
      ((v6 ⊕ (v4 ⊗ v8)) ⊕ ((v4 ⊗ v5) ⊗ v1)) ((v7 ⊕ (v4 ⊗ v1)) ⊗ (v5 ⊖ v0))
      𝟙 (v6 ⊕ (v4 ⊗ v3)) (v7 ⊗ (v5 ⊖ v0)) v4 v8 (v3 ⊖ v2) (𝟘 ⊖ v4) v2 (v1 ⊗ v0)
      (class_same E _ _ h) (class_same E _ _ hn) (class_same E _ _ hc) refl
      ∙ sym (class_same E _ _ (P.respects _ _ _ _ (value-pushed r some c i ls) (E.reflexive (sum r (negative root)))))))

  pub times_root-more : (root x c copy cell before next : A) (i : ℕ) (all some : List A) (r : A) → length all ≡ i → length some ≡ i → same c x → same copy c → same cell (product copy root)
      → same next (sum before (negative cell)) → same (sum (at r all) (product (pow r i) before)) (product (at r some) (sum r (negative root)))
      → same (sum (at r (all ++ (next ∷ []))) (product (pow r (suc i)) c)) (product (at r (some ++ (x ∷ []))) (sum r (negative root)))
  times_root-more root x c copy cell before next i all some r la ls hx hcopy hc hn h =
      E.transitive _ _ _ (times_root-pushed root c cell before next i all some r la ls (E.transitive _ _ _ hc (P.respects _ _ _ _ hcopy (E.reflexive root))) hn h)
      (P.respects _ _ _ _
      (E.transitive _ _ _ (value-pushed r some c i ls)
      (E.transitive _ _ _ (G.respects_sum _ _ _ _ (E.reflexive (at r some)) (P.respects _ _ _ _ (E.reflexive (pow r i)) hx)) (E.symmetric _ _ (value-pushed r some x i ls))))
      (E.reflexive (sum r (negative root))))

  pub times_root-last : (root last : A) (some all all' : List A) (i : ℕ) (r : A) → length all ≡ i → all' ≡ all ++ (last ∷ [])
      → same (sum (at r all) (product (pow r i) last)) (product (at r some) (sum r (negative root))) → same (at r all') (product (at r some) (sum r (negative root)))
  times_root-last root last some all all' i r la e h = rw e (E.transitive _ _ _ (value-pushed r all last i la) h)
