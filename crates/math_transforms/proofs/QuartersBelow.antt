-- Two levels below a place of a tree of square roots in one pass, in a commutative ring.
use Rattle.std.proofs.Common.{◌≡◌, ◌∙◌, inl, inr, ℕ, ◌+◌, ◌-◌, ◌*◌, ◌<◌, ◌≤◌, ◌^◌, true, false, List, [], ◌∷◌, ◌++◌, length, get_or, refl, sym, ap, ap₂, subst, length-append, arith}
use Rattle.std.proofs.lemmas.Bool.{cases_lt}
use Rattle.std.proofs.lemmas.List.{get_or_append_left, get_or-append-add}
use Rattle.math_theory.specs.OverRing as OverRing
use Rattle.math_theory.specs.Rings.{CommutativeRing}
use Rattle.math_theory.proofs.polynomials.Coefficients.{coefficient-multiple}
use Rattle.math_theory.proofs.rings.Normal.{ring, ◌⊕◌, ◌⊖◌, ◌⊗◌, minus, 𝟙, v0, v1, v2}
use Rattle.math_base.specs.Columns.{IsCombined}
use Rattle.math_base.specs.Columns.{IsTurned}
use Rattle.math_transforms.specs.RootTrees.{AreValuesBelow, IsRootTree, entry}
use Rattle.math_transforms.proofs.LevelsBelow.{AreMultiplesAt, below, child-within, multiples-level, sums, sums-item, sums-length, values-level}
use Rattle.math_transforms.proofs.PointsBelow.{plain}

module _ {K : Type 0} (C : CommutativeRing K) where
  -- what holds of the items of four lists, and of those of four further lists
  each_item : (Q : K → K → K → K → Type 0) (s s' : ℕ) (p q u v p' q' u' v' : List K) → length p ≡ s → length q ≡ s → length u ≡ s → length v ≡ s
      → ((j : ℕ) → j < s → Q (get_or p j C.zero) (get_or q j C.zero) (get_or u j C.zero) (get_or v j C.zero))
      → ((j : ℕ) → j < s' → Q (get_or p' j C.zero) (get_or q' j C.zero) (get_or u' j C.zero) (get_or v' j C.zero))
      → (j : ℕ) → j < s + s' → Q (get_or (p ++ p') j C.zero) (get_or (q ++ q') j C.zero) (get_or (u ++ u') j C.zero) (get_or (v ++ v') j C.zero)
  each_item Q s s' p q u v p' q' u' v' lp lq lu lv f g j b =
      elim (cases_lt j s) [
        | inl here ↦
            rw (
              get_or_append_left p p' C.zero j (omega (arith, here, lp)),
              get_or_append_left q q' C.zero j (omega (arith, here, lq)),
              get_or_append_left u u' C.zero j (omega (arith, here, lu)),
              get_or_append_left v v' C.zero j (omega (arith, here, lv)),
            ) (f j here)
        | inr past ↦ further (j - s) (omega (arith, past)) (omega (arith, b, past))
      ]
    where
      behind : (k : ℕ) (x y : List K) → length x ≡ s → get_or (x ++ y) (s + k) C.zero ≡ get_or y k C.zero
      behind k x y e = let at : s + k ≡ length x + k = omega (arith, e) in ap (λ i. get_or (x ++ y) i C.zero) at ∙ get_or-append-add x y k C.zero

      further : (k : ℕ) → j ≡ s + k → k < s' → Q (get_or (p ++ p') j C.zero) (get_or (q ++ q') j C.zero) (get_or (u ++ u') j C.zero) (get_or (v ++ v') j C.zero)
      further k e m = rw (e, behind k p p' lp, behind k q q' lq, behind k u u' lu, behind k v v' lv) (g k m)

  module _ (turn : K) (square : C.product turn turn ≡ C.negative C.one) (roots : List K) (tree : IsRootTree (plain C) turn roots)
      (lg place cols : ℕ) (two : 2 ≤ lg) (one : 1 ≤ place) (within : 2 ^ lg * (place + 1) ≤ 2 * length roots) where
    abbrev s : ℕ
    s = 2 ^ (lg - 2) * cols

    abbrev e : K
    e = entry (plain C) roots (2 * place)

    abbrev f : K
    f = entry (plain C) roots (2 * place + 1)

    abbrev g : K
    g = entry (plain C) roots place

    some : 0 < lg
    some = omega (arith, two)

    next : lg - 1 - 1 ≡ lg - 2
    next = omega arith

    first-within : 2 ^ (lg - 1) * (2 * place + 1) ≤ 2 * length roots
    first-within = let z : 2 * place + 0 ≡ 2 * place = omega arith in rw z at (child-within lg place 0 (length roots) some (omega arith) within)

    second-within : 2 ^ (lg - 1) * (2 * place + 1 + 1) ≤ 2 * length roots
    second-within = child-within lg place 1 (length roots) some (omega arith) within

    half-cells : 2 ^ (lg - 1) * cols ≡ s + s
    half-cells = let h = below (lg - 1) place cols (omega (arith, two)) in ap (λ i. i * cols) (h.rows ∙ ap (λ i. 2 ^ i + 2 ^ i) next) ∙ omega arith

    quarter-cells : 2 ^ (lg - 1 - 1) * cols ≡ s
    quarter-cells = ap (λ i. 2 ^ i * cols) next

    third-place : 2 * (2 * place) + 2 ≡ 2 * (2 * place + 1)
    third-place = omega arith

    fourth-place : 2 * (2 * place) + 3 ≡ 2 * (2 * place + 1) + 1
    fourth-place = omega arith

    module _ (a b c d : List K) (a_count : length a ≡ s) (b_count : length b ≡ s) (c_count : length c ≡ s) (d_count : length d ≡ s) where
      -- the four quarters turned, and then each of them turned into its values, are the values
      pub values-quarters : (na nb nc nd va vb vc vd : List K) → length va ≡ s → length vb ≡ s → length vc ≡ s
          → ((j : ℕ) → j < s → IsTurned (plain C) true e f g (get_or a j C.zero) (get_or b j C.zero) (get_or c j C.zero) (get_or d j C.zero)
          (get_or na j C.zero) (get_or nb j C.zero) (get_or nc j C.zero) (get_or nd j C.zero))
          → AreValuesBelow (plain C) roots (lg - 2) (2 * (2 * place)) cols na va → AreValuesBelow (plain C) roots (lg - 2) (2 * (2 * place) + 1) cols nb vb
          → AreValuesBelow (plain C) roots (lg - 2) (2 * (2 * place) + 2) cols nc vc → AreValuesBelow (plain C) roots (lg - 2) (2 * (2 * place) + 3) cols nd vd
          → AreValuesBelow (plain C) roots lg place cols ((a ++ b) ++ (c ++ d)) ((va ++ vb) ++ (vc ++ vd))
      values-quarters na nb nc nd va vb vc vd va_count vb_count vc_count turned first second third fourth =
          let ma = sums C g a c in
          let mb = sums C g b d in
          let mc = sums C (C.negative g) a c in
          let md = sums C (C.negative g) b d in
          let lma : length ma ≡ s = sums-length C g a c (c_count ∙ sym a_count) ∙ a_count in
          let lmc : length mc ≡ s = sums-length C (C.negative g) a c (c_count ∙ sym a_count) ∙ a_count in
          let split : (p q : List K) (j : ℕ) → IsCombined (plain C) true g (get_or p j C.zero) (get_or q j C.zero) (get_or (sums C g p q) j C.zero) (get_or (sums C (C.negative g) p q) j C.zero) =
          λ p q j. record {
            sum = sums-item C g p q j;
            difference = sums-item C (C.negative g) p q j ∙ ring C (get_or p j C.zero ∷ get_or q j C.zero ∷ g ∷ []) (v0 ⊕ (v1 ⊗ minus v2)) (v0 ⊕ minus (v1 ⊗ v2)) refl;
          } in
          let front : AreValuesBelow (plain C) roots (lg - 1) (2 * place) cols (ma ++ mb) (va ++ vb) =
          values-level C turn roots tree (lg - 1) (2 * place) cols (λ _. square) (omega (arith, two)) (omega (arith, one)) first-within ma mb na nb (lma ∙ sym quarter-cells) va vb (va_count ∙ sym quarter-cells)
          (λ j m. let inside : j < s = omega (arith, m, quarter-cells) in
          let h = turned j inside in
          record {
            sum = h.first ∙ ap₂ (λ x y. C.sum x (C.product y e)) (sym (sums-item C g a c j)) (sym (sums-item C g b d j));
            difference = h.second ∙ ap₂ (λ x y. C.sum x (C.negative (C.product y e))) (sym (sums-item C g a c j)) (sym (sums-item C g b d j));
          })
          (subst (λ i. AreValuesBelow (plain C) roots i (2 * (2 * place)) cols na va) (sym next) first)
          (subst (λ i. AreValuesBelow (plain C) roots i (2 * (2 * place) + 1) cols nb vb) (sym next) second) in
          let behind : AreValuesBelow (plain C) roots (lg - 1) (2 * place + 1) cols (mc ++ md) (vc ++ vd) =
          values-level C turn roots tree (lg - 1) (2 * place + 1) cols (λ _. square) (omega (arith, two)) (omega arith) second-within mc md nc nd (lmc ∙ sym quarter-cells) vc vd (vc_count ∙ sym quarter-cells)
          (λ j m. let inside : j < s = omega (arith, m, quarter-cells) in
          let h = turned j inside in
          record {
            sum = h.third ∙ ap₂ (λ x y. C.sum x (C.product y f)) (sym ((split a c j).difference)) (sym ((split b d j).difference));
            difference = h.fourth ∙ ap₂ (λ x y. C.sum x (C.negative (C.product y f))) (sym ((split a c j).difference)) (sym ((split b d j).difference));
          })
          (subst (λ i. AreValuesBelow (plain C) roots i (2 * (2 * place + 1)) cols nc vc) (sym next) (subst (λ i. AreValuesBelow (plain C) roots (lg - 2) i cols nc vc) third-place third))
          (subst (λ i. AreValuesBelow (plain C) roots i (2 * (2 * place + 1) + 1) cols nd vd) (sym next) (subst (λ i. AreValuesBelow (plain C) roots (lg - 2) i cols nd vd) fourth-place fourth)) in
          values-level C turn roots tree lg place cols (λ _. square) some one within (a ++ b) (c ++ d) (ma ++ mb) (mc ++ md) (omega (arith, length-append a b, a_count, b_count, half-cells))
          (va ++ vb) (vc ++ vd) (omega (arith, length-append va vb, va_count, vb_count, half-cells))
          (λ j m. each_item (λ x y z w. IsCombined (plain C) true g x y z w) s s a c ma mc b d mb md a_count c_count lma lmc (λ i _. split a c i) (λ i _. split b d i) j (omega (arith, m, half-cells)))
          front behind

      -- four quarters of multiples, turned back, are multiples
      pub multiples-quarters : (x : K) (ma mb mc md na nb nc nd : List K) → length ma ≡ s → length mb ≡ s → length mc ≡ s → length md ≡ s → length na ≡ s → length nb ≡ s → length nc ≡ s
          → ((j : ℕ) → j < s → IsTurned (plain C) false e f g (get_or ma j C.zero) (get_or mb j C.zero) (get_or mc j C.zero) (get_or md j C.zero)
          (get_or na j C.zero) (get_or nb j C.zero) (get_or nc j C.zero) (get_or nd j C.zero))
          → AreMultiplesAt C x roots (lg - 2) (2 * (2 * place)) cols a ma → AreMultiplesAt C x roots (lg - 2) (2 * (2 * place) + 1) cols b mb
          → AreMultiplesAt C x roots (lg - 2) (2 * (2 * place) + 2) cols c mc → AreMultiplesAt C x roots (lg - 2) (2 * (2 * place) + 3) cols d md
          → AreMultiplesAt C x roots lg place cols ((a ++ b) ++ (c ++ d)) ((na ++ nb) ++ (nc ++ nd))
      multiples-quarters x ma mb mc md na nb nc nd ma_count mb_count mc_count md_count na_count nb_count nc_count turned first second third fourth =
          let sa = sums C C.one ma mb in
          let sb = OverRing.polynomial_multiple C (sums C (C.negative C.one) ma mb) e in
          let sc = sums C C.one mc md in
          let sd = OverRing.polynomial_multiple C (sums C (C.negative C.one) mc md) f in
          let lsa : length sa ≡ s = sums-length C C.one ma mb (mb_count ∙ sym ma_count) ∙ ma_count in
          let lsc : length sc ≡ s = sums-length C C.one mc md (md_count ∙ sym mc_count) ∙ mc_count in
          let joined : (r : K) (p q : List K) (j : ℕ) → IsCombined (plain C) false r (get_or p j C.zero) (get_or q j C.zero) (get_or (sums C C.one p q) j C.zero)
          (get_or (OverRing.polynomial_multiple C (sums C (C.negative C.one) p q) r) j C.zero) =
          λ r p q j. record {
            sum = sums-item C C.one p q j ∙ ring C (get_or p j C.zero ∷ get_or q j C.zero ∷ []) (v0 ⊕ (v1 ⊗ 𝟙)) (v0 ⊕ v1) refl;
            difference = coefficient-multiple C (sums C (C.negative C.one) p q) r j ∙ ap (λ y. C.product y r)
                (sums-item C (C.negative C.one) p q j ∙ ring C (get_or p j C.zero ∷ get_or q j C.zero ∷ []) (v0 ⊕ (v1 ⊗ minus 𝟙)) (v0 ⊖ v1) refl);
          } in
          let front : AreMultiplesAt C x roots (lg - 1) (2 * place) cols (a ++ b) (sa ++ sb) =
          multiples-level C turn roots tree (lg - 1) (2 * place) cols (λ _. square) (omega (arith, two)) (omega (arith, one)) first-within x a b ma mb sa sb (a_count ∙ sym quarter-cells) (lsa ∙ sym quarter-cells)
          (λ j m. joined e ma mb j)
          (subst (λ i. AreMultiplesAt C x roots i (2 * (2 * place)) cols a ma) (sym next) first)
          (subst (λ i. AreMultiplesAt C x roots i (2 * (2 * place) + 1) cols b mb) (sym next) second) in
          let behind : AreMultiplesAt C x roots (lg - 1) (2 * place + 1) cols (c ++ d) (sc ++ sd) =
          multiples-level C turn roots tree (lg - 1) (2 * place + 1) cols (λ _. square) (omega (arith, two)) (omega arith) second-within x c d mc md sc sd (c_count ∙ sym quarter-cells) (lsc ∙ sym quarter-cells)
          (λ j m. joined f mc md j)
          (subst (λ i. AreMultiplesAt C x roots i (2 * (2 * place + 1)) cols c mc) (sym next) (subst (λ i. AreMultiplesAt C x roots (lg - 2) i cols c mc) third-place third))
          (subst (λ i. AreMultiplesAt C x roots i (2 * (2 * place + 1) + 1) cols d md) (sym next) (subst (λ i. AreMultiplesAt C x roots (lg - 2) i cols d md) fourth-place fourth)) in
          let top : (j : ℕ) → j < s → IsCombined (plain C) false g (get_or sa j C.zero) (get_or sc j C.zero) (get_or na j C.zero) (get_or nc j C.zero) =
          λ j m. record {
            sum = (turned j m).first ∙ ap₂ C.sum (sym ((joined e ma mb j).sum)) (sym ((joined f mc md j).sum));
            difference = (turned j m).third ∙ ap₂ (λ y z. C.product (C.sum y (C.negative z)) g) (sym ((joined e ma mb j).sum)) (sym ((joined f mc md j).sum));
          } in
          let bottom : (j : ℕ) → j < s → IsCombined (plain C) false g (get_or sb j C.zero) (get_or sd j C.zero) (get_or nb j C.zero) (get_or nd j C.zero) =
          λ j m. record {
            sum = (turned j m).second ∙ ap₂ C.sum (sym ((joined e ma mb j).difference)) (sym ((joined f mc md j).difference));
            difference = (turned j m).fourth ∙ ap₂ (λ y z. C.product (C.sum y (C.negative z)) g) (sym ((joined e ma mb j).difference)) (sym ((joined f mc md j).difference));
          } in
          multiples-level C turn roots tree lg place cols (λ _. square) some one within x (a ++ b) (c ++ d) (sa ++ sb) (sc ++ sd) (na ++ nb) (nc ++ nd)
          (omega (arith, length-append a b, a_count, b_count, half-cells)) (omega (arith, length-append na nb, na_count, nb_count, half-cells))
          (λ j m. each_item (λ x y z w. IsCombined (plain C) false g x y z w) s s sa sc na nc sb sd nb nd lsa lsc na_count nc_count top bottom j (omega (arith, m, half-cells)))
          front behind
