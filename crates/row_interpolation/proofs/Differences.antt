-- Products of differences, and the weights that are made of them.
use Rattle.std.proofs.Common.{◌≡◌, ◌≢◌, ◌∙◌, inl, inr, ℕ, suc, ◌+◌, ◌<◌, ◌≤◌, ◌^◌, List, [], ◌∷◌, ◌++◌, length, take, drop, get_or, sym, ap, ap₂, subst, arith}
use Rattle.std.specs.Int.{IsNextPowerOfTwo}
use Rattle.std.specs.List.{All, Contains, remove}
use Rattle.std.proofs.lemmas.List.{at_drop_all, at_drop_more, get_or_default, get_or_push, get_or_append_left, length_push}
use Rattle.std.proofs.lemmas.Bool.{cases_lt}
use Rattle.math_theory.specs.Interpolation.{AreApart, weight_divisor}
use Rattle.math_theory.proofs.domains.RootProductLists.{root_product-append}
use Rattle.math_theory.proofs.interpolation.CarriedInterpolation.{divisors_nonzero, weights_by_quotients}
use Rattle.math_fields.specs.declared.goldilocks.F.{F}
use Rattle.math_fields.specs.ElementLaws.{commutes, equality, group, ring}
use Rattle.math_fields.specs.ElementRootLaws.{field}
use Rattle.math_fields.specs.Elements.{goldilocks, negative, number, product, residue, root_of, same, sum}
use Rattle.math_base.specs.Polynomials.{AreWeightsAt}
use Rattle.math_fields.proofs.ElementNumbers.{same_number}
use Rattle.math_restoring.specs.Restored.{AreDistinct, item}
use Rattle.math_transforms.specs.RootWeights.{powers_at}
use Rattle.math_transforms.proofs.PresentIndices.{lg-only}
use Rattle.math_values.proofs.ElementRing.{elements}
use Rattle.row_interpolation.specs.Weights.{AreOutside, AreOwnProducts, ArePointsOf, AreWanted, AreWeightsFor, differences}
use Rattle.row_interpolation.proofs.IndexPoints.{point, point-at, points-apart, points-count, points-distinct}
use Rattle.row_interpolation.proofs.RisingIndices.{rising-distinct}

-- the product with one
product_one : (a : F) → product a (residue 1) ≡ a
product_one a = elements.product_comm a (residue 1) ∙ elements.product_one a

-- no point so far
pub differences-none : (x out : F) (points : List F) → out ≡ residue 1 → product out (differences x points) ≡ differences x points
differences-none x out points is = ap (λ a. product a (differences x points)) is ∙ elements.product_one (differences x points)

-- one point more
pub differences-more : (x out new d : F) (points : List F) (i : ℕ) → i < length points → d ≡ sum x (negative (item points i)) → new ≡ product out d
    → product out (differences x (drop i points)) ≡ differences x points → product new (differences x (drop (i + 1) points)) ≡ differences x points
differences-more x out new d points i l is put h =
    let rest : F = differences x (drop (i + 1) points) in
    ap (λ a. product a rest) put
    ∙ elements.product_assoc out d rest
    ∙ ap (λ a. product out (product a rest)) is
    ∙ ap (product out) (sym (at_drop_more (differences x) points i (residue 0) l))
    ∙ h

-- all points
pub differences-all : (x out : F) (points : List F) (i : ℕ) → length points ≤ i → product out (differences x (drop i points)) ≡ differences x points → out ≡ differences x points
differences-all x out points i l h = sym (product_one out) ∙ ap (product out) (sym (at_drop_all (differences x) points i l)) ∙ h

-- the products before a point and behind it are that of the others
pub own-joined : (points : List F) (i : ℕ) (p before after : F) → before ≡ differences p (take i points) → after ≡ differences p (drop (suc i) points) → product before after ≡ differences p (remove points i)
own-joined points i p before after b a = ap₂ product b a ∙ sym (root_product-append elements p (take i points) (drop (suc i) points))

-- one item more
pub pushed-more : {X : Type 0} (d : X) (value : ℕ → X) (xs : List X) (n : ℕ) (x : X) → length xs ≡ n → x ≡ value n → ((k : ℕ) → k < n → get_or xs k d ≡ value k) → (k : ℕ) → k < n + 1 → get_or (xs ++ x ∷ []) k d ≡ value k
pushed-more d value xs n x count is h k l = elim (cases_lt k n) as (λ _. get_or (xs ++ x ∷ []) k d ≡ value k) [
  | inl before ↦ get_or_append_left xs (x ∷ []) d k (omega (arith, before, count)) ∙ h k before
  | inr after ↦ let e : n ≡ k = omega (arith, after, l) in subst (λ i. get_or (xs ++ x ∷ []) i d ≡ value i) e (get_or_push xs x d n count ∙ is)
]

-- no product so far
pub own-none : (points own : List F) → length own ≡ 0 → AreOwnProducts points 0 own
own-none points own none = record { count = none; each = λ k l. absurd (omega (arith, l)) }

-- one product more
pub own-more : (points own : List F) (n : ℕ) (x : F) → x ≡ differences (item points n) (remove points n) → AreOwnProducts points n own → AreOwnProducts points (n + 1) (own ++ x ∷ [])
own-more points own n x is h = record {
  count = length_push own x ∙ ap (λ i. i + 1) h.count;
  each = pushed-more (residue 0) (λ k. differences (item points k) (remove points k)) own n x h.count is h.each;
}

-- quotients of the product of all differences by these divisors are weights
pub weights-of_quotients : (x numerator : F) (points own ds ws : List F) → AreOutside x points → AreOwnProducts points (length points) own
    → numerator ≡ differences x points → length ds ≡ length points → ((k : ℕ) → k < length points → item ds k ≡ product (sum x (negative (item points k))) (item own k))
    → length ws ≡ length ds → (All (λ d. ¬ (same d (residue 0))) ds → (k : ℕ) → k < length ds → same (product (item ws k) (item ds k)) numerator) → AreWeightsAt goldilocks x points ws
weights-of_quotients x numerator points own ds ws away O whole count each many give =
    let apart : AreApart same points = away.apart in
    let outside : All (λ p. ¬ (same p x)) points = away.outside in
    let is : (k : ℕ) → k < length points → item ds k ≡ weight_divisor (residue 0) sum negative product (residue 1) x points k =
    λ k l. each k l ∙ ap (product (sum x (negative (item points k)))) (O.each k l) in
    let nonzero : All (λ d. ¬ (same d (residue 0))) ds =
    λ k d l z.
    let m : k < length points = omega (arith, l, count) in
    divisors_nonzero equality group commutes ring field x points apart outside k m (sym (ap number (get_or_default ds k d (residue 0) l ∙ is k m)) ∙ z) in
    weights_by_quotients equality group commutes ring field x points ws apart outside (many ∙ count)
    (λ k l. sym (ap (λ d. number (product (item ws k) d)) (is k l)) ∙ give nonzero k (omega (arith, l, count)) ∙ ap number whole)

-- points of distinct indices are apart, and that of another index is none of them
module _ (lg total : ℕ) (indices : List ℕ) (small : lg ≤ 32) (inside : total ≤ 2 ^ lg) (are : AreDistinct indices × All (λ i. i < total) indices) where
  pub points-are_apart : AreApart same (powers_at goldilocks (root_of lg) indices)
  points-are_apart i j d l m e = points-distinct lg total indices small inside are i j d l m (same_number _ _ e)

  pub point-outside : (index : ℕ) → index < total → ¬ (Contains indices index) → All (λ p. ¬ (same p (point lg index))) (powers_at goldilocks (root_of lg) indices)
  point-outside index below missing k d l e =
      let b : k < length indices = omega (arith, l, points-count lg total indices small inside are) in
      let i : ℕ = get_or indices k 0 in
      let apart : i ≢ index = λ f. missing (k, b, get_or_default indices k index 0 b ∙ f) in
      let less : i < total = are.1 k 0 b in
      points-apart lg i index small (omega (arith, less, inside)) (omega (arith, below, inside)) apart
      (sym (point-at lg total indices small inside are k d b) ∙ same_number _ _ e)

-- what are weights at the point of a wanted index, if the points are apart, are the weights for it
pub weights-wanted : (total lg other j : ℕ) (indices wanted : List ℕ) (points own row : List F) (x : F) → lg ≤ 32 → ArePointsOf total lg indices points own → AreWanted total indices wanted
    → j < length wanted → x ≡ point lg (get_or wanted j 0) → (AreOwnProducts points (length points) own → AreOutside x points → AreWeightsAt goldilocks x points row)
    → IsNextPowerOfTwo total (2 ^ other) → AreWeightsFor other indices (get_or wanted j 0) row
weights-wanted total lg other j indices wanted points own row x small P W l is weights next =
    let index : ℕ = get_or wanted j 0 in
    let are : AreDistinct indices × All (λ i. i < total) indices = (rising-distinct indices W.rising.0, W.rising.1) in
    let away : AreOutside x points = subst (λ y. AreOutside y points) (sym is) (subst (AreOutside (point lg index)) (sym P.are) (record {
      apart = points-are_apart lg total indices small P.domain.1 are;
      outside = point-outside lg total indices small P.domain.1 are index (W.below j 0 l) (W.missing j 0 l);
    })) in
    subst (λ n. AreWeightsFor n indices index row) (lg-only total lg other W.some P.domain next)
    (subst (λ ps. AreWeightsAt goldilocks (point lg index) ps row) P.are
    (subst (λ y. AreWeightsAt goldilocks y points row) is (weights P.products away)))
