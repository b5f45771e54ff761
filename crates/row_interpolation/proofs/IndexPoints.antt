-- The points of indices: polynomials of few coefficients are determined by their values there, and go through any values there.
use Rattle.std.proofs.Common.{◌≡◌, ◌≢◌, ◌∙◌, inl, inr, ℕ, suc, ◌*◌, ◌-◌, ◌<◌, ◌≤◌, ◌^◌, List, length, map, get_or, sym, ap, subst, pow-suc, arith}
use Rattle.std.proofs.Math.Pow.{pow_mono}
use Rattle.std.proofs.lemmas.Bool.{cases_lt}
use Rattle.std.specs.Int.{IsNextPowerOfTwo}
use Rattle.std.specs.Int.Count.{count_leading_zeros}
use Rattle.std.specs.List.{All, range_with_len}
use Rattle.std.proofs.lemmas.List.FromFn.{get_or-map-range_with_len, length-range_with_len}
use Rattle.std.proofs.lemmas.List.{length-map, get_or-map}
use Rattle.math_theory.specs.Domains.{HasExactOrder}
use Rattle.math_theory.specs.OverRing as OverRing
use Rattle.math_theory.specs.Powers.{power}
use Rattle.math_theory.specs.Rings.{Field}
use Rattle.math_theory.proofs.domains.PowerLists.{power-apart}
use Rattle.math_theory.proofs.interpolation.Interpolation.{interpolated, length-interpolated, values_at-interpolated}
use Rattle.math_theory.proofs.polynomials.Roots.{value-agreement}
use Rattle.math_fields.specs.declared.goldilocks.F.{F}
use Rattle.math_fields.specs.ElementRootLaws.{field, roots}
use Rattle.math_fields.specs.Elements.{number, residue, inverse, same, product, root_of}
use Rattle.math_fields.proofs.ElementNumbers.{same_number}
use Rattle.math_restoring.specs.Restored.{AreDistinct}
use Rattle.math_values.proofs.ElementRing.{elements}
use Rattle.math_transforms.proofs.PresentIndices.{lg-of_total}
use Rattle.row_interpolation.specs.RowValues.{value_at_index}

-- the least domain of `total` points
pub domain_of : (total : ℕ) → 1 ≤ total → total < 2 ^ 32 → (lg : ℕ) × IsNextPowerOfTwo total (2 ^ lg) × (lg ≤ 32)
domain_of total some short = (32 - count_leading_zeros 32 (total - 1), lg-of_total total (omega (arith, some)) (omega (arith, short)), omega arith)

-- the least power of two is no greater than another one that is as great as the number
pub least_lg : (n few lg : ℕ) → 1 ≤ n → n ≤ 2 ^ lg → IsNextPowerOfTwo n (2 ^ few) → few ≤ lg
least_lg n few lg some l next = elim (cases_lt lg few) [
  | inl greater ↦
      let up : 2 ^ suc lg ≤ 2 ^ few = pow_mono (omega (arith, greater)) in
      let twice : 2 ^ suc lg ≡ 2 ^ lg * 2 = pow-suc 2 lg in
      absurd (omega (arith, next.2, up, twice, l, some))
  | inr fits ↦ omega (arith, fits)
]

-- the elements, of which same ones are one, as a field
abbrev pub elements_field : Field F
elements_field = record {
  ring = elements;
  inverse = inverse;
  one_apart = λ e. field.distinct (ap number e);
  product_inverse = λ a h. same_number _ _ (field.inverts a (λ k. h (same_number _ _ k)));
}

-- point i of the domain of 2^lg points
abbrev pub point : ℕ → ℕ → F
point lg i = power (residue 1) product (root_of lg) i

plain_order : (lg : ℕ) → lg ≤ 32 → HasExactOrder (λ (x y : F). x ≡ y) (residue 1) product (root_of lg) (2 ^ lg)
plain_order lg small =
    let o = roots.order lg small in
    record { positive = o.positive; power_is_one = same_number _ _ o.power_is_one; least = λ m low high e. o.least m low high (ap number e) }

-- points of different indices below 2^lg differ
pub points-apart : (lg i j : ℕ) → lg ≤ 32 → i < 2 ^ lg → j < 2 ^ lg → i ≢ j → point lg i ≢ point lg j
points-apart lg i j small l m apart e =
    elim (cases_lt i j) [
      | inl before ↦ power-apart elements (root_of lg) (2 ^ lg) i j (plain_order lg small) before m e
      | inr after ↦ power-apart elements (root_of lg) (2 ^ lg) j i (plain_order lg small) (omega (arith, after, apart)) l (sym e)
    ]

-- the points of these indices
abbrev pub points_of : ℕ → List ℕ → List F
points_of lg indices = map (point lg) indices

module _ (lg total : ℕ) (indices : List ℕ) (small : lg ≤ 32) (inside : total ≤ 2 ^ lg) (are : AreDistinct indices × All (λ i. i < total) indices) where
  pub points-count : length (points_of lg indices) ≡ length indices
  points-count = length-map indices (point lg)

  pub point-at : (t : ℕ) (d : F) → t < length indices → get_or (points_of lg indices) t d ≡ point lg (get_or indices t 0)
  point-at t d l = get_or-map (point lg) indices t 0 d l

  pub points-distinct : OverRing.AreDistinct (points_of lg indices)
  points-distinct i j d l m e =
      let b : j < length indices = omega (arith, m, points-count) in
      let a : i < length indices = omega (arith, b, l) in
      points-apart lg (get_or indices i 0) (get_or indices j 0) small (omega (arith, are.1 i 0 a, inside)) (omega (arith, are.1 j 0 b, inside)) (are.0 i j l b)
      (sym (point-at i d a) ∙ e ∙ point-at j d b)

  -- polynomials of at most `min` coefficients with the same values at `min` points or more have the same values at every index
  pub values-once : (min : ℕ) (p q : List F) → min ≤ length indices → length p ≤ min → length q ≤ min
      → ((t : ℕ) → t < length indices → same (value_at_index lg p (get_or indices t 0)) (value_at_index lg q (get_or indices t 0)))
      → (i : ℕ) → same (value_at_index lg p i) (value_at_index lg q i)
  values-once min p q enough few few' h i =
      ap number
      (value-agreement elements_field (points_of lg indices) p q (omega (arith, few, enough, points-count)) (omega (arith, few', enough, points-count)) points-distinct
      (λ t d l. let m : t < length indices = omega (arith, l, points-count) in
      subst (λ x. OverRing.value elements x p ≡ OverRing.value elements x q) (sym (point-at t d m)) (same_number _ _ (h t m)))
      (point lg i))

  -- a polynomial of as many coefficients as indices that has these values at the indices, one after the other
  abbrev pub through : (ℕ → F) → List F
  through value = interpolated elements_field (points_of lg indices) (map value (range_with_len 0 (length indices)))

  lengths : (value : ℕ → F) → length (points_of lg indices) ≡ length (map value (range_with_len 0 (length indices)))
  lengths value = points-count ∙ sym (length-map (range_with_len 0 (length indices)) value ∙ length-range_with_len 0 (length indices))

  pub through-count : (value : ℕ → F) → length (through value) ≡ length indices
  through-count value = length-interpolated elements_field (points_of lg indices) (map value (range_with_len 0 (length indices))) (lengths value) ∙ points-count

  pub through-values : (value : ℕ → F) (t : ℕ) → t < length indices → same (value_at_index lg (through value) (get_or indices t 0)) (value t)
  through-values value t l =
      let n : t < length (points_of lg indices) = omega (arith, l, points-count) in
      ap number
      (ap (λ x. OverRing.value elements x (through value)) (sym (point-at t (residue 0) l))
      ∙ sym (get_or-map (λ x. OverRing.value elements x (through value)) (points_of lg indices) t (residue 0) (residue 0) n)
      ∙ ap (λ xs. get_or xs t (residue 0)) (values_at-interpolated elements_field (points_of lg indices) (map value (range_with_len 0 (length indices))) points-distinct (lengths value))
      ∙ get_or-map-range_with_len value 0 (length indices) t t (residue 0) l (omega arith))
