-- Coefficients that rows of distinct indices, as many as there are of them, leave no choice of.
use Rattle.std.proofs.Common.{◌≡◌, ◌∙◌, inl, inr, ℕ, ◌+◌, ◌*◌, ◌<◌, ◌≤◌, ◌^◌, List, length, map, get_or, refl, sym, ap, arith}
use Rattle.std.specs.List.{All}
use Rattle.std.proofs.lemmas.Bool.{cases_lt}
use Rattle.std.proofs.lemmas.List.{get_or-map, length-map}
use Rattle.std.proofs.lemmas.List.FromFn.{get_or-map-range_with_len, length-map-range_with_len}
use Rattle.math_theory.specs.Interpolation.{AreApart}
use Rattle.math_theory.specs.Powers.{power, powers}
use Rattle.math_theory.specs.Values.{value}
use Rattle.math_theory.proofs.domains.CarriedDomains.{powers_apart-same}
use Rattle.math_theory.proofs.polynomials.CarriedRoots.{agreement-same}
use Rattle.math_fields.specs.declared.goldilocks.F.{F}
use Rattle.math_fields.specs.ElementLaws.{equality, group, commutes, ring}
use Rattle.math_fields.specs.ElementRootLaws.{field, roots}
use Rattle.math_fields.specs.Elements.{number, product, residue, root_of, same, sum}
use Rattle.math_ntt.proofs.MatrixPlaces.{columns_are_full}
use Rattle.math_transforms.specs.DomainValues.{matrix_of}
use Rattle.math_transforms.specs.Matrices.{AreSameMatrices, IsOfSize, MatrixOf, column_of}
use Rattle.math_restoring.specs.Restored.{AreDistinct, HaveCellsAsValues}
use Rattle.math_values.proofs.ElementRing.{same_are_equal}
use Rattle.math_splitting.specs.Shards.{value_at_index}
use Rattle.math_splitting.proofs.SameCells.{nought}
use Rattle.math_shards.proofs.ShardRows.{same_by_columns}

-- power i of the root of order 2^lg
abbrev point : ℕ → ℕ → F
point lg i = power (residue 1) product (root_of lg) i

abbrev value_at_point : F → List F → F
value_at_point x p = value nought sum product (residue 1) x p

-- powers of the root at two numbers, the one below the other, are not same
points_differ : (lg i j : ℕ) → lg ≤ 32 → i < j → j < 2 ^ lg → ¬ (same (point lg i) (point lg j))
points_differ lg i j small before below e =
    let n = 2 ^ lg in
    let all : List F = powers (residue 1) product (root_of lg) n in
    let apart : AreApart same all = powers_apart-same equality group commutes ring (root_of lg) n (roots.order lg small) in
    let long : length all ≡ n = length-map-range_with_len (point lg) 0 n in
    let at : (k : ℕ) → k < n → get_or all k nought ≡ point lg k = λ k l. get_or-map-range_with_len (point lg) 0 n k k nought l (omega arith) in
    apart i j nought before (omega (arith, below, long)) (ap number (at i (omega (arith, before, below))) ∙ e ∙ sym (ap number (at j below)))

-- so the points of distinct indices are apart
pub points_apart : (lg : ℕ) (indices : List ℕ) → lg ≤ 32 → AreDistinct indices → All (λ i. i < 2 ^ lg) indices → AreApart same (map (point lg) indices)
points_apart lg indices small distinct below i j d before l e =
    let count : length (map (point lg) indices) ≡ length indices = length-map indices (point lg) in
    let last : j < length indices = omega (arith, l, count) in
    let early : i < length indices = omega (arith, before, last) in
    let a : ℕ = get_or indices i 0 in
    let b : ℕ = get_or indices j 0 in
    let both : same (point lg a) (point lg b) = sym (ap number (get_or-map (point lg) indices i 0 d early)) ∙ e ∙ ap number (get_or-map (point lg) indices j 0 d last) in
    elim (cases_lt a b) as (λ _. ⊥) [
      | inl less ↦ points_differ lg a b small less (below j 0 last) both
      | inr more ↦ elim (cases_lt b a) as (λ _. ⊥) [
        | inl less ↦ points_differ lg b a small less (below i 0 early) (sym both)
        | inr none ↦ distinct i j before last (omega (arith, more, none))
      ]
    ]

-- polynomials that have the cells as their values, and no more coefficients than there are indices, are those of the coefficients that were found
pub coefficients_once : (lg width : ℕ) (indices : List ℕ) (old new : List F) (m : MatrixOf F) → lg ≤ 32 → AreDistinct indices → All (λ i. i < 2 ^ lg) indices
    → length new ≡ length indices * width → HaveCellsAsValues lg indices width old new → IsOfSize m (length indices) width
    → ((t k : ℕ) → t < length indices → k < width → same (get_or old (t * width + k) nought) (value_at_index lg (column_of nought m k) (get_or indices t 0))) → new ≡ m.cells
coefficients_once lg width indices old new m small distinct below whole have size values =
    let n = length indices in
    let q = matrix_of n width new in
    let points : List F = map (point lg) indices in
    let count : length points ≡ n = length-map indices (point lg) in
    let equal : AreSameMatrices same q m =
    same_by_columns n width q m (refl, refl, whole) size
    (λ k l.
    agreement-same equality group commutes ring field points (column_of nought q k) (column_of nought m k)
    (omega (arith, columns_are_full q k nought, count)) (omega (arith, columns_are_full m k nought, size.0, count)) (points_apart lg indices small distinct below)
    (λ t d b.
    let inside : t < n = omega (arith, b, count) in
    let wide : k < width = omega (arith, l, size.1) in
    ap (λ x. number (value_at_point x (column_of nought q k))) (get_or-map (point lg) indices t 0 d inside)
    ∙ have t k inside wide ∙ values t k inside wide
    ∙ sym (ap (λ x. number (value_at_point x (column_of nought m k))) (get_or-map (point lg) indices t 0 d inside)))) in
    same_are_equal new m.cells equal.2
