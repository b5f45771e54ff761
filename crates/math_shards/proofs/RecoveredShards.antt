-- Polynomials that are recovered from shards: where they are those of data, the shards are of the data, and the other way round.
use Rattle.std.proofs.Common.{◌≡◌, ℕ, ◌*◌, ◌<◌, ◌≤◌, ◌^◌, List, Bool, false, length, get_or, sym, ◌∙◌, subst, arith}
use Rattle.std.specs.List.{AllZip}
use Rattle.std.proofs.lemmas.List.{get_or_past}
use Rattle.std.proofs.lemmas.List.Elements.{AllZip-get_or}
use Rattle.math_theory.specs.Interpolation.{AreApart}
use Rattle.math_theory.specs.Powers.{powers}
use Rattle.math_theory.specs.Recovery.{Fits, count_true}
use Rattle.math_theory.proofs.domains.CarriedDomains.{powers_apart-same}
use Rattle.math_theory.proofs.recovery.CarriedRecovery.{fits_once-same}
use Rattle.math_fields.specs.declared.goldilocks.F.{F}
use Rattle.math_fields.specs.ElementLaws.{equality, group, commutes, ring}
use Rattle.math_fields.specs.ElementRootLaws.{field, roots}
use Rattle.math_fields.specs.Elements.{residue, same, sum, product, root_of}
use Rattle.math_ntt.specs.Evaluations.{EvaluationsOf}
use Rattle.math_transforms.specs.Matrices.{column_of, row_of}
use Rattle.math_ntt.proofs.MatrixPlaces.{columns_hold_cells, rows_are_full, rows_hold_cells}
use Rattle.math_splitting.specs.declared.shards.Shard.{Shard}
use Rattle.math_shards.specs.Joining.{HoldsShards}
use Rattle.math_splitting.specs.Shards.{has_index, value_at_index}
use Rattle.math_shards.proofs.FilledShards.{index_found}
use Rattle.math_splitting.proofs.SameCells.{nought}

-- p has the filled cells as its values at the powers of the root of order 2^lg, and no more coefficients than these
abbrev pub FitsCells : ℕ → List F → List Bool → List F → Type 0
FitsCells lg cells filled p = Fits same nought sum product (residue 1) (root_of lg) cells filled p

-- the filled cells are those of the indices of shards: so p fits, where it has as its values there what the cells are
pub fits_shards : (lg : ℕ) (shards : List Shard) (cells : List F) (filled : List Bool) (p : List F) → length p ≤ count_true filled
    → ((i : ℕ) → i < length cells → get_or filled i false ≡ has_index shards i)
    → ((s : Shard) (k : ℕ) → k < length shards → get_or shards k s ≡ s → same (value_at_index lg p s.index) (get_or cells s.index nought)) → FitsCells lg cells filled p
fits_shards lg shards cells filled p few marks values = grind (arith, index_found, get_or_past)

-- two that fit have the same coefficients
pub same_fits : (lg : ℕ) → lg ≤ 32 → (cells : List F) (filled : List Bool) → length cells ≡ 2 ^ lg → length filled ≡ 2 ^ lg → (p q : List F) → FitsCells lg cells filled p → FitsCells lg cells filled q
    → (i : ℕ) → same (get_or p i nought) (get_or q i nought)
same_fits lg small cells filled long as_long p q h k =
    let apart : AreApart same (powers (residue 1) product (root_of lg) (2 ^ lg)) = powers_apart-same equality group commutes ring (root_of lg) (2 ^ lg) (roots.order lg small) in
    fits_once-same equality group commutes ring field (root_of lg) cells filled (as_long ∙ sym long) (rw long apart) p q h k

module _ (lg width : ℕ) (shards : List Shard) (e : EvaluationsOf F) (holds : HoldsShards lg width shards e) (s : Shard) (at : ℕ) (in_shards : at < length shards) (is : get_or shards at s ≡ s)
    (below : s.index < 2 ^ lg) where
  row_is_shard : AllZip same (row_of e.matrix s.index) s.cells.items
  row_is_shard = subst (λ (t : Shard). AllZip same (row_of e.matrix t.index) t.cells.items) is (holds.cells at s in_shards)

  length-row : length (row_of e.matrix s.index) ≡ width
  length-row = grind (arith, rows_are_full)

  -- the cell of the shard stands in the row of its index
  pub cell_of_shard : (k : ℕ) → k < width → same (get_or (column_of nought e.matrix k) s.index nought) (get_or s.cells.items k nought)
  cell_of_shard k l = grind (arith, columns_hold_cells, rows_hold_cells, AllZip-get_or, row_is_shard, length-row)
