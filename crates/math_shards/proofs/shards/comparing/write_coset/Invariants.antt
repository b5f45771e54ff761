use Rattle.math_fields.specs.Elements.{same}
use Rattle.math_shards.proofs.CosetCells.{HoldMultiples}
use Rattle.math_restoring.specs.CosetDivisions.{raised}
use Rattle.math_shards.proofs.shards.comparing.write_coset.Given as goal

-- the rows so far, and the factor of the next one
abbrev pub invariant-loop-row : goal.invariant-loop-row
invariant-loop-row l = record {
  factor : same l.factor (raised l.ratio l.row);
  rows : HoldMultiples l.elements l.width l.from l.cols l.ratio l.row l.cells;
}
