use Rattle.std.proofs.Common.{◌-◌, ◌≤◌}
use Rattle.math_restoring.proofs.RestoredColumns.{AreRestoredBefore}
use Rattle.math_restoring.proofs.restoring.Restorer.restore_strips.Given as goal

-- the columns so far are restored
abbrev pub invariant-loop-from : goal.invariant-loop-from
invariant-loop-from l = record {
  within : l.from ≤ l.width;
  columns : AreRestoredBefore l.self.division.lg l.self.indices.items l.width l.initial.cells l.from l.cells;
}

abbrev pub decreases-loop-from : goal.decreases-loop-from
decreases-loop-from l = l.width - l.from
