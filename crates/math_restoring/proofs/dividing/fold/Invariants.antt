use Rattle.std.proofs.Common.{◌-◌, ◌*◌, ◌≤◌, ◌<◌, ◌^◌, ℕ}
use Rattle.math_fields.specs.declared.goldilocks.F.{F}
use Rattle.math_fields.specs.Elements.{residue, same, goldilocks}
use Rattle.math_base.specs.Polynomials.{value_in_ring}
use Rattle.math_transforms.specs.DomainValues.{matrix_of}
use Rattle.math_transforms.specs.Matrices.{column_of}
use Rattle.math_transforms.specs.RootTrees.{column_value}
use Rattle.math_restoring.specs.CosetDivisions.{raised}
use Rattle.math_restoring.proofs.dividing.fold.Given as goal

-- at points whose power 2^part is the step, the columns of the blocks that are left have the values of all rows
abbrev pub invariant-loop-left : goal.invariant-loop-left
invariant-loop-left l = record {
  some : 1 ≤ l.left;
  within : l.left ≤ 2 ^ (l.lg - l.part);
  values : (x : F) (k : ℕ) → k < l.cols → same (raised x (2 ^ l.part)) l.step
      → same (value_in_ring goldilocks (column_of (residue 0) (matrix_of (l.left * 2 ^ l.part) l.cols l.cells) k) x) (column_value goldilocks l.lg l.cols l.initial.cells k x);
}

abbrev pub decreases-loop-left : goal.decreases-loop-left
decreases-loop-left l = l.left - 1
