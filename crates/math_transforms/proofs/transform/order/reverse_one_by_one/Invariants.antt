use Rattle.std.proofs.Common.{◌≡◌, ℕ, ◌<◌, ◌^◌}
use Rattle.math_theory.specs.BitReversal.{bit_reversed}
use Rattle.math_transforms.specs.DomainValues.{matrix_of}
use Rattle.math_transforms.specs.Matrices.{cell_of}
use Rattle.math_transforms.proofs.ReversedRows.{IsReversedBelow}
use Rattle.math_transforms.proofs.transform.order.reverse_one_by_one.Given as goal

-- j has the bits of i in the opposite order, and in each column the rows so far have their places
abbrev pub invariant-loop-i : goal.invariant-loop-i
invariant-loop-i g l =
    let d = g.F.Additive.zero in
    record {
      within : l.j < 2 ^ l.lg;
      reversed : l.i < 2 ^ l.lg → l.j ≡ bit_reversed l.lg l.i;
      rows : (k : ℕ) → k < l.cols
          → IsReversedBelow (2 ^ l.lg) (bit_reversed l.lg) (λ r. cell_of d (matrix_of (2 ^ l.lg) l.cols l.initial.cells) r k) (λ r. cell_of d (matrix_of (2 ^ l.lg) l.cols l.cells) r k) l.i;
    }
