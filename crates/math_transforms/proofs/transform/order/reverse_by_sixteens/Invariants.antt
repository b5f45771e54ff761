use Rattle.std.proofs.Common.{◌≡◌, ℕ, ◌+◌, ◌-◌, ◌*◌, ◌<◌, ◌^◌}
use Rattle.math_theory.specs.BitReversal.{bit_reversed}
use Rattle.math_transforms.specs.DomainValues.{matrix_of}
use Rattle.math_transforms.specs.Matrices.{cell_of}
use Rattle.math_transforms.proofs.ReversedRows.{IsReversedBelow}
use Rattle.math_transforms.proofs.SixteenRows.{row_at, partner}
use Rattle.math_transforms.proofs.transform.order.reverse_by_sixteens.Given as goal

-- the bits of the other middle are those of the middle in the opposite order, and in each column the rows of the middles so far have their places
abbrev pub invariant-loop-middle : goal.invariant-loop-middle
invariant-loop-middle g l =
    let d = g.F.Additive.zero in
    record {
      within : l.other < 2 ^ (l.lg - 4);
      reversed : l.middle < 2 ^ (l.lg - 4) → l.other ≡ bit_reversed (l.lg - 4) l.middle;
      rows : (k : ℕ) → k < l.cols
          → IsReversedBelow (16 * 2 ^ (l.lg - 4)) (partner (l.lg - 4)) (λ n. cell_of d (matrix_of (2 ^ l.lg) l.cols l.fn.cells) (row_at (l.lg - 4) n) k)
          (λ n. cell_of d (matrix_of (2 ^ l.lg) l.cols l.cells) (row_at (l.lg - 4) n) k) (16 * l.middle);
    }

-- and so have those before row t of this middle
abbrev pub invariant-loop-t : goal.invariant-loop-t
invariant-loop-t g l =
    let d = g.F.Additive.zero in
    (k : ℕ) → k < l.cols
    → IsReversedBelow (16 * 2 ^ (l.lg - 4)) (partner (l.lg - 4)) (λ n. cell_of d (matrix_of (2 ^ l.lg) l.cols l.fn.cells) (row_at (l.lg - 4) n) k)
    (λ n. cell_of d (matrix_of (2 ^ l.lg) l.cols l.cells) (row_at (l.lg - 4) n) k) (16 * l.middle + l.t)
