use Rattle.std.proofs.Common.{◌≡◌, ℕ, ◌+◌, ◌*◌, ◌<◌, get_or}
use Rattle.math_theory.specs.BitReversal.{bit_reversed}
use Rattle.math_restoring.specs.Restored.{item}
use Rattle.row_interpolation.proofs.by_transforms.take_rows.Given as goal

-- the rows so far are taken
abbrev pub invariant-loop-j : goal.invariant-loop-j
invariant-loop-j l = (i k : ℕ) → i < l.j → k < l.cols → item l.out (i * l.cols + k) ≡ item l.strip (bit_reversed l.lg (get_or l.targets i 0) * l.cols + k)
