use Rattle.std.proofs.Common.{◌≡◌, ℕ, ◌+◌, ◌*◌, ◌<◌, get_or}
use Rattle.math_numbers.specs.Goldilocks.{P}
use Rattle.c_calls.proofs.rows.are_filled_elements.Given as goal

-- the words of the rows so far are below P
abbrev pub invariant-loop-i : goal.invariant-loop-i
invariant-loop-i l = (i k : ℕ) → i < l.i → get_or l.bytes i 0 ≡ 1 → k < l.cols → get_or l.cells (i * l.cols + k) 0 < P
