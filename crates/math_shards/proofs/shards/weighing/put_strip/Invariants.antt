use Rattle.std.proofs.Common.{◌≡◌, ◌+◌, ◌*◌, ◌<◌, ◌≤◌, ℕ, get_or}
use Rattle.math_transforms.specs.DomainValues.{matrix_of}
use Rattle.math_shards.specs.Weights.{coefficient_of}
use Rattle.math_splitting.proofs.SameCells.{nought}
use Rattle.math_shards.proofs.shards.weighing.put_strip.Given as goal

-- the coefficients in the rows so far are written, and the cells of all other columns are as they were
abbrev pub invariant-loop-r : goal.invariant-loop-r
invariant-loop-r l = record {
  done : (i c : ℕ) → i < l.r → c < 32 → get_or l.cells (i * l.shape.width + (l.k + c)) nought ≡ coefficient_of l.weights (matrix_of l.shape.count l.shape.width l.initial.cells) i (l.k + c);
  before : (i c : ℕ) → i < l.shape.count → c < l.k → get_or l.cells (i * l.shape.width + c) nought ≡ get_or l.initial.cells (i * l.shape.width + c) nought;
  behind : (i c : ℕ) → i < l.shape.count → l.k + 32 ≤ c → c < l.shape.width → get_or l.cells (i * l.shape.width + c) nought ≡ get_or l.initial.cells (i * l.shape.width + c) nought;
}
