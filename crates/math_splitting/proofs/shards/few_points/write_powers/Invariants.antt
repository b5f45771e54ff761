use Rattle.std.proofs.Common.{◌≡◌, ◌<◌, ℕ, get_or}
use Rattle.math_theory.specs.Powers.{power}
use Rattle.math_fields.specs.Elements.{product, residue}
use Rattle.math_splitting.proofs.SameCells.{nought}
use Rattle.math_splitting.proofs.shards.few_points.write_powers.Given as goal

-- the powers so far, and the next one
abbrev pub invariant-loop-i : goal.invariant-loop-i
invariant-loop-i l = record {
  done : (j : ℕ) → j < l.i → get_or l.cells j nought ≡ power (residue 1) product l.x j;
  next : l.power ≡ power (residue 1) product l.x l.i;
}
