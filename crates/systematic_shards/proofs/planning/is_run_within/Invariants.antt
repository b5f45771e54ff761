use Rattle.std.proofs.Common.{ℕ, ◌+◌, ◌<◌}
use Rattle.math_fields.specs.Elements.{number}
use Rattle.math_restoring.specs.Restored.{item}
use Rattle.systematic_shards.specs.Masks.{masked_number}
use Rattle.systematic_shards.specs.Words.{IsWithin}
use Rattle.systematic_shards.proofs.planning.is_run_within.Given as goal

-- there is room for the words so far
abbrev pub invariant-loop-c : goal.invariant-loop-c
invariant-loop-c l = (i : ℕ) → i < l.c → IsWithin l.size (l.at + i) (masked_number l.mask (number (item l.elements i)))
