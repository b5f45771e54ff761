use Rattle.std.proofs.Common.{◌+◌, ◌*◌, get_or}
use Rattle.math_fields.specs.Elements.{residue}
use Rattle.math_restoring.specs.Restored.{item}
use Rattle.systematic_shards.specs.Masks.{masked_number}
use Rattle.row_interpolation.specs.Written.{AreWritten}
use Rattle.systematic_shards.proofs.making.scatter.Given as goal

-- the elements so far
abbrev pub invariant-loop-c : goal.invariant-loop-c
invariant-loop-c l = AreWritten (λ i. i * l.step + l.at) (λ i. residue (masked_number l.mask (get_or l.words i 0))) l.c (item l.initial.items) (item l.items)
