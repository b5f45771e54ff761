use Rattle.std.proofs.Common.{ℕ, ◌<◌, get_or}
use Rattle.math_fields.specs.Elements.{residue, same}
use Rattle.math_restoring.specs.Restored.{item}
use Rattle.systematic_shards.specs.Masks.{masked_number}
use Rattle.systematic_shards.proofs.filling.are_words_of.Given as goal

-- the words so far are those of the elements
abbrev pub invariant-loop-c : goal.invariant-loop-c
invariant-loop-c l = (i : ℕ) → i < l.c → same (residue (masked_number l.mask (get_or l.words i 0))) (item l.elements i)
