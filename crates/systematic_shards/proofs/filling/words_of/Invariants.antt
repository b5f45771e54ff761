use Rattle.std.proofs.Common.{◌≡◌, ◌<◌, ℕ, get_or, length}
use Rattle.math_fields.specs.Elements.{number}
use Rattle.math_restoring.specs.Restored.{item}
use Rattle.systematic_shards.specs.Masks.{masked_number}
use Rattle.systematic_shards.proofs.filling.words_of.Given as goal

-- the words so far
abbrev pub invariant-loop-c : goal.invariant-loop-c
invariant-loop-c l = record {
  size : length l.words ≡ length l.elements;
  words : (i : ℕ) → i < l.c → get_or l.words i 0 ≡ masked_number l.mask (number (item l.elements i));
}
