use Rattle.std.proofs.Common.{ℕ, ◌+◌, ◌-◌, ◌*◌, ◌<◌, length, get_or}
use Rattle.math_fields.specs.declared.goldilocks.F.{F}
use Rattle.systematic_shards.specs.Strips.{IsCodewordFor, target_word}
use Rattle.systematic_shards.specs.Words.{IsWithin}
use Rattle.systematic_shards.proofs.planning.are_targets_within.Given as goal

-- there is room for the columns so far
abbrev pub invariant-loop-from : goal.invariant-loop-from
invariant-loop-from g l =
    (a : ℕ → ℕ → F) → IsCodewordFor g.M.WordMemory.word l.maker a → (k j : ℕ) → k < l.from → j < length l.places
    → IsWithin l.size (get_or l.places j 0 * l.maker.code.split.width + k) (target_word l.maker a j k)

abbrev pub decreases-loop-from : goal.decreases-loop-from
decreases-loop-from g l = l.maker.code.split.width - l.from
