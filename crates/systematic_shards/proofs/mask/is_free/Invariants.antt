use Rattle.std.proofs.Common.{ℕ, ◌-◌, ◌<◌, ◌≤◌, ◌^◌}
use Rattle.systematic_shards.specs.Masks.{IsFreeOf}
use Rattle.systematic_shards.proofs.mask.is_free.Given as goal

-- the mask is free of the words so far
abbrev pub invariant-loop-from : goal.invariant-loop-from
invariant-loop-from g l = record {
  within : l.from ≤ l.count;
  free : (i : ℕ) → i < l.from → (g.M.WordMemory.word l.cells i < 2 ^ 64) × IsFreeOf l.mask (g.M.WordMemory.word l.cells i);
}

abbrev pub decreases-loop-from : goal.decreases-loop-from
decreases-loop-from g l = l.count - l.from
