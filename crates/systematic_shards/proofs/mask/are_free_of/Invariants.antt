use Rattle.std.proofs.Common.{◌≡◌, true, false, All, take}
use Rattle.systematic_shards.specs.Masks.{IsFreeOf}
use Rattle.systematic_shards.proofs.mask.are_free_of.Given as goal

-- whether the mask is free of the words so far
abbrev pub invariant-loop-word : goal.invariant-loop-word
invariant-loop-word l = record {
  free : l.free ≡ true → All (IsFreeOf l.mask) (take l.word-index l.words);
  not_free : l.free ≡ false → ¬ (All (IsFreeOf l.mask) l.words);
}
