use Rattle.std.proofs.Common.{◌≡◌, ℕ, ◌<◌, ◌^◌, true, false, map, take}
use Rattle.std.specs.List.{range_with_len}
use Rattle.math_fields.specs.Elements.{residue}
use Rattle.systematic_shards.specs.Masks.{masked_number}
use Rattle.systematic_shards.specs.Words.{word_of_bytes}
use Rattle.shard_format.proofs.rows.write_elements.Given as goal

-- the elements so far, and whether their words are below the bound
abbrev pub invariant-loop-k : goal.invariant-loop-k
invariant-loop-k l = record {
  words : take l.k l.elements ≡ map (λ j. residue (masked_number l.mask (word_of_bytes l.row j))) (range_with_len 0 l.k);
  are : l.are ≡ true → (j : ℕ) → j < l.k → masked_number l.mask (word_of_bytes l.row j) < l.bound;
  not : l.are ≡ false → (j : ℕ) × (j < l.k) × ¬ (masked_number l.mask (word_of_bytes l.row j) < l.bound);
  fit : (j : ℕ) → j < l.k → word_of_bytes l.row j < 2 ^ 64;
}
