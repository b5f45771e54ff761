use Rattle.std.proofs.Common.{◌≡◌, ℕ, ◌+◌, ◌-◌, ◌<◌, ◌≤◌, get_or, length}
use Rattle.math_fields.specs.Packing.{words_of}
use Rattle.math_shards.proofs.shards.unpacking.write_unpacked.Given as goal

-- the words so far
abbrev pub invariant-loop-done : goal.invariant-loop-done
invariant-loop-done l = record {
  within : l.done ≤ length l.out;
  unpacked : (j : ℕ) → j < l.done → get_or l.out j 0 ≡ get_or (words_of l.elements) (l.first + j) 0;
}

abbrev pub decreases-loop-done : goal.decreases-loop-done
decreases-loop-done l = length l.initial.out - l.done
