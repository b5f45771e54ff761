use Rattle.std.proofs.Common.{◌≡◌, ◌<◌, ◌+◌, ◌-◌, ℕ, get_or}
use Rattle.c_calls.proofs.weights.are_rising.Given as goal

-- the indices so far rise and are below the total, and the least next one is one more than the last
abbrev pub invariant-loop-index : goal.invariant-loop-index
invariant-loop-index l = record {
  rise : (k : ℕ) → k + 1 < l.index-index → get_or l.indices k 0 < get_or l.indices (k + 1) 0;
  below : (k : ℕ) → k < l.index-index → get_or l.indices k 0 < l.total;
  first : l.index-index ≡ 0 → l.least ≡ 0;
  later : 0 < l.index-index → l.least ≡ get_or l.indices (l.index-index - 1) 0 + 1;
}
