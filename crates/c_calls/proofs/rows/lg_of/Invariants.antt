use Rattle.std.proofs.Common.{◌≢◌, ℕ, ◌<◌, ◌^◌}
use Rattle.c_calls.proofs.rows.lg_of.Given as goal

-- the number is no smaller power of two
abbrev pub invariant-loop-lg : goal.invariant-loop-lg
invariant-loop-lg l = (k : ℕ) → k < l.lg → l.n ≢ 2 ^ k
