use Rattle.std.proofs.Common.{◌≡◌, ℕ, ◌<◌}
use Rattle.systematic_shards.proofs.rows.first_difference.Given as goal

-- the words so far are the same
abbrev pub invariant-loop-k : goal.invariant-loop-k
invariant-loop-k g l = (i : ℕ) → i < l.k → g.M.WordMemory.word l.cells i ≡ g.M.WordMemory.word l.others i
