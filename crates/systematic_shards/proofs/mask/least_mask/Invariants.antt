use Rattle.std.proofs.Common.{◌≡◌, ℕ, ◌<◌, true, false, get_or}
use Rattle.systematic_shards.proofs.mask.least_mask.Given as goal

-- each number so far is taken
abbrev pub invariant-loop-mask : goal.invariant-loop-mask
invariant-loop-mask g l = (j : ℕ) → j < l.mask → get_or l.taken.items j false ≡ true
