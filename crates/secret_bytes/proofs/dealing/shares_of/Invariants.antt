use Rattle.std.proofs.Common.{◌≡◌, map}
use Rattle.secret_bytes.proofs.dealing.shares_of.Given as goal

-- the shares so far
abbrev pub invariant-loop-row : goal.invariant-loop-row
invariant-loop-row l = l.shares.items ≡ map (λ row. row.share) l.yielded
