use Rattle.std.proofs.Common.{take}
use Rattle.std.specs.List.{AllZip}
use Rattle.shared_secret.proofs.combining.copied_values.Given as goal

-- the copies so far
abbrev pub invariant-loop-share : goal.invariant-loop-share
invariant-loop-share g l = AllZip (λ share copy. g.T.Object.same copy share.value) (take l.share-index l.shares) l.out.items
