use Rattle.std.proofs.Common.{◌≡◌, map, take}
use Rattle.secret_bytes.specs.declared.share.SecretShare.{SecretShare}
use Rattle.secretshares_commands.proofs.calls.combine_lines.Given as goal

-- the indices of the shares so far
abbrev pub invariant-loop-share : goal.invariant-loop-share
invariant-loop-share l = l.indices.items ≡ map (λ (s : SecretShare). s.index) (take l.share-index l.share-items)
