use Rattle.std.proofs.Common.{◌≡◌, map, take}
use Rattle.math_fields.specs.Elements.{residue}
use Rattle.secret_bytes.proofs.combining.points_of.Given as goal

-- the points so far
abbrev pub invariant-loop-share : goal.invariant-loop-share
invariant-loop-share l = l.out.items ≡ map (λ s. residue s.index) (take l.share-index l.shares)
