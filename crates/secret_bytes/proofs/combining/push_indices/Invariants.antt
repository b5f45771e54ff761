use Rattle.std.proofs.Common.{◌≡◌, ◌++◌, take}
use Rattle.secret_bytes.specs.Passes.{indices_at}
use Rattle.secret_bytes.proofs.combining.push_indices.Given as goal

-- the indices so far
abbrev pub invariant-loop-place : goal.invariant-loop-place
invariant-loop-place l = l.out.items ≡ l.fn.out.items ++ indices_at l.shares (take l.place-index l.places)
