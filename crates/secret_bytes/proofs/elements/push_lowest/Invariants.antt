use Rattle.std.proofs.Common.{◌≡◌, ◌++◌}
use Rattle.secret_bytes.specs.Packings.{lowest_bytes, without_lowest}
use Rattle.secret_bytes.proofs.elements.push_lowest.Given as goal

-- the bytes that are missing are those of what is left
abbrev pub invariant-loop-missing : goal.invariant-loop-missing
invariant-loop-missing l = record {
  bytes : l.out.items ++ lowest_bytes l.missing l.left ≡ l.fn.out.items ++ lowest_bytes l.count l.n;
  whole : without_lowest l.missing l.left ≡ without_lowest l.count l.n;
}

abbrev pub decreases-loop-missing : goal.decreases-loop-missing
decreases-loop-missing l = l.missing
