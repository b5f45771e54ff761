use Rattle.std.proofs.Common.{refl}
use Rattle.hash_trees.specs.Trees.{root}
use Rattle.sha2.specs.Sha512.{sha512_256}
use Rattle.shard_reading.proofs.RowsUnder.{under_same}
use Rattle.shard_reading.proofs.used_rows.is_under.Goals as goal

pub returns-then-branch : goal.returns-then-branch
returns-then-branch c =
    let rows = c.in-Some-committed.committed.now in
    let same = c.is_of.ensures c.if-is_of.true in
    let under = c.in_ok-contains.ensures c.if-branch.true in
    rw c.in-Some.is (λ _. under_same c.args.split rows.split c.in-Some.top (root sha512_256 rows.committed.commitment.tree) c.args.row.now same under, λ _. refl)
