use Rattle.std.proofs.Common.{◌≡◌, ◌≤◌, ◌∙◌, ◌^◌, arith, length, subst, sym}
use Rattle.std.proofs.lemmas.Bool.{false≢true}
use Rattle.sha2.specs.Sha512.{sha512_256}
use Rattle.shard_roots.specs.Joining.{AreJoined}
use Rattle.shard_roots.proofs.Joined.{whole_back}
use Rattle.shard_roots.proofs.joining.join_committed.Goals as goal

pub returns-then-not-are_same-clause-due : goal.returns-then-not-are_same-clause-due
returns-then-not-are_same-clause-due c =
    let few : c.args.split.total ≤ 2 ^ 16 = omega arith in
    let count : length c.join_under.new.block ≡ c.in_ok-found.found.len = omega (arith, c.join_under.auto.block, c.deref_mut.ensures.len) in
    let back = c.deref.ensures.value ∙ whole_back c.in_ok-found.found.len c.join_under.new.block c.in_ok-found.found.items count in
    let found = subst (AreJoined sha512_256 c.args.split c.args.top.now c.args.shards.now) (sym back) c.in_ok-left_out.ensures.ok in
    (few, (c.deref.result.now, c.in_ok-other.other, c.block_root.ensures.bytes, found, c.in_ok-other.ensures.root, λ e. false≢true (sym c.if-not-are_same.true ∙ c.are_same.ensures.1 e)))
