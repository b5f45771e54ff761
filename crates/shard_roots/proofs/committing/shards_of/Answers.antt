use Rattle.std.proofs.Common.{◌≡◌, ◌-◌, ◌*◌, ◌<◌, ◌∙◌, arith, length, subst, sym}
use Rattle.std.specs.List.{All}
use Rattle.shard_roots.specs.Commitments.{AreParityOf}
use Rattle.shard_roots.proofs.Joined.{whole_back}
use Rattle.shard_roots.proofs.committing.shards_of.Goals as goal

pub returns-clause-made : goal.returns-clause-made
returns-clause-made c =
    let n = c.in_ok-parity.parity.len in
    let new = c.encode.new.parity in
    let count : length new ≡ n = omega (arith, c.encode.auto.parity, c.deref_mut.ensures.len) in
    let whole = whole_back n new c.in_ok-parity.parity.items count in
    let found = c.in_ok-mask.ensures.few in
    let room : n ≡ (c.args.split.total - c.args.split.min) * (8 * c.args.split.width) = c.in_ok-parity.ensures.len in
    subst (AreParityOf c.args.split c.in_ok-mask.mask c.args.block.now) (sym whole) (record {
      size = c.requires;
      room = count ∙ room;
      bytes = subst (All (λ b. b < 256)) (c.deref.ensures.value ∙ whole) c.in_ok-leaves.ensures.bytes;
      short = omega (arith, found, c.args.split.few);
      least = c.in_ok-mask.ensures.mask;
      shards = c.in_ok-mask.ensures.ok;
    })
