use Rattle.std.proofs.Common.{◌∙◌, ap, arith, length}
use Rattle.std.proofs.lemmas.List.{get_or_default}
use Rattle.sha2.specs.Sha512.{sha512_256}
use Rattle.shard_roots.proofs.BoundBlocks.{count-leaves}
use Rattle.shard_roots.proofs.committing.block_root.Goals as goal

pub root-requires : goal.root-requires
root-requires c =
    let count = ap length (c.deref.ensures.value ∙ c.in_ok-shards.ensures.leaves)
    ∙ count-leaves sha512_256 c.args.split c.in_ok-shards.shards.mask c.args.block.now c.in_ok-shards.shards.parity.items in
    omega (arith, count, c.args.split.some, c.args.split.within)

pub returns-clause-bytes : goal.returns-clause-bytes
returns-clause-bytes c = λ k d l. omega (arith, c.type_inv.block k, get_or_default c.args.block.now k d 0 l)
