use Rattle.std.proofs.Common.{◌≡◌, ◌∙◌, ap, arith, length}
use Rattle.sha2.specs.Sha512.{sha512_256}
use Rattle.shard_roots.proofs.BoundBlocks.{count-leaves}
use Rattle.shard_roots.proofs.Joined.{whole_back}
use Rattle.c_calls.proofs.roots.commit_block.Goals as goal

pub places-requires-clause-all : goal.places-requires-clause-all
places-requires-clause-all c =
    ap length c.in_ok-commitment.ensures.tree ∙ count-leaves sha512_256 c.args.split c.in_ok-commitment.commitment.mask c.args.block.now c.commit.new.parity

pub returns-clause-ok : goal.returns-clause-ok
returns-clause-ok c = grind (arith, whole_back)
