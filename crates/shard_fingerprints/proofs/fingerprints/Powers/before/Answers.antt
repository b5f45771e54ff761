use Rattle.shard_fingerprints.proofs.FourWords.{before}
use Rattle.shard_fingerprints.proofs.fingerprints.Powers.before.Goals as goal

pub returns : goal.returns
returns c =
    before c.args.a c.args.b c.args.c c.args.d c.args.value c.args.self.now.key c.args.self.now c.mul.result c.add-low.result c.mul-2.result c.add-high.result c.mul-3.result
    c.add.result c.mul-4.result c.add-2.result c.requires c.mul.ensures c.add-low.ensures c.mul-2.ensures c.add-high.ensures c.mul-3.ensures c.add.ensures c.mul-4.ensures c.add-2.ensures
