use Rattle.std.proofs.Common.{sym, arith}
use Rattle.shard_fingerprints.proofs.FingerprintSteps.{fingerprint-more}
use Rattle.shard_fingerprints.proofs.FourWords.{four_more}
use Rattle.shard_fingerprints.proofs.fingerprints.fingerprint_by_horner.Goals as goal

pub loop-i-preserved : goal.loop-i-preserved
loop-i-preserved c =
    let within = c.loop-i.invariant.within in
    record {
      value = four_more c.args.words.now c.loop-i.i c.args.key c.of-powers.result.key c.index-words-i.result c.index-words-i-in-loop-i.result c.index-words-i-in-loop-i-2.result c.index-words-i-in-loop-i-3.result c.loop-i.value c.before-value.result c.of-powers.ensures.first
          c.loop-i-test.true within (sym c.index-words-i.is) (sym c.index-words-i-in-loop-i.is) (sym c.index-words-i-in-loop-i-2.is) (sym c.index-words-i-in-loop-i-3.is) c.loop-i.invariant.value c.before-value.ensures;
      within = omega (arith, within);
    }

pub loop-i-2-preserved : goal.loop-i-2-preserved
loop-i-2-preserved c =
    let within = c.loop-i-2.invariant.within in
    record {
      value = fingerprint-more c.args.words.now c.loop-i-2.i c.args.key c.index-words-i-in-loop-i-2-2.result c.loop-i-2.value c.mul.result _ c.loop-i-2-test.true within (sym c.index-words-i-in-loop-i-2-2.is)
          c.loop-i-2.invariant.value c.mul.ensures c.add-value.ensures;
      within = omega (arith, within);
    }
