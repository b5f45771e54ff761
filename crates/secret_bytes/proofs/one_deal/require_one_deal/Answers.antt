use Rattle.std.proofs.Common.{sym}
use Rattle.secret_bytes.proofs.SharePlaces.{due-settling}
use Rattle.secret_bytes.proofs.one_deal.require_one_deal.Goals as goal

pub returns-in-Some-clause-due : goal.returns-in-Some-clause-due
returns-in-Some-clause-due c = due-settling c.args.of.now.threshold c.args.of.now.deal c.args.of.now.width c.args.shares.now c.loop-place.place c.index-shares-place.result c.in-Some.fault c.loop-place-test.true
    (sym c.index-shares-place.is) c.loop-place.invariant.stand c.in-Some.ensures.some
