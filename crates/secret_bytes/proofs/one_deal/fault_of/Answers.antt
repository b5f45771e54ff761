use Rattle.std.proofs.Common.{arith, refl}
use Rattle.secret_bytes.proofs.SettledShares.{elements-equal}
use Rattle.secret_bytes.proofs.SharePlaces.{contradicted, values-hold}
use Rattle.secret_bytes.proofs.one_deal.fault_of.Goals as goal

pub returns-then-share-of-clause-some : goal.returns-then-share-of-clause-some
returns-then-share-of-clause-some c =
    (refl, (omega arith, omega arith), elements-equal c.args.share.now.deal c.args.of.now.deal c.if-ne.ensures, c.if-share-of.true)

pub returns-then-len-of-clause-some : goal.returns-then-len-of-clause-some
returns-then-len-of-clause-some c = (
  refl,
  (omega arith, omega arith),
  elements-equal c.args.share.now.deal c.args.of.now.deal c.if-ne.ensures,
  omega arith,
  λ e. omega (arith, e, c.len.ensures, c.args.share.now.values.ok, c.if-len-of.true),
)

pub returns-then-is_contradicted-clause-some : goal.returns-then-is_contradicted-clause-some
returns-then-is_contradicted-clause-some c = (
  refl,
  (omega arith, omega arith),
  record {
    threshold = omega arith;
    deal = elements-equal c.args.share.now.deal c.args.of.now.deal c.if-ne.ensures;
    count = omega (arith, c.len.ensures, c.args.share.now.values.ok, c.if-len-of.false);
  },
  contradicted c.args.shares.now c.args.place c.args.share.now c.args.first (omega (arith, c.requires.within)) c.requires.first (c.if-is_contradicted.ensures.yes refl),
)

pub returns-clause-none : goal.returns-clause-none
returns-clause-none c = record {
  sound = (omega arith, omega arith);
  of_deal = record {
    threshold = omega arith;
    deal = elements-equal c.args.share.now.deal c.args.of.now.deal c.if-ne.ensures;
    count = omega (arith, c.len.ensures, c.args.share.now.values.ok, c.if-len-of.false);
  };
  values = values-hold c.args.of.now.threshold c.args.of.now.deal c.args.of.now.width c.args.shares.now c.args.place c.args.share.now c.args.first
      (omega (arith, c.requires.within)) c.requires.before c.requires.first (c.if-is_contradicted.ensures.no (λ t. cc));
}
