use Rattle.examples.proofs.DealtSecrets.{first_shares}
use Rattle.examples.proofs.secrets.dealt_and_combined.Goals as goal

pub returns : goal.returns
returns g c =
    let F = g.met.F in
    let dealt = c.in-Ok.ensures.dealt in
    first_shares
    (record {
      product = g.F.Multiplicative.product;
      debug_output = g.F.Debug.debug_output;
      same = g.F.Object.same;
      NEVER_REFUSES = g.F.Object.NEVER_REFUSES;
      zero = g.F.Additive.zero;
      sum = g.F.Additive.sum;
      negative = g.F.Additive.negative;
      one = g.F.Ring.one;
    })
    F.Object.equality F.Additive.group F.Multiplicative.commutes F.Ring.ring g.F.Random.sample c.args.secret c.in-Ok-combine.answer c.args.t c.args.n _ _ dealt.0 c.in-Ok.shares.items
    c.requires.enough dealt.1 dealt.2 (rw (← c.truncate.ensures.items, ← c.deref.ensures.value) c.in-Ok-combine.ensures.constant)
