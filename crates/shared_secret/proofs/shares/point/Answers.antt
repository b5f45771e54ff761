use Rattle.shared_secret.proofs.IndexPoints.{multiple_by_limb}
use Rattle.shared_secret.proofs.shares.point.Goals as goal

pub returns-clause-ok : goal.returns-clause-ok
returns-clause-ok g c =
    let R = g.met.R in
    multiple_by_limb R.Object.equality R.Additive.group g.R.Ring.one c.in_ok-one.one c.in_ok-out.out c.args.index c.in_ok-one.ensures.ok c.in_ok-out.ensures.ok
