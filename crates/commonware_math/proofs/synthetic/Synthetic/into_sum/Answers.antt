use Rattle.commonware_math.proofs.FreeSums.{concrete_sum-append}
use Rattle.commonware_math.proofs.synthetic.Synthetic.into_sum.Goals as goal

pub returns-clause-ok : goal.returns-clause-ok
returns-clause-ok g c =
    let G = g.met.G in
    rw (← c.self.view_is, ← c.other.view_is, c.in_ok-append.ensures.items) record {
      weights = c.in_ok-free.ensures.weights;
      points = concrete_sum-append G.Object.equality G.Additive.group G.Space.spans c.self.inside.concrete.items c.other.inside.concrete.items;
    }
