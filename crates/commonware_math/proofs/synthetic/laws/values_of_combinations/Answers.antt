use Rattle.commonware_math.proofs.CombinationValues.{value-same, value-sum, value-multiple}
use Rattle.commonware_math.proofs.synthetic.laws.values_of_combinations.Goals as goal

pub returns : goal.returns
returns g c =
    let F = g.met.F in
    let G = g.met.G in
    record {
      same = value-same F.Object.equality F.Additive.group G.Object.equality G.Additive.group G.Space.spans;
      sums = value-sum F.Object.equality F.Additive.group G.Object.equality G.Additive.group G.Space.spans;
      multiples = value-multiple F.Object.equality F.Additive.group G.Object.equality G.Additive.group G.Space.spans F.Multiplicative.commutes F.Ring.ring;
    }
