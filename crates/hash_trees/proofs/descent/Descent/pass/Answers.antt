use Rattle.std.proofs.Common.{◌∙◌, ap, subst}
use Rattle.sha2.specs.Sha512.{sha512_256}
use Rattle.hash_trees.specs.Descents.{IsWay, pair_place}
use Rattle.hash_trees.proofs.WaysDown.{pair_passed, passed_way}
use Rattle.hash_trees.proofs.descent.Descent.pass.Goals as goal

pub returns-in-Some-clause-pairs : goal.returns-in-Some-clause-pairs
returns-in-Some-clause-pairs c =
    let way = passed_way c.args.self.now c.self.inside.count c.self.inside.top c.self.inside.waiting.items c.pop.new.self.items c.in-Some.node c.in-Some.ensures.items c.self.view_is in
    ap pair_place way ∙ pair_passed sha512_256 c.args.self.now (subst (λ w. IsWay sha512_256 w) c.self.view_is c.self.invariant.0)
