use Rattle.std.proofs.Common.{◌∙◌, ◌<◌, lit<, subst, sym}
use Rattle.std.proofs.Math.Nat.{mod-lt}
use Rattle.std.specs.Simd.Lanes.{Each1}
use Rattle.math_numbers.specs.Goldilocks.{P}
use Rattle.math_lanes.specs.Words.{sum_of_words}
use Rattle.math_lanes.specs.Elements.{sum}
use Rattle.math_lanes.proofs.LaneLists.{lanes_agree, all_below}
use Rattle.math_lanes.proofs.WordReductions.{sum_of_elements}
use Rattle.math_lanes.proofs.elements.sums.Goals as goal

pub returns-clause-lanes : goal.returns-clause-lanes
returns-clause-lanes g c =
    c.sums_of_words.ensures
    ∙ lanes_agree sum_of_words sum (λ x. x < P) (λ x. x < P) sum_of_elements c.args.a c.args.b c.requires.first c.requires.second

pub returns-clause-elements : goal.returns-clause-elements
returns-clause-elements g c = subst (Each1 (λ x. x < P)) (sym (returns-clause-lanes g c)) (all_below sum (λ x y. mod-lt _ (lit< tt)) c.args.a c.args.b)
