use Rattle.c_calls.proofs.weights.write_weights.Goals as goal
use Rattle.std.proofs.Common.{◌≡◌, ◌∙◌, ap}
use Rattle.math_fields.specs.Elements.{residue}
use Rattle.math_fields.proofs.ElementNumbers.{same_number}
use Rattle.c_calls.specs.WordElements.{numbers}
use Rattle.c_calls.proofs.WordWeights.{weight_words}

pub returns-clause-ok : goal.returns-clause-ok
returns-clause-ok c =
    let point : c.from.result ≡ residue c.args.x = same_number c.from.result (residue c.args.x) c.from.ensures in
    let found = c.in_ok-found.ensures in
    weight_words c.args.x c.args.points.now c.write_numbers.new.words c.from.result c.deref.result.now c.in_ok-found.found.items
    c.requires.below.1 c.requires.below.0 point (c.deref.ensures.value ∙ c.in_ok-points.ensures) (c.write_numbers.ensures ∙ ap numbers c.deref-2.ensures.value)
    found.count found.at_point found.repeated found.weights
