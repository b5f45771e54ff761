use Rattle.c_calls.proofs.weights.weights_at_powers.Goals as goal
use Rattle.std.proofs.Common.{◌≡◌, ◌∙◌, refl, arith}
use Rattle.math_fields.specs.Elements.{residue}
use Rattle.math_fields.proofs.ElementNumbers.{same_number}
use Rattle.c_calls.specs.WordElements.{numbers}
use Rattle.c_calls.proofs.WordWeights.{power_weight_words}

pub returns : goal.returns
returns c =
    let point : c.from.result ≡ residue c.args.x = same_number c.from.result (residue c.args.x) c.from.ensures in
    let found = c.in_ok-weights.ensures in
    let power = rw c.get.ensures.value at c.lg_above.ensures.value in
    let weights = c.in_ok-weights.weights.items in
    power_weight_words c.args.x c.args.total.value c.lg_above.result c.args.indices.now (numbers weights) c.from.result c.deref.result.now weights
    c.requires.x_below c.requires.rising (omega arith) c.lg_above.ensures.small power point
    (c.deref.ensures.value ∙ c.in_ok-powers.ensures) refl found.count found.weights
