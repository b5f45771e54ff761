use Rattle.std.proofs.Common.{◌∙◌, ◌<◌, ◌≡◌, ◌++◌, ◌∷◌, [], length, arith}
use Rattle.math_fields.specs.Elements.{number}
use Rattle.secret_bytes.specs.Packings.{number_of_bytes}
use Rattle.secret_bytes.proofs.PackedBytes.{packed-step}
use Rattle.secret_bytes.proofs.elements.elements_of.Goals as goal

pub loop-rest-preserved : goal.loop-rest-preserved
loop-rest-preserved c =
    let seven = c.split_at.result.0.now in
    let a = c.from-in-loop-rest.result in
    let pushed : c.push-in-loop-rest.new.self.items ≡ c.loop-rest.elements.items ++ (a ∷ []) = c.in_ok-push-2.ensures.items in
    let is : number a ≡ number_of_bytes seven = omega (arith, c.from-in-loop-rest.ensures, c.number_of_bytes.ensures.value, c.number_of_bytes.ensures.below) in
    let some : 0 < length c.loop-rest.rest.now = grind (arith, c.loop-rest-test.true, c.is_empty.ensures) in
    rw pushed (packed-step c.args.bytes.now c.loop-rest.rest.now seven c.split_at.result.1.now c.loop-rest.elements.items a c.loop-rest.invariant some c.split_at.ensures.by_index.0
    (c.split_at.ensures.front_len ∙ c.min.ensures) is)
