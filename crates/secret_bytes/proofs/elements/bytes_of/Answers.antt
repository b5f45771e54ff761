use Rattle.std.proofs.Common.{◌≡◌, ◌∙◌, ℕ, length, map, sym, ap, subst, arith}
use Rattle.math_fields.specs.Elements.{number}
use Rattle.secret_bytes.specs.Packings.{AllFit, number_count, unpacked}
use Rattle.secret_bytes.proofs.UnpackedBytes.{packed-count, packed-fit, packed-unpacked, some-found, some-mapped}
use Rattle.secret_bytes.proofs.elements.bytes_of.Goals as goal

pub returns-then-rest-div_ceil-clause-found : goal.returns-then-rest-div_ceil-clause-found
returns-then-rest-div_ceil-clause-found c = λ bytes h.
    let n : length c.in-Some.rest.now ≡ number_count (number c.in-Some.count.now) =
    packed-count c.args.elements.now c.in-Some.rest.now c.in-Some.count.now bytes c.in-Some.ensures.cases.0 h in
    c.if-rest-div_ceil.true (omega (arith, n, c.number-count.ensures, c.div_ceil.ensures))

pub returns-clause-some : goal.returns-clause-some
returns-clause-some c =
    let n : length c.in-Some.rest.now ≡ number_count c.number-count.result = omega (arith, c.if-rest-div_ceil.false, c.div_ceil.ensures) in
    some-mapped c.unpack.result _ _
    (λ v h.
    packed-unpacked c.args.elements.now c.in-Some.rest.now c.in-Some.count.now c.number-count.result v.items c.in-Some.ensures.cases.0 (sym c.number-count.ensures) (omega (arith, c.if-count.false))
    n h.0 h.1)
    c.unpack.ensures.some

pub returns-clause-found : goal.returns-clause-found
returns-clause-found c = λ bytes h.
    let e : number c.in-Some.count.now ≡ c.number-count.result = sym c.number-count.ensures in
    let numbers = map number c.in-Some.rest.now in
    let fit = packed-fit c.args.elements.now c.in-Some.rest.now c.in-Some.count.now bytes c.in-Some.ensures.cases.0 h in
    some-found c.unpack.result _ _ _ (λ v k. k.0 ∙ ap (λ m. unpacked m numbers) (sym e) ∙ fit.1) (λ none. none (subst (λ (m : ℕ). AllFit m numbers) e fit.0)) c.unpack.ensures.some c.unpack.ensures.none
