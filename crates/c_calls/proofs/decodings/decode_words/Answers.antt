use Rattle.std.proofs.Common.{◌≡◌, ◌∙◌, ◌≤◌, ◌++◌, drop, length, sym, ap, arith}
use Rattle.std.proofs.lemmas.List.{length-map}
use Rattle.math_fields.specs.Elements.{residue}
use Rattle.c_calls.specs.WordElements.{numbers}
use Rattle.c_calls.proofs.WordDecodings.{decoded_words}
use Rattle.c_calls.proofs.decodings.decode_words.Goals as goal

pub returns-in_default-clause-none : goal.returns-in_default-clause-none
returns-in_default-clause-none c e h =
    (rw (c.in_default.is, c.deref-2.ensures.value, c.deref-3.ensures.value, c.in_ok-points.ensures, c.in_ok-values.ensures) at c.in_ok-found.ensures.none) h.0 h.1

pub returns-clause-done : goal.returns-clause-done
returns-clause-done c e =
    let found = c.in-Some.found in
    let d = rw (c.in-Some.is, c.deref-2.ensures.value, c.deref-3.ensures.value, c.in_ok-points.ensures, c.in_ok-values.ensures) at c.in_ok-found.ensures.found in
    let is : c.len-places.result ≡ length found.wrong.items = omega (arith, c.len-places.ensures) in
    let room : length found.wrong.items ≤ length c.args.wrong.now = omega (arith, d.few, c.requires.sizes.room, length-map c.args.points.now residue) in
    decoded_words c.args.points.now c.args.values.now c.write_numbers.new.words c.args.wrong.now (c.copy_from_slice.new.self ++ drop c.len-places.result c.args.wrong.now)
    found.coefficients.items found.wrong.items c.len-places.result (length c.args.coefficients.now)
    c.requires.points c.requires.values ((rw (c.deref.ensures.value, c.in_ok-points.ensures) at c.in_ok-are_distinct.ensures).0 c.if-not-branch.false)
    (c.write_numbers.ensures ∙ ap numbers c.deref-4.ensures.value) (sym c.write_numbers.auto.words) is room
    (ap (λ xs. xs ++ drop c.len-places.result c.args.wrong.now) (c.copy_from_slice.ensures.after ∙ c.deref-5.ensures.value)) d
