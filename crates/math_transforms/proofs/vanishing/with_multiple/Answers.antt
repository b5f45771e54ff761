use Rattle.std.proofs.Common.{rules, ◌≡◌, ◌∙◌, ◌++◌, length, take, drop, ap, vec_len, arith}
use Rattle.std.proofs.lemmas.List.Elements.{AllZip-get_or, length_all_zip}
use Rattle.math_theory.proofs.polynomials.BuiltPolynomials.{value-with_multiple}
use Rattle.math_base.proofs.WholeWrites.{take-written}
use Rattle.math_transforms.proofs.vanishing.with_multiple.Goals as goal

pub returns-clause-values : goal.returns-clause-values
returns-clause-values g c = λ r.
    let F = g.met.F in
    let zero = g.F.Additive.zero in
    let same = g.F.Object.same in
    let low = c.args.low.items in
    let copies = c.in_ok-high.high.items in
    let high = c.multiply_row.new.cells in
    let kept : length high ≡ length copies = c.multiply_row.auto.cells ∙ ap length c.deref_mut.ensures.value in
    let written : take c.in_ok-high.high.len (high ++ drop (length high) copies) ≡ high = take-written c.in_ok-high.high.len copies high c.in_ok-high.high.ok.0 kept in
    let are_copies = rw c.deref.ensures.value at c.in_ok-high.ensures in
    let long : length copies ≡ length low = length_all_zip same copies low are_copies in
    value-with_multiple F.Object.equality F.Additive.group F.Multiplicative.commutes F.Ring.ring c.args.factor.now r low copies high c.append.new.self.items (vec_len c.args.low) (search rules)
    (rw written at c.in_ok-append.ensures.items) (omega (arith, long, c.args.low.ok.0)) kept
    (λ j l. AllZip-get_or same copies low j zero zero are_copies (omega (arith, long, c.args.low.ok.0)))
    (λ j l. rw c.deref_mut.ensures.value at c.in_ok-multiply_row.ensures.products j l)
