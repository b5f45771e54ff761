use Rattle.std.proofs.Common.{◌≡◌, ◌∙◌, ◌+◌, ◌*◌, ◌++◌, length, take, drop, get_or, ap, subst, arith}
use Rattle.math_base.proofs.WholeWrites.{take-written}
use Rattle.math_lagrange.proofs.weights.points.products.Goals as goal

pub multiply_rows-requires : goal.multiply_rows-requires
multiply_rows-requires g c = let e : length c.deref_mut.result.now ≡ length c.args.items.items = ap length c.deref_mut.ensures.value in omega (arith, e, c.requires)

pub returns-clause-each : goal.returns-clause-each
returns-clause-each g c =
    let old = c.args.items.items in
    let new = c.multiply_rows.new.cells in
    let zero = g.F.Additive.zero in
    let kept : length new ≡ length old = c.multiply_rows.auto.cells ∙ ap length c.deref_mut.ensures.value in
    let written : take c.args.items.len (new ++ drop (length new) old) ≡ new = take-written c.args.items.len old new c.args.items.ok.0 kept in
    let products = rw c.deref_mut.ensures.value at c.in_ok-multiply_rows.ensures.products in
    rw written
    (λ k l. let place : k * 1 + 0 ≡ k = omega arith in
    subst (λ i. g.F.Object.same (get_or new i zero) (g.F.Multiplicative.product (get_or old i zero) (get_or c.args.factors.now k zero))) place
    (products k 0 (omega (arith, l, c.requires)) (omega arith)))
