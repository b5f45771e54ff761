use Rattle.std.proofs.Common.{◌≡◌, ◌∙◌, sym, refl, arith, rules, below_more}
use Rattle.std.proofs.lemmas.List.{get_or_read}
use Rattle.math_theory.specs.Coefficients.{coefficient}
use Rattle.math_poly.proofs.PolynomialEquality.{differ_by_degree, same_by_degree, same_in_either_order}
use Rattle.math_poly.proofs.poly.algebra.PolyObject.equals.Goals as goal

pub returns-then-branch-degree-clause-ok : goal.returns-then-branch-degree-clause-ok
returns-then-branch-degree-clause-ok g c =
    let E = g.met.K.Object.equality in
    let order = same_in_either_order g.K.Additive.zero E _ _ _ _ c.by_count.ensures.both in
    (λ e. absurd (cc e), λ h. absurd (differ_by_degree g.K.Additive.zero E _ _ _ c.in_ok-degree_exact.ensures.ok (omega arith) (omega arith) (order.1 h)))

pub returns-then-not-branch-clause-ok : goal.returns-then-not-branch-clause-ok
returns-then-not-branch-clause-ok g c =
    let zero = g.K.Additive.zero in
    let order = same_in_either_order zero g.met.K.Object.equality _ _ _ _ c.by_count.ensures.both in
    let shorter : c.deref-c-items.result.now ≡ c.by_count.result.0.now = c.deref-c-items.ensures.value ∙ c.shorter.view_is in
    let here : c.c-item.result ≡ coefficient zero c.by_count.result.0.now c.loop-i.i = rw (← shorter) (get_or_read _ _ _ c.loop-i-test.true c.c-item.is zero) in
    let there : c.index.result.now ≡ coefficient zero c.by_count.result.1.now c.loop-i.i = rw (← c.longer.view_is)
    (get_or_read c.longer.inside.coefficients.items c.loop-i.i _ (search rules) c.index.ensures zero) in
    (λ e. absurd (cc e), λ h. sym c.if-not-branch.true ∙ c.in_ok-equals.ensures.ok.1 (rw (here, there) (order.1 h c.loop-i.i)))

pub loop-i-preserved : goal.loop-i-preserved
loop-i-preserved g c =
    let zero = g.K.Additive.zero in
    let here : c.c-item.result ≡ coefficient zero c.deref-c-items.result.now c.loop-i.i = get_or_read _ _ _ c.loop-i-test.true c.c-item.is zero in
    let there : c.index.result.now ≡ coefficient zero c.longer.inside.coefficients.items c.loop-i.i = get_or_read c.longer.inside.coefficients.items c.loop-i.i _ (search rules) c.index.ensures zero in
    below_more _ _ c.loop-i.invariant (rw (← here, ← there) (c.in_ok-equals.ensures.ok.0 c.if-not-branch.false))

pub returns-clause-ok : goal.returns-clause-ok
returns-clause-ok g c =
    let zero = g.K.Additive.zero in
    let E = g.met.K.Object.equality in
    let order = same_in_either_order zero E _ _ _ _ c.by_count.ensures.both in
    let shorter : c.deref-c-items.result.now ≡ c.by_count.result.0.now = c.deref-c-items.ensures.value ∙ c.shorter.view_is in
    let ended = rw shorter at c.loop-i-test.false in
    (λ _. order.0 (same_by_degree zero E _ _ _ c.in_ok-degree_exact.ensures.ok (omega arith) (λ k m. rw (shorter, c.longer.view_is) at (c.loop-i.invariant k (omega arith)))), λ _. refl)
