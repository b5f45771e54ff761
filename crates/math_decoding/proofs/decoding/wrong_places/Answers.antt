use Rattle.std.proofs.Common.{◌≡◌, ℕ, get_or, true≢false, sym, ◌∙◌, arith}
use Rattle.std.proofs.lemmas.List.{get_or_default}
use Rattle.math_theory.specs.Values.{value}
use Rattle.math_decoding.proofs.WrongPlaces.{gathered-pushed, gathered-passed}
use Rattle.math_decoding.proofs.decoding.wrong_places.Goals.{then-not-branch+in_ok-push, else-not-branch}
use Rattle.math_decoding.proofs.decoding.wrong_places.Goals as goal

pub loop-i-preserved : goal.loop-i-preserved
loop-i-preserved g c =
    let F = g.met.F in
    let zero = g.F.Additive.zero in
    let i = c.loop-i.i in
    let E = F.Object.equality in
    let point : c.index-points-i.result ≡ get_or c.args.points.now i zero = c.index-points-i.is ∙ get_or_default c.args.points.now i c.index-points-i.result zero c.loop-i-test.true in
    let given : c.index-values-i.result ≡ get_or c.args.values.now i zero =
    c.index-values-i.is ∙ get_or_default c.args.values.now i c.index-values-i.result zero (omega (arith, c.loop-i-test.true, c.requires)) in
    let at = value zero g.F.Additive.sum g.F.Multiplicative.product g.F.Ring.one (get_or c.args.points.now i zero) c.args.coefficients.now in
    let is : g.F.Object.same c.in_ok-value.value at = rw point at c.in_ok-value.ensures in
    let decides = rw given at c.in_ok-equals.ensures.ok in
    let S : ℕ → Type 0 =
    λ k. g.F.Object.same (value zero g.F.Additive.sum g.F.Multiplicative.product g.F.Ring.one (get_or c.args.points.now k zero) c.args.coefficients.now) (get_or c.args.values.now k zero) in
    elim c.if-not-branch.branch [
      | then-not-branch+in_ok-push w ↦
          rw (w.wrong-is, w.in_ok-push.ensures.items)
          (gathered-pushed S i c.loop-i.wrong.items (λ s. true≢false (sym (decides.1 (E.transitive _ _ _ is s)) ∙ w.if-not-branch.true)) c.loop-i.invariant)
      | else-not-branch w ↦
          rw w.wrong-is (gathered-passed S i c.loop-i.wrong.items (E.transitive _ _ _ (E.symmetric _ _ is) (decides.0 w.if-not-branch.false)) c.loop-i.invariant)
    ]
