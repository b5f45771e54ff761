use Rattle.std.proofs.Common.{◌≡◌, ◌∙◌, sym, ap, []}
use Rattle.std.proofs.lemmas.List.{take_all}
use Rattle.commonware_math.specs.SyntheticLaws.{combinations_equality, combinations_group}
use Rattle.commonware_math.proofs.EqualCombinations.{zero_difference, zero_weights-next, zero_weights-at, weight-of_term, value-without_free}
use Rattle.commonware_math.proofs.synthetic.algebra.SyntheticObject.equals.Goals as goal

pub loop-term-init : goal.loop-term-init
loop-term-init g c = tt

pub loop-term-preserved : goal.loop-term-preserved
loop-term-preserved g c =
    let F = g.met.F in
    zero_weights-next F.Object.equality F.Additive.group _ _ _ c.loop-term-test.true c.term-item.is c.loop-term.invariant
    (F.Object.equality.transitive _ _ _ (c.in_ok-equals.ensures.ok.0 c.if-not-branch.false) c.in_ok-zero.ensures.ok)

pub returns-then-not-branch-clause-ok : goal.returns-then-not-branch-clause-ok
returns-then-not-branch-clause-ok g c =
    let F = g.met.F in
    let G = g.met.G in
    let E = F.Object.equality in
    let Q = combinations_equality g.F.Additive.zero g.F.Additive.sum E G.Object.equality in
    let P = combinations_group E F.Additive.group G.Object.equality G.Additive.group in
    let equal = zero_difference Q P c.args.self.now c.args.other.now c.in_ok-difference.difference
    (Q.transitive _ _ _ c.in_ok-difference.ensures.ok (P.respects_sum _ _ _ _ c.in_ok-clone.ensures.ok (Q.reflexive _))) in
    let terms : c.deref-term-items.result.now ≡ c.in_ok-difference.difference.0 = c.deref-term-items.ensures.value ∙ ap (λ v. v.0) c.difference.view_is in
    let rising = rw (← c.deref-term-items.ensures.value) at c.difference.invariant in
    let own = weight-of_term E F.Additive.group c.deref-term-items.result.now c.loop-term.term-index c.term-item.result rising c.loop-term-test.true c.term-item.is in (
      λ e. absurd (cc e),
      λ h. sym c.if-not-branch.true ∙ c.in_ok-equals.ensures.ok.1
          (E.transitive _ _ _ (E.symmetric _ _ own) (rw terms (E.transitive _ _ _ ((equal.1 h).weights c.term-item.result.0) (E.symmetric _ _ c.in_ok-zero.ensures.ok)))),
    )

pub returns-clause-ok : goal.returns-clause-ok
returns-clause-ok g c =
    let F = g.met.F in
    let G = g.met.G in
    let E = G.Object.equality in
    let Q = combinations_equality g.F.Additive.zero g.F.Additive.sum F.Object.equality E in
    let P = combinations_group F.Object.equality F.Additive.group E G.Additive.group in
    let difference = c.in_ok-difference.difference in
    let equal = zero_difference Q P c.args.self.now c.args.other.now difference
    (Q.transitive _ _ _ c.in_ok-difference.ensures.ok (P.respects_sum _ _ _ _ c.in_ok-clone.ensures.ok (Q.reflexive _))) in
    let terms : c.deref-term-items.result.now ≡ difference.0 = c.deref-term-items.ensures.value ∙ ap (λ v. v.0) c.difference.view_is in
    let all = take_all c.loop-term.term-index c.deref-term-items.result.now c.loop-term-test.false ∙ terms in
    let points : g.G.Object.same c.in_ok-sum.sum difference.1 =
    rw (← c.difference.view_is) (E.transitive _ _ _ (rw c.new.ensures.items at c.in_ok-sum.ensures) (value-without_free E G.Additive.group G.Space.spans [] _)) in
    let answer = c.in_ok-answer.ensures.ok in
    let zero = c.in_ok-zero-2.ensures.ok in (
      λ a. equal.0 (record {
        weights = zero_weights-at F.Object.equality F.Additive.group difference.0 (rw all at c.loop-term.invariant);
        points = E.transitive _ _ _ (E.symmetric _ _ points) (E.transitive _ _ _ (answer.0 a) zero);
      }),
      λ h. answer.1 (E.transitive _ _ _ points (E.transitive _ _ _ (equal.1 h).points (E.symmetric _ _ zero))),
    )
