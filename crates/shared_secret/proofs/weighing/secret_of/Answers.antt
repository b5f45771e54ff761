use Rattle.std.proofs.Common.{◌≡◌, ◌∙◌, ◌<◌, ◌-◌, length, take, drop, get_or, ap, arith, subst, sym}
use Rattle.std.proofs.lemmas.Bool.{true≢false}
use Rattle.std.proofs.lemmas.List.{get_or_read}
use Rattle.math_theory.specs.Sums.{weighted_sum}
use Rattle.math_base.proofs.Members.{ring_members}
use Rattle.shared_secret.specs.Shares.{values}
use Rattle.shared_secret.proofs.WeighedShares.{further-count, next-read, not-whole, part-of, secret-count, value-count, whole}
use Rattle.shared_secret.proofs.weighing.secret_of.Goals.{then-given-t-via-then-given-t, then-given-t-via-else-given-t+then-given-t-2}
use Rattle.shared_secret.proofs.weighing.secret_of.Goals as goal

pub returns-then-given-t-clause-none : goal.returns-then-given-t-clause-none
returns-then-given-t-clause-none g c = λ t shares h e a k.
    let R = ring_members g.F.Multiplicative.product g.F.Debug.debug_output g.F.Object.same g.F.Object.NEVER_REFUSES g.F.Additive.zero g.F.Additive.sum g.F.Additive.negative g.F.Ring.one in
    let F = g.met.F in
    let ts : length c.args.weights.now.secret.items ≡ t = secret-count R F.Object.equality F.Additive.group F.Multiplicative.commutes F.Ring.ring (λ w. w.items) t shares c.args.weights.now.secret.items c.args.weights.now.further.items h.combinable h.at_points.secret h.at_points.further in
    let fs : length c.args.weights.now.further.items ≡ length (values shares) - t = further-count R F.Object.equality F.Additive.group F.Multiplicative.commutes F.Ring.ring (λ w. w.items) t shares c.args.weights.now.secret.items c.args.weights.now.further.items h.combinable h.at_points.secret h.at_points.further in
    let long : length c.args.given.now ≡ length shares = ap length e ∙ value-count R F.Object.equality F.Additive.group F.Multiplicative.commutes F.Ring.ring shares in
    absurd (elim c.then-given-t.branch [
      | then-given-t-via-then-given-t w ↦ omega (arith, w.if-given-t.true, c.len-t.ensures, c.args.weights.now.secret.ok, ts, long, h.combinable.enough)
      | then-given-t-via-else-given-t+then-given-t-2 w ↦
          omega (
            arith,
            w.if-given-t.false,
            w.len.ensures,
            w.if-given-t-2.true,
            c.len-t.ensures,
            c.args.weights.now.secret.ok,
            c.args.weights.now.further.ok,
            ts,
            fs,
            long,
            value-count R F.Object.equality F.Additive.group F.Multiplicative.commutes F.Ring.ring shares,
            h.combinable.enough,
          )
    ])

pub returns-then-not-branch-clause-none : goal.returns-then-not-branch-clause-none
returns-then-not-branch-clause-none g c = λ t shares h e.
    let R = ring_members g.F.Multiplicative.product g.F.Debug.debug_output g.F.Object.same g.F.Object.NEVER_REFUSES g.F.Additive.zero g.F.Additive.sum g.F.Additive.negative g.F.Ring.one in
    let F = g.met.F in
    let first = c.split_at.result.0.now in
    let others = c.split_at.result.1.now in
    let i = c.loop-i.i in
    let v = c.index.result.now in
    let at : c.len-t.result ≡ t = omega (arith, c.len-t.ensures, c.args.weights.now.secret.ok, secret-count R F.Object.equality F.Additive.group F.Multiplicative.commutes F.Ring.ring (λ w. w.items) t shares c.args.weights.now.secret.items c.args.weights.now.further.items h.combinable h.at_points.secret h.at_points.further) in
    let front : first ≡ take t (values shares) = part-of take first c.args.given.now (values shares) c.len-t.result t c.split_at.ensures.front at e in
    let back : others ≡ drop t (values shares) = part-of drop others c.args.given.now (values shares) c.len-t.result t c.split_at.ensures.back at e in
    let below : i < length others = c.loop-i-test.true in
    let value : R.same c.in_ok-value.value (weighted_sum R.zero R.sum R.product first v.items) = rw c.deref.ensures.value at (c.requires.sums _ _ _ c.in_ok-value.ensures) in
    let there : c.index-others-i.result ≡ get_or others i R.zero = get_or_read others i c.index-others-i.result below c.index-others-i.is R.zero in
    not-whole R F.Object.equality F.Additive.group F.Multiplicative.commutes F.Ring.ring (λ w. w.items) t shares c.args.weights.now.secret.items c.args.weights.now.further.items h.combinable h.at_points.secret h.at_points.further i v (rw back at below) (sym c.index.ensures)
    (rw (front, back) at (λ (s : R.same (weighted_sum R.zero R.sum R.product first v.items) (get_or others i R.zero)).
    true≢false (sym (c.in_ok-equals.ensures.ok.1 (F.Object.equality.transitive _ _ _ value (subst (λ y. R.same (weighted_sum R.zero R.sum R.product first v.items) y) (sym there) s))) ∙ c.if-not-branch.true)))

pub loop-i-preserved : goal.loop-i-preserved
loop-i-preserved g c =
    let R = ring_members g.F.Multiplicative.product g.F.Debug.debug_output g.F.Object.same g.F.Object.NEVER_REFUSES g.F.Additive.zero g.F.Additive.sum g.F.Additive.negative g.F.Ring.one in
    let F = g.met.F in
    let first = c.split_at.result.0.now in
    let others = c.split_at.result.1.now in
    let i = c.loop-i.i in
    let v = c.index.result.now in
    let fs = c.args.weights.now.further.items in
    let value : R.same c.in_ok-value.value (weighted_sum R.zero R.sum R.product first v.items) = rw c.deref.ensures.value at (c.requires.sums _ _ _ c.in_ok-value.ensures) in
    let same : R.same (weighted_sum R.zero R.sum R.product first v.items) c.index-others-i.result =
    F.Object.equality.transitive _ _ _ (F.Object.equality.symmetric _ _ value) (c.in_ok-equals.ensures.ok.0 c.if-not-branch.false) in
    next-read (λ w y. R.same (weighted_sum R.zero R.sum R.product first w.items) y) fs others R.zero i v c.index-others-i.result
    (omega (arith, c.loop-i-test.true, c.if-given-t-2.false, c.len.ensures, c.split_at.ensures.back_len, c.args.weights.now.further.ok)) c.loop-i-test.true c.index.ensures c.index-others-i.is same c.loop-i.invariant

pub returns-clause-found : goal.returns-clause-found
returns-clause-found g c = λ t shares h e.
    let R = ring_members g.F.Multiplicative.product g.F.Debug.debug_output g.F.Object.same g.F.Object.NEVER_REFUSES g.F.Additive.zero g.F.Additive.sum g.F.Additive.negative g.F.Ring.one in
    let F = g.met.F in
    let first = c.split_at.result.0.now in
    let others = c.split_at.result.1.now in
    let at : c.len-t.result ≡ t = omega (arith, c.len-t.ensures, c.args.weights.now.secret.ok, secret-count R F.Object.equality F.Additive.group F.Multiplicative.commutes F.Ring.ring (λ w. w.items) t shares c.args.weights.now.secret.items c.args.weights.now.further.items h.combinable h.at_points.secret h.at_points.further) in
    let front : first ≡ take t (values shares) = part-of take first c.args.given.now (values shares) c.len-t.result t c.split_at.ensures.front at e in
    let back : others ≡ drop t (values shares) = part-of drop others c.args.given.now (values shares) c.len-t.result t c.split_at.ensures.back at e in
    let secret : R.same c.in_ok-secret.secret (weighted_sum R.zero R.sum R.product first c.args.weights.now.secret.items) = rw c.deref-2.ensures.value at (c.requires.sums _ _ _ c.in_ok-secret.ensures) in
    whole R F.Object.equality F.Additive.group F.Multiplicative.commutes F.Ring.ring (λ w. w.items) t shares c.args.weights.now.secret.items c.args.weights.now.further.items h.combinable h.at_points.secret h.at_points.further F.Field.field c.in_ok-secret.secret (rw front at secret)
    (λ k d l.
    let before = c.loop-i.invariant k d (omega (arith, l, ap length back, c.loop-i-test.false)) in
    rw (front, back) at before)
