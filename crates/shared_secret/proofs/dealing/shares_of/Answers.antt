use Rattle.std.proofs.Common.{◌≡◌, ◌+◌, ◌++◌, [], ◌∷◌, map, ap, refl, arith}
use Rattle.std.proofs.lemmas.List.Elements.{All-nil, All-push}
use Rattle.math_theory.specs.ModuleLaws.{ring_is_module}
use Rattle.math_theory.specs.Powers.{power-zero}
use Rattle.math_base.proofs.Members.{ring_members}
use Rattle.math_base.specs.Polynomials.{value_in_ring}
use Rattle.shared_secret.specs.declared.shares.Share.{Share}
use Rattle.shared_secret.specs.Shares.{point}
use Rattle.shared_secret.proofs.CombinedShares.{not_zero}
use Rattle.shared_secret.proofs.DealingSteps.{indices-push, next_point, next_points, value_alike}
use Rattle.shared_secret.proofs.dealing.shares_of.Goals as goal

pub loop-i-init : goal.loop-i-init
loop-i-init g c =
    let R = ring_members g.F.Multiplicative.product g.F.Debug.debug_output g.F.Object.same g.F.Object.NEVER_REFUSES g.F.Additive.zero g.F.Additive.sum g.F.Additive.negative g.F.Ring.one in
    let F = g.met.F in
    record {
      indices = ap (map (λ s. s.index)) c.in_ok-shares.ensures.items;
      values = rw c.in_ok-shares.ensures.items (All-nil (λ s. R.same s.value (value_in_ring R c.args.p.now (point R s.index))));
      point = rw (power-zero R.zero R.sum R.one) c.in_ok-point.ensures.ok;
      points = λ k a l. absurd (omega arith);
    }

pub returns-then-branch-clause-points : goal.returns-then-branch-clause-points
returns-then-branch-clause-points g c = λ _.
    let R = ring_members g.F.Multiplicative.product g.F.Debug.debug_output g.F.Object.same g.F.Object.NEVER_REFUSES g.F.Additive.zero g.F.Additive.sum g.F.Additive.negative g.F.Ring.one in
    let F = g.met.F in
    let E = F.Object.equality in
    let n = c.loop-i.i in
    let next : R.same c.add_assign.new.self (point R (n + 1)) =
    next_point R E F.Additive.group c.loop-i.point c.in_ok-one.one c.add_assign.new.self n c.loop-i.invariant.point c.in_ok-one.ensures.ok c.in_ok-add_assign.ensures.ok in
    (n + 1, omega arith, omega (arith, c.loop-i-test.true), E.transitive _ _ _ (E.symmetric _ _ next) (E.transitive _ _ _ (c.in_ok-equals.ensures.ok.0 c.if-branch.true) c.in_ok-zero.ensures.ok))

pub loop-i-preserved : goal.loop-i-preserved
loop-i-preserved g c =
    let R = ring_members g.F.Multiplicative.product g.F.Debug.debug_output g.F.Object.same g.F.Object.NEVER_REFUSES g.F.Additive.zero g.F.Additive.sum g.F.Additive.negative g.F.Ring.one in
    let F = g.met.F in
    let E = F.Object.equality in
    let n = c.loop-i.i in
    let i = c.loop-i.invariant in
    let x = c.add_assign.new.self in
    let next : R.same x (point R (n + 1)) =
    next_point R E F.Additive.group c.loop-i.point c.in_ok-one.one x n i.point c.in_ok-one.ensures.ok c.in_ok-add_assign.ensures.ok in
    let s : Share g.row.F.Denot = record { index = n + 1; value = c.in_ok-value.value } in
    let pushed : c.push.new.self.items ≡ c.loop-i.shares.items ++ (s ∷ []) = c.in_ok-push.ensures.items in
    let nonzero : ¬ (R.same x R.zero) = not_zero R E F.Additive.group c.in_ok-equals.field-0 x c.in_ok-zero.zero c.in_ok-equals.ensures.ok c.if-branch.false c.in_ok-zero.ensures.ok in
    let dealt : R.same c.in_ok-value.value (value_in_ring R c.args.p.now (point R (n + 1))) =
    value_alike E F.Additive.group (ring_is_module E F.Additive.group F.Multiplicative.commutes F.Ring.ring) E F.Multiplicative.commutes c.args.p.now x (point R (n + 1)) c.in_ok-value.value next
    c.in_ok-value.ensures.ok in
    rw pushed record {
      indices = indices-push c.loop-i.shares.items s n i.indices refl;
      values = All-push (λ u. R.same u.value (value_in_ring R c.args.p.now (point R u.index))) c.loop-i.shares.items s i.values dealt;
      point = next;
      points = next_points R E F.Additive.group n i.points (λ z. nonzero (E.transitive _ _ _ next z));
    }

pub returns-clause-dealt : goal.returns-clause-dealt
returns-clause-dealt g c =
    let R = ring_members g.F.Multiplicative.product g.F.Debug.debug_output g.F.Object.same g.F.Object.NEVER_REFUSES g.F.Additive.zero g.F.Additive.sum g.F.Additive.negative g.F.Ring.one in
    let F = g.met.F in
    let i = c.loop-i.invariant in
    let end : c.loop-i.i ≡ c.args.n = omega (arith, c.loop-i-test.false, c.loop-i.auto.i-end) in
    record { indices = rw end at i.indices; values = i.values; points = λ z. i.points z.0 z.1 (omega (arith, z.2, end)) z.3 }
