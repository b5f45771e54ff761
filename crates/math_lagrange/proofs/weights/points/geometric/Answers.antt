use Rattle.std.proofs.Common.{◌++◌, [], ◌∷◌, ◌≡◌, refl, add-one, rules, arith}
use Rattle.std.proofs.lemmas.List.{length-append}
use Rattle.math_theory.specs.Powers.{power, power-zero, power-suc}
use Rattle.math_theory.proofs.classes.RingUpToSame.{ring_same}
use Rattle.math_theory.proofs.rings.Normal.{◌⊗◌, 𝟙, v0, v1, v2}
use Rattle.math_base.proofs.PlaceByPlace.{each_place_next}
use Rattle.math_lagrange.proofs.weights.points.geometric.Goals as goal

pub loop-done-init : goal.loop-done-init
loop-done-init g c =
    let F = g.met.F in
    record {
      count = search rules;
      factors = λ i l. absurd (omega arith);
      next = rw (power-zero g.F.Ring.one g.F.Multiplicative.product c.args.ratio.now)
          (ring_same F.Object.equality F.Additive.group F.Multiplicative.commutes F.Ring.ring (c.args.start ∷ []) v0 (v0 ⊗ 𝟙) refl);
    }

pub loop-done-preserved : goal.loop-done-preserved
loop-done-preserved g c =
    let F = g.met.F in
    let E = F.Object.equality in
    let P = F.Multiplicative.commutes in
    let product = g.F.Multiplicative.product in
    let ratio = c.args.ratio.now in
    let i = c.loop-done._done in
    let out = c.loop-done.out.items in
    let item = c.in_ok-next.next in
    let pushed : c.push.new.self.items ≡ out ++ (item ∷ []) = c.in_ok-push.ensures.items in
    record {
      count = rw pushed (omega (arith, length-append out (item ∷ []), c.loop-done.invariant.count));
      factors = rw pushed
          (each_place_next g.F.Additive.zero (λ k a. g.F.Object.same a (product c.args.start (power g.F.Ring.one product ratio k))) out i item
          c.loop-done.invariant.count c.loop-done.invariant.factors (E.transitive _ _ _ c.in_ok-next.ensures.ok c.loop-done.invariant.next));
      next = rw (add-one i, power-suc g.F.Ring.one product ratio i)
          (E.transitive _ _ _ c.in_ok-mul_assign.ensures.ok
          (E.transitive _ _ _ (P.respects _ _ _ _ c.loop-done.invariant.next (E.reflexive ratio))
          (ring_same E F.Additive.group P F.Ring.ring (c.args.start ∷ power g.F.Ring.one product ratio i ∷ ratio ∷ []) ((v0 ⊗ v1) ⊗ v2) (v0 ⊗ (v1 ⊗ v2)) refl)));
    }
