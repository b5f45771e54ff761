use Rattle.std.proofs.Common.{rules, ◌≡◌, ◌∙◌, ◌+◌, ◌^◌, true, false, Some, ap, refl, sym, add-one, vec_len, arith}
use Rattle.math_theory.specs.Powers.{power-zero, power-suc}
use Rattle.math_theory.proofs.polynomials.BuiltPolynomials.{value-of_one}
use Rattle.math_theory.proofs.domains.BuiltVanishing.{missing_product-filled, missing_product-more}
use Rattle.math_transforms.specs.MissingPoints.{count_false, every}
use Rattle.math_transforms.proofs.MissingPlaces.{every-none, every-next, length-every, count_false-start, count_false-within, count_false-next_missing, count_false-next_filled, count_false-rises}
use Rattle.math_transforms.proofs.RootProductCounts.{next-missing, within-missing, within-filled, room-next}
use Rattle.math_transforms.proofs.vanishing.chunk_product.Goals.{then-not-get+in_ok-times_root, else-not-get}
use Rattle.math_transforms.proofs.vanishing.chunk_product.Goals as goal

pub loop-j-init : goal.loop-j-init
loop-j-init g c =
    let F = g.met.F in
    let none : count_false (every c.args.spaced.now.start c.args.spaced.now.stride 0 c.args.spaced.now.points.now) ≡ 0 = sym (count_false-start c.args.spaced.now.start c.args.spaced.now.stride c.args.spaced.now.points.now 0) in
    let pushed = c.in_ok-push.ensures.len in
    record {
      count = omega arith;
      power = rw (power-zero g.F.Ring.one g.F.Multiplicative.product c.args.root.now) c.in_ok-power.ensures.ok;
      values = λ r. rw (every-none c.args.spaced.now.start c.args.spaced.now.stride c.args.spaced.now.points.now)
          (value-of_one F.Object.equality F.Additive.group F.Multiplicative.commutes F.Ring.ring r c.in_ok-one.field-0 c.push.new.self.items (search rules) c.in_ok-one.ensures.ok);
      butterflies = refl;
      root_products = rw none (omega arith);
    }

pub loop-j-preserved : goal.loop-j-preserved
loop-j-preserved g c =
    let F = g.met.F in
    let E = F.Object.equality in
    let G = F.Additive.group in
    let P = F.Multiplicative.commutes in
    let R = F.Ring.ring in
    let start = c.args.spaced.now.start in
    let stride = c.args.spaced.now.stride in
    let points = c.args.spaced.now.points.now in
    let root = c.args.root.now in
    let j = c.loop-j.j in
    let inv = c.loop-j.invariant in
    record {
      count = elim c.if-not-get.branch [
        | then-not-get+in_ok-times_root w ↦
            let more = count_false-next_missing start stride points j (c.get.ensures ∙ ap Some w.if-not-get.true) in
            let long = w.in_ok-times_root.ensures.length in
            rw w.coefficients-is (omega arith)
        | else-not-get w ↦ let more = count_false-next_filled start stride points j (c.get.ensures ∙ ap Some w.if-not-get.false) in rw w.coefficients-is (omega arith)
      ];
      power = rw (add-one, power-suc g.F.Ring.one g.F.Multiplicative.product root j) (E.transitive _ _ _ c.in_ok-mul_assign.ensures.ok (P.respects _ _ _ _ inv.power (E.reflexive root)));
      values = λ r. elim c.if-not-get.branch [
        | then-not-get+in_ok-times_root w ↦
            rw (w.coefficients-is, every-next start stride points j false (c.get.ensures ∙ ap Some w.if-not-get.true))
            (missing_product-more E G P R r root c.loop-j.power _ _ (every start stride j points) j (length-every start stride points j) inv.power (w.in_ok-times_root.ensures.values r) (inv.values r))
        | else-not-get w ↦
            rw (w.coefficients-is, every-next start stride points j true (c.get.ensures ∙ ap Some w.if-not-get.false))
            (missing_product-filled E G P R r root _ (every start stride j points) (inv.values r))
      ];
      butterflies = elim c.if-not-get.branch [
        | then-not-get+in_ok-times_root w ↦ rw w.work-is (w.times_root.ensures.butterflies ∙ inv.butterflies)
        | else-not-get w ↦ rw w.work-is inv.butterflies
      ];
      root_products = elim c.if-not-get.branch [
        | then-not-get+in_ok-times_root w ↦
            let more = count_false-next_missing start stride points j (c.get.ensures ∙ ap Some w.if-not-get.true) in
            rw w.work-is (next-missing c.loop-j.work.root_products _ c.args.work.now.root_products (vec_len c.loop-j.coefficients) (count_false (every start stride j points))
            (count_false (every start stride (j + 1) points))
            more inv.count inv.root_products w.in_ok-times_root.ensures.exact)
        | else-not-get w ↦
            let more = count_false-next_filled start stride points j (c.get.ensures ∙ ap Some w.if-not-get.false) in
            rw (w.work-is, more) inv.root_products
      ];
    }

pub times_root-requires : goal.times_root-requires
times_root-requires g c = grind (arith, count_false-within, room-next)

pub returns-in_err-times_root-clause-no_more : goal.returns-in_err-times_root-clause-no_more
returns-in_err-times_root-clause-no_more g c =
    let start = c.args.spaced.now.start in
    let stride = c.args.spaced.now.stride in
    let points = c.args.spaced.now.points.now in
    let j = c.loop-j.j in
    let more = count_false-next_missing start stride points j (c.get.ensures ∙ ap Some c.if-not-get.true) in
    let rises = count_false-rises start stride points c.args.count (j + 1) (omega arith) in
    let bound = c.in_err-times_root.ensures.bounded in
    within-missing c.loop-j.work.root_products _ c.args.work.now.root_products (vec_len c.loop-j.coefficients) (count_false (every start stride j points))
    (count_false (every start stride c.args.count points))
    (omega arith) c.loop-j.invariant.count c.loop-j.invariant.root_products bound.no_more_products

pub returns-in_err-mul_assign-clause-no_more : goal.returns-in_err-mul_assign-clause-no_more
returns-in_err-mul_assign-clause-no_more g c =
    let start = c.args.spaced.now.start in
    let stride = c.args.spaced.now.stride in
    let points = c.args.spaced.now.points.now in
    let j = c.loop-j.j in
    let rises = count_false-rises start stride points c.args.count (j + 1) (omega arith) in
    elim c.if-not-get.branch [
      | then-not-get+in_ok-times_root w ↦
          let more = count_false-next_missing start stride points j (c.get.ensures ∙ ap Some w.if-not-get.true) in
          rw w.work-is (within-missing c.loop-j.work.root_products _ c.args.work.now.root_products (vec_len c.loop-j.coefficients) (count_false (every start stride j points))
          (count_false (every start stride c.args.count points))
          (omega arith) c.loop-j.invariant.count c.loop-j.invariant.root_products w.times_root.ensures.bounded.no_more_products)
      | else-not-get w ↦
          let more = count_false-next_filled start stride points j (c.get.ensures ∙ ap Some w.if-not-get.false) in
          rw w.work-is (within-filled c.loop-j.work.root_products c.args.work.now.root_products (count_false (every start stride j points))
          (count_false (every start stride c.args.count points)) (omega arith) c.loop-j.invariant.root_products)
    ]
