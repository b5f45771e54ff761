use Rattle.std.proofs.Common.{◌≡◌, ◌∙◌, ◌<◌, length, take, get_or, refl, sym, add-one, arith}
use Rattle.std.proofs.lemmas.List.{get_or_default, length-take-le, take_more, take_more_set, take_all, length-set}
use Rattle.math_theory.proofs.polynomials.BuiltPolynomials.{times_root-none, times_root-more, times_root-last}
use Rattle.math_transforms.proofs.WrittenRows.{written-rest}
use Rattle.math_transforms.proofs.vanishing.times_root.Goals as goal

pub loop-i-init : goal.loop-i-init
loop-i-init g c =
    let F = g.met.F in
    record {
      count = refl;
      rest = λ k l. refl;
      values = λ r. times_root-none F.Object.equality F.Additive.group F.Multiplicative.commutes F.Ring.ring c.args.root.now c.in_ok-before.before r c.in_ok-before.ensures.ok;
      butterflies = refl;
      root_products = omega arith;
    }

pub loop-i-preserved : goal.loop-i-preserved
loop-i-preserved g c =
    let F = g.met.F in
    let zero = g.F.Additive.zero in
    let start = c.args.coefficients.now.items in
    let cells = c.loop-i.coefficients.items in
    let i = c.loop-i.i in
    let next = c.sub_assign.new.self in
    let inv = c.loop-i.invariant in
    let within : i < length cells = omega arith in
    let read : get_or start i zero ≡ c.index.result.now = sym (inv.rest i (omega arith)) ∙ get_or_default cells i zero c.index.result.now within ∙ sym c.index.ensures in
    record {
      count = length-set cells i next ∙ inv.count;
      rest = written-rest zero (λ k x. Unit {0}) start cells i next inv.rest;
      values = λ r. rw (take_more_set cells i next within, take_more start i zero (omega arith), add-one)
          (times_root-more F.Object.equality F.Additive.group F.Multiplicative.commutes F.Ring.ring c.args.root.now
          (get_or start i zero) c.in_ok-coefficient.coefficient c.in_ok-product.product c.root_product.new.coefficient
          c.loop-i.before next i (take i cells) (take i start) r (length-take-le i cells (omega arith)) (length-take-le i start (omega arith))
          (rw read c.in_ok-coefficient.ensures.ok) c.in_ok-product.ensures.ok c.in_ok-root_product.ensures.product c.in_ok-sub_assign.ensures.ok (inv.values r));
      butterflies = c.in_ok-root_product.ensures.butterflies ∙ inv.butterflies;
      root_products = omega arith;
    }

pub returns-clause-values : goal.returns-clause-values
returns-clause-values g c = λ r.
    let F = g.met.F in
    let start = c.args.coefficients.now.items in
    let cells = c.loop-i.coefficients.items in
    let i = c.loop-i.i in
    let inv = c.loop-i.invariant in
    let long : length cells ≡ i = omega arith in
    let whole : take i cells ≡ cells = take_all i cells (omega arith) in
    let all : take i start ≡ start = take_all i start (omega (arith, inv.count)) in
    times_root-last F.Object.equality F.Additive.group F.Multiplicative.commutes F.Ring.ring c.args.root.now c.loop-i.before start cells c.push.new.self.items i r long c.in_ok-push.ensures.items
    (rw (whole, all) at (inv.values r))
