use Rattle.std.proofs.Common.{◌≡◌, ◌+◌, ◌-◌, ◌∷◌, ◌++◌, [], suc, length, take, drop, reverse, ap, arith}
use Rattle.std.proofs.lemmas.List.{reverse-append, length-append}
use Rattle.math_theory.proofs.polynomials.CarriedDivision.{division_begun-same}
use Rattle.math_decoding.proofs.DivisionSteps.{divided-next, written-back}
use Rattle.math_decoding.proofs.division.divide_down.Goals as goal

pub loop-i-init : goal.loop-i-init
loop-i-init g c =
    let F = g.met.F in
    record {
      long = omega (arith, c.len.ensures, c.requires.long);
      count = omega (arith, ap length c.in_ok-quotient.ensures.items);
      divided = rw c.in_ok-quotient.ensures.items (division_begun-same F.Object.equality F.Additive.group F.Multiplicative.commutes F.Ring.ring
          (c.len.result - c.args.n) c.args.left.now.items c.args.d.now);
    }

pub loop-i-preserved : goal.loop-i-preserved
loop-i-preserved g c =
    let F = g.met.F in
    let front = c.pop.new.self.items in
    let new = c.subtract_multiple.new.p in
    let back : take c.pop.new.self.len (new ++ drop (length new) front) ≡ new =
    written-back c.pop.new.self.len new front (omega (arith, c.in_ok-subtract_multiple.ensures.length, ap length c.deref_mut.ensures.value))
    (omega (arith, c.in_ok-subtract_multiple.ensures.length, ap length c.deref_mut.ensures.value)) in
    let split : c.loop-i.left.items ≡ front ++ (c.in-Some.c ∷ []) = rw c.in-Some.is at c.pop.ensures.items in
    let count : length front ≡ (c.loop-i.i - 1) + c.args.n = omega (arith, ap length split, length-append front (c.in-Some.c ∷ []), c.loop-i.invariant.long, c.loop-i-test.true) in
    let next : suc (c.loop-i.i - 1) ≡ c.loop-i.i = omega (arith, c.loop-i-test.true) in
    let factor = c.mul_assign.new.self in
    record {
      long = rw back (omega (arith, c.in_ok-subtract_multiple.ensures.length, ap length c.deref_mut.ensures.value, count));
      count = rw back (omega (arith, c.in_ok-subtract_multiple.ensures.length, ap length c.deref_mut.ensures.value, c.in_ok-push.ensures.len, ap length split, length-append front (c.in-Some.c ∷ []), c.loop-i.invariant.count));
      divided = rw (back, c.in_ok-push.ensures.items, reverse-append c.loop-i.quotient.items (factor ∷ []))
          (divided-next F.Object.equality F.Additive.group F.Multiplicative.commutes F.Ring.ring (c.loop-i.i - 1) c.args.n c.args.left.now.items c.args.d.now (reverse c.loop-i.quotient.items)
          c.loop-i.left.items front new c.in-Some.c c.args.inverse.now factor c.requires.degree c.requires.inverse split count c.in_ok-mul_assign.ensures.ok
          (omega (arith, c.in_ok-subtract_multiple.ensures.length, ap length c.deref_mut.ensures.value))
          (rw c.deref_mut.ensures.value at c.in_ok-subtract_multiple.ensures.ok)
          (rw (← next) at c.loop-i.invariant.divided));
    }
