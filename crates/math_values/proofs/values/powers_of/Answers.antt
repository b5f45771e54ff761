use Rattle.std.proofs.Common.{◌∙◌, ◌*◌, ◌%◌, length, ap, add-one, arith}
use Rattle.std.proofs.lemmas.List.{length_push}
use Rattle.math_numbers.specs.Goldilocks.{P}
use Rattle.math_theory.specs.Powers.{power-zero, power-suc}
use Rattle.math_fields.specs.Elements.{number, residue, product}
use Rattle.math_fields.proofs.ElementNumbers.{same_number}
use Rattle.math_values.proofs.BlockValues.{powers-push}
use Rattle.math_values.proofs.values.powers_of.Goals as goal

pub loop-done-init : goal.loop-done-init
loop-done-init c = record {
  count = ap length c.in_ok-out.ensures.items;
  powers = rw c.in_ok-out.ensures.items (λ k l. absurd (omega arith));
  next = rw power-zero (same_number _ _ c.from-power.ensures);
}

pub loop-done-preserved : goal.loop-done-preserved
loop-done-preserved c = record {
  count = rw c.in_ok-push.ensures.items (omega (arith, length_push c.loop-done.out.items c.loop-done.power, c.loop-done.invariant.count));
  powers = powers-push c.args.x c.loop-done.out.items c.push.new.self.items c.loop-done._done c.loop-done.power c.loop-done.invariant.count c.loop-done.invariant.powers c.loop-done.invariant.next c.in_ok-push.ensures.items;
  next =
      rw (add-one, power-suc (residue 1) product c.args.x c.loop-done._done)
      (same_number _ _ (c.mul-power.ensures ∙ ap (λ y. number y * number c.args.x % P) c.loop-done.invariant.next));
}
