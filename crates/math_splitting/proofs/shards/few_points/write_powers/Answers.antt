use Rattle.std.proofs.Common.{◌≡◌, ◌∙◌, ◌*◌, ◌%◌, ap, add-one, arith}
use Rattle.math_numbers.specs.Goldilocks.{P}
use Rattle.math_theory.specs.Powers.{power, power-suc, power-zero}
use Rattle.math_fields.specs.Elements.{number, product, residue}
use Rattle.math_fields.proofs.ElementNumbers.{same_number}
use Rattle.math_transforms.proofs.WrittenRows.{written-done}
use Rattle.math_splitting.proofs.SameCells.{nought}
use Rattle.math_splitting.proofs.shards.few_points.write_powers.Goals as goal

pub loop-i-init : goal.loop-i-init
loop-i-init c = record { done = λ j l. absurd (omega (arith, l)); next = rw power-zero (same_number _ _ c.from-power.ensures) }

pub loop-i-preserved : goal.loop-i-preserved
loop-i-preserved c = record {
  done = written-done nought (λ j y. y ≡ power (residue 1) product c.args.x j) c.loop-i.cells c.loop-i.cells c.loop-i.i c.loop-i.power (omega arith) c.loop-i.invariant.done c.loop-i.invariant.next;
  next =
      rw (add-one, power-suc (residue 1) product c.args.x c.loop-i.i)
      (same_number _ _ (c.mul-power.ensures ∙ ap (λ y. number y * number c.args.x % P) c.loop-i.invariant.next));
}

pub returns : goal.returns
returns c = λ j l. c.loop-i.invariant.done j (omega (arith, l))
