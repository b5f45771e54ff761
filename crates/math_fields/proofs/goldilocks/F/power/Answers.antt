use Rattle.std.proofs.Common.{◌∙◌, ap, ◌*◌, ◌%◌, arith, lit<}
use Rattle.math_numbers.specs.Goldilocks.{P}
use Rattle.math_numbers.specs.PowersModulo.{power_mod}
use Rattle.math_fields.proofs.PowerSteps.{first_step, last_step, even_step, odd_step}
use Rattle.math_fields.proofs.goldilocks.F.power.Goals as goal
use Rattle.math_fields.proofs.goldilocks.F.power.Goals.{then-left-eq1, else-left-eq1}

pub loop-left-init : goal.loop-left-init
loop-left-init c = record { rest = ap (λ t. t * power_mod P c.args.self.value c.args.n % P) c.from-out.ensures ∙ first_step P c.args.self.value c.args.n }

pub loop-left-preserved : goal.loop-left-preserved
loop-left-preserved c =
    elim c.if-left-eq1.branch [
      | then-left-eq1 w ↦ record {
        rest = rw (w.out-is, w.mul-out.ensures, c.mul-base.ensures) (odd_step P c.loop-left.out.value c.loop-left.base.value c.loop-left.left w.if-left-eq1.true ∙ c.loop-left.invariant.rest);
      }
      | else-left-eq1 w ↦ record {
        rest = rw (w.out-is, c.mul-base.ensures) (even_step P c.loop-left.out.value c.loop-left.base.value c.loop-left.left (let n = w.if-left-eq1.false in omega arith) ∙ c.loop-left.invariant.rest);
      }
    ]

pub returns : goal.returns
returns c = last_step P _ c.loop-left.base.value c.loop-left.left (lit< tt) c.loop-left.out.below (omega arith) ∙ c.loop-left.invariant.rest
