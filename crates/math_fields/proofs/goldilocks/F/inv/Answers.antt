use Rattle.std.proofs.Common.{◌≢◌, ◌*◌, ◌%◌, ap, ◌∙◌, arith, lit<}
use Rattle.math_numbers.specs.Goldilocks.{P}
use Rattle.math_numbers.specs.PowersModulo.{power_mod}
use Rattle.math_numbers.proofs.Fermat.{inverse_mod-inverts}
use Rattle.math_numbers.proofs.GoldilocksPrime.{goldilocks_prime}
use Rattle.math_numbers.proofs.PowersModulo.{power_mod-by_squaring}
use Rattle.math_fields.proofs.goldilocks.F.inv.Goals as goal

pub returns-clause-inverts : goal.returns-clause-inverts
returns-clause-inverts c = λ apart.
    let a = c.args.self.value in
    let nonzero : a % P ≢ 0 = omega (arith, c.args.self.below) in
    ap (λ t. a * t % P) c.power.ensures ∙ inverse_mod-inverts P a goldilocks_prime nonzero

pub returns-clause-zero : goal.returns-clause-zero
returns-clause-zero c = λ e. c.power.ensures ∙ ap (λ t. power_mod P t 18446744069414584319) e ∙ power_mod-by_squaring 64 P 0 18446744069414584319 (lit< tt)
