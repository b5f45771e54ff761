use Rattle.std.proofs.Common.{◌≡◌}
use Rattle.goldmath_commands.proofs.EncodedPolynomials.{eval_line-residue}
use Rattle.goldmath_commands.proofs.engine.value_line.Goals as goal

pub returns : goal.returns
returns c =
    rw (eval_line-residue c.args.polynomial.now c.from.result c.in_ok-value.value c.args.point c.number.result c.from.ensures
    c.in_ok-value.ensures.ok c.number.ensures) at c.decimal_line.ensures
