use Rattle.std.proofs.Common.{◌≡◌, w64, arith}
use Rattle.std.specs.Int.{trailing_zeros}
use Rattle.std.proofs.lemmas.Grind.{common_steps}
use Rattle.math_transforms.proofs.Levels.{lg-of_power}
use Rattle.rows_ntt.proofs.transforms.has_domain.Goals as goal

pub returns : goal.returns
returns g c = λ small l e.
    let at : trailing_zeros w64 c.args.rows ≡ l = lg-of_power l c.args.rows e (omega arith) in
    grind (arith, common_steps)
