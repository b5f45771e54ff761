use Rattle.std.proofs.Common.{◌≡◌, ◌∙◌, ◌*◌, ◌<◌, ap, arith}
use Rattle.std.proofs.lemmas.List.Elements.{length_all_zip}
use Rattle.std.proofs.lemmas.Nat.{mul-le}
use Rattle.math_ntt.proofs.PaddedPolynomials.{padded-below, same_polynomials}
use Rattle.math_ntt.proofs.ntt.matrix.Matrix.as_polynomials.Goals as goal

pub next_power_of_two-rows-requires : goal.next_power_of_two-rows-requires
next_power_of_two-rows-requires g c =
    let rows : c.self.inside.rows ≡ c.args.self.now.rows = ap (λ m. m.rows) c.self.view_is in
    let some : 0 < c.args.min_coefficients = omega (arith, c.if-min_coefficients-eq0.false) in
    padded-below c.args.self.now c.args.min_coefficients (omega arith) (c.requires.fits (some, omega (arith, rows, c.if-min_coefficients-self.false)))

pub filled_up-requires : goal.filled_up-requires
filled_up-requires g c = grind (arith, length_all_zip, mul-le)

pub returns-clause-polynomials : goal.returns-clause-polynomials
returns-clause-polynomials g c = grind (arith, same_polynomials)
