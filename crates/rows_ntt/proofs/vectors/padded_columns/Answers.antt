use Rattle.std.proofs.Common.{◌≡◌, arith}
use Rattle.math_ntt.proofs.PaddedPolynomials.{next_power_of_two-once}
use Rattle.rows_ntt.proofs.vectors.padded_columns.Goals as goal

pub as_polynomials-out-requires : goal.as_polynomials-out-requires
as_polynomials-out-requires g c = record {
  fits = λ enough rows h.
      let e : rows ≡ c.in-Some.rows = next_power_of_two-once c.args.n rows c.in-Some.rows h c.in-Some.ensures in
      rw (e, ← c.cols.ensures) (omega arith, c.in-Some-checked_mul.ensures.0);
}
