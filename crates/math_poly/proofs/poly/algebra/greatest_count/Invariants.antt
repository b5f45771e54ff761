use Rattle.std.proofs.Common.{◌≡◌, ◌<◌, take}
use Rattle.math_poly.specs.PolynomialCounts.{greatest_count}
use Rattle.math_poly.proofs.poly.algebra.greatest_count.Given as goal

-- the greatest count so far
abbrev pub invariant-loop-p : goal.invariant-loop-p
invariant-loop-p g l = record {
  greatest : l.count ≡ greatest_count (take l.p-index l.polynomials);
  range : l.count < 4294967296;
}
