use Rattle.std.proofs.Common.{◌≡◌, length, map, Ok}
use Rattle.std.specs.List.{AllZip}
use Rattle.math_theory.specs.Domains.{coset}
use Rattle.math_poly.proofs.poly.evaluation.first_powers.Given as goal

-- the powers so far, each of which was given
abbrev pub invariant-loop-power : goal.invariant-loop-power
invariant-loop-power g l = record {
  given : map Ok l.out.items ≡ l.yielded;
  powers : AllZip g.R.Object.same l.out.items (coset g.R.Ring.one g.R.Multiplicative.product l.fn.shift l.base (length l.out.items));
}
