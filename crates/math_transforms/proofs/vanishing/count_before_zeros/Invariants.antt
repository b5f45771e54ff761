use Rattle.std.proofs.Common.{length}
use Rattle.std.specs.List.{AllWithin}
use Rattle.math_transforms.proofs.vanishing.count_before_zeros.Given as goal

-- the coefficients from place i on are zero
abbrev pub invariant-loop-i : goal.invariant-loop-i
invariant-loop-i g l = AllWithin (λ c. g.F.Object.same c g.F.Additive.zero) l.coefficients l.i (length l.coefficients)
