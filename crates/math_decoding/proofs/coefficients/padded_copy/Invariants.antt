use Rattle.std.proofs.Common.{◌≡◌, ◌+◌, length, take}
use Rattle.math_theory.specs.Coefficients.{HaveSameCoefficients}
use Rattle.math_decoding.proofs.coefficients.padded_copy.Given as goal

-- copies of the coefficients so far
abbrev pub invariant-loop-item : goal.invariant-loop-item
invariant-loop-item g l = record {
  count : length l.out.items ≡ l.item-index;
  same : HaveSameCoefficients g.F.Object.same g.F.Additive.zero l.out.items (take l.item-index l.p);
}

-- all of them, and as many zeros as the index says
abbrev pub invariant-loop-missing : goal.invariant-loop-missing
invariant-loop-missing g l = record {
  count : length l.out.items ≡ length l.p + l._missing;
  same : HaveSameCoefficients g.F.Object.same g.F.Additive.zero l.out.items l.p;
}
