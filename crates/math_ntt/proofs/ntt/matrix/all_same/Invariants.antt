use Rattle.std.proofs.Common.{take}
use Rattle.std.specs.List.{AllZip}
use Rattle.math_ntt.proofs.ntt.matrix.all_same.Given as goal

-- the cells so far are the same
abbrev pub invariant-loop-i : goal.invariant-loop-i
invariant-loop-i g l = AllZip g.F.Object.same (take l.i l.a) (take l.i l.b)
