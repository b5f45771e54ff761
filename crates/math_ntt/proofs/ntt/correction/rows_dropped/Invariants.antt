use Rattle.std.proofs.Common.{◌≡◌, not, false, take, get_or}
use Rattle.std.specs.List.{filter}
use Rattle.math_ntt.proofs.ntt.correction.rows_dropped.Given as goal

-- the rows so far that are not filled any more
abbrev pub invariant-loop-j : goal.invariant-loop-j
invariant-loop-j l = l.out.items ≡ filter (λ i. not (get_or l.left i false)) (take l.j l.rows)
