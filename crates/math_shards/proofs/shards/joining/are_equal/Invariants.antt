use Rattle.std.proofs.Common.{take}
use Rattle.std.specs.List.{AllZip}
use Rattle.math_fields.specs.Elements.{same}
use Rattle.math_shards.proofs.shards.joining.are_equal.Given as goal

-- the cells so far are equal
abbrev pub invariant-loop-i : goal.invariant-loop-i
invariant-loop-i l = AllZip same (take l.i l.cells) (take l.i l.others)
