use Rattle.std.specs.List.{AllWithin}
use Rattle.math_fields.specs.Elements.{same}
use Rattle.math_splitting.proofs.SameCells.{nought}
use Rattle.math_shards.proofs.shards.unpacking.are_zero.Given as goal

-- the elements so far are zero
abbrev pub invariant-loop-element : goal.invariant-loop-element
invariant-loop-element l = AllWithin (λ x. same x nought) l.elements 0 l.element-index
