use Rattle.std.proofs.Common.{◌≡◌, ◌++◌, length, map}
use Rattle.math_fields.specs.Elements.{number}
use Rattle.secret_bytes.specs.Packings.{number_count, packed, sevens}
use Rattle.secret_bytes.proofs.elements.elements_of.Given as goal

-- the elements of the bytes that are left are still to come
abbrev pub invariant-loop-rest : goal.invariant-loop-rest
invariant-loop-rest l = map number l.elements.items ++ sevens (number_count (length l.rest)) l.rest ≡ packed l.bytes

abbrev pub decreases-loop-rest : goal.decreases-loop-rest
decreases-loop-rest l = length l.rest
