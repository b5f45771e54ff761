use Rattle.std.proofs.Common.{◌≡◌, take, map}
use Rattle.math_fields.specs.Elements.{number}
use Rattle.math_splitting.proofs.shards.destinations.write_numbers.Given as goal

-- the numbers of the elements so far
abbrev pub invariant-loop-k : goal.invariant-loop-k
invariant-loop-k l = take l.k l.words ≡ map number (take l.k l.items)
