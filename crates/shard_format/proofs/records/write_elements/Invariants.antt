use Rattle.std.proofs.Common.{◌≡◌, map, take}
use Rattle.shard_format.specs.Records.{element_spelling}
use Rattle.shard_format.proofs.records.write_elements.Given as goal

-- the words so far are those of the elements
abbrev pub invariant-loop-k : goal.invariant-loop-k
invariant-loop-k l = map element_spelling (take l.k l.elements) ≡ take l.k l.words
