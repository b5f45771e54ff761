use Rattle.std.proofs.Common.{◌*◌, map}
use Rattle.math_fields.specs.Elements.{number}
use Rattle.math_splitting.proofs.SpelledWords.{AreWritten}
use Rattle.math_splitting.proofs.shards.destinations.write_bytes.Given as goal

-- the numbers of the elements so far
abbrev pub invariant-loop-pair : goal.invariant-loop-pair
invariant-loop-pair l = AreWritten (8 * l.from) (2 * l.pair) l.initial.bytes (map number l.items) l.bytes
