use Rattle.std.proofs.Common.{◌≡◌, ◌*◌, map, take}
use Rattle.std.specs.Int.{from_be_bytes, w64}
use Rattle.c_calls.proofs.elements.read_words.Given as goal

-- the words so far are those of the bytes
abbrev pub invariant-loop-pair : goal.invariant-loop-pair
invariant-loop-pair l = take (2 * l.pair) l.words ≡ map (from_be_bytes w64) (take (2 * l.pair) l.eights)
