use Rattle.std.proofs.Common.{◌≡◌, ◌++◌, take}
use Rattle.secret_bytes.specs.Readings.{capitals}
use Rattle.secret_bytes.proofs.reading.push_capitals.Given as goal

-- the capitals so far
abbrev pub invariant-loop-byte : goal.invariant-loop-byte
invariant-loop-byte l = l.out.items ≡ l.fn.out.items ++ capitals (take l.byte-index l.text)
