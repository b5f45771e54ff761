use Rattle.std.proofs.Common.{◌*◌}
use Rattle.c_calls.proofs.WrittenWords.{AreWritten}
use Rattle.c_calls.proofs.elements.spell_words.Given as goal

-- the words so far
abbrev pub invariant-loop-pair : goal.invariant-loop-pair
invariant-loop-pair l = AreWritten l.from (2 * l.pair) l.initial.bytes l.words l.bytes
