use Rattle.std.proofs.Common.{◌≡◌, ℕ, ◌+◌, ◌*◌, ◌++◌, true, List, length}
use Rattle.c_calls.specs.WordElements.{AreElements}
use Rattle.c_calls.proofs.WrittenWords.{bytes_of}
use Rattle.c_calls.proofs.elements.after_words_below.Given as goal

-- the words so far stand in front of what is left, and are below P where all were found to be
abbrev pub invariant-loop : goal.invariant-loop
invariant-loop l = record {
  left : length l.rest + 8 * l.counter ≡ length l.bytes;
  taken : (words : List ℕ) × (length words ≡ l.counter) × (l.below ≡ true → AreElements words) × (l.bytes ≡ bytes_of words ++ l.rest);
}
