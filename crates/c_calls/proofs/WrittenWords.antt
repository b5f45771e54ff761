-- Words written over bytes, one after the other.
use Rattle.std.proofs.Common.{◌≡◌, ◌∙◌, ℕ, ◌+◌, ◌*◌, ◌≤◌, List, ◌++◌, length, length-append, take, drop, sym, ap, ap₂, arith}
use Rattle.std.proofs.lemmas.List.{take_at}
use Rattle.std.proofs.lemmas.Slice.{drop-append-drop}
pub use Rattle.math_splitting.proofs.SpelledWords.{AreWritten, all_written, bytes_of, length-bytes, none_written, one_written}
use Rattle.math_codec.specs.Lengths.{length_spelling}
use Rattle.c_calls.specs.WordEncodings.{StandInFront, polynomial_spelling}

-- the encoding of a polynomial is its length and eight bytes for each coefficient
pub length-spelled : (front words : List ℕ) → front ≡ length_spelling (length words) → length (polynomial_spelling words) ≡ length front + 8 * length words
length-spelled front words h = length-append (length_spelling (length words)) (bytes_of words) ∙ ap₂ (λ m n. m + n) (ap length (sym h)) (length-bytes words)

-- the length is written first, and then the words
pub polynomial_written : (from : ℕ) (front words old part new : List ℕ) → from ≡ length front → from + 8 * length words ≤ length old → front ≡ length_spelling (length words)
    → part ≡ front → new ≡ take from (part ++ drop from old) ++ bytes_of words ++ drop (from + 8 * length words) (part ++ drop from old)
    → StandInFront (polynomial_spelling words) old new
polynomial_written from front words old part new e l h hp hn = grind (arith, length-spelled, take_at, drop-append-drop)
