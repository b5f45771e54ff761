-- An element that is spelled is read again, and no spelling begins another.
use Rattle.std.proofs.Common.{◌≡◌, ℕ, ◌^◌, ◌<◌, ltb, true, List, ◌++◌, Ok, refl, arith}
use Rattle.std.specs.Int.{w64, to_be_bytes}
use Rattle.std.proofs.lemmas.Bool.{lt-ltb}
use Rattle.math_numbers.specs.Goldilocks.{P}
use Rattle.math_codec.specs.WordLaws.{word_again, word_in_front-spelled, word_apart}
use Rattle.math_fields.specs.ElementEncoding.{scan_element}

pub element_again : (n : ℕ) (rest : List ℕ) → n < P → scan_element (to_be_bytes w64 n ++ rest) ≡ Ok rest
unfolding scan_element
element_again n rest below =
    let fits : n < 2 ^ 64 = omega arith in
    let admitted : ltb n P ≡ true = lt-ltb n P below in
    rw (word_again n rest fits, word_in_front-spelled n rest fits, admitted) refl

pub element_apart : (m n : ℕ) (x y : List ℕ) → m < P → n < P → to_be_bytes w64 m ++ x ≡ to_be_bytes w64 n ++ y → (m ≡ n) × (x ≡ y)
element_apart m n x y h k e = word_apart m n x y (omega arith) (omega arith) e
