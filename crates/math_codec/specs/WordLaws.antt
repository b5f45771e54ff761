-- A word that is spelled is read again, and no spelling begins another.
use Rattle.std.proofs.Common.{◌≡◌, ℕ, ◌^◌, ◌<◌, ◌≤◌, ltb, false, List, ◌++◌, length, drop, Ok, refl, sym, ap, ◌∙◌, arith, length-append}
use Rattle.std.specs.Int.{w64, to_be_bytes, from_be_bytes}
use Rattle.std.proofs.lemmas.Bool.{le-ltb}
use Rattle.std.proofs.lemmas.List.{take_at, drop_at}
use Rattle.std.proofs.lemmas.Nat.{from_be_bytes-to_be_bytes_8}
use Rattle.math_codec.specs.Words.{scan_word, word_in_front}

pub word_again : (n : ℕ) (rest : List ℕ) → n < 2 ^ 64 → scan_word (to_be_bytes w64 n ++ rest) ≡ Ok rest
word_again n rest lt =
    let long : ltb (length (to_be_bytes w64 n ++ rest)) 8 ≡ false = le-ltb _ _ (omega (arith, length-append (to_be_bytes w64 n) rest)) in
    rw (long, drop_at (to_be_bytes w64 n) rest 8 refl) refl

pub word_in_front-spelled : (n : ℕ) (rest : List ℕ) → n < 2 ^ 64 → word_in_front (to_be_bytes w64 n ++ rest) ≡ n
word_in_front-spelled n rest lt = ap (from_be_bytes w64) (take_at (to_be_bytes w64 n) rest 8 refl) ∙ from_be_bytes-to_be_bytes_8 n lt

pub word_apart : (m n : ℕ) (x y : List ℕ) → m < 2 ^ 64 → n < 2 ^ 64 → to_be_bytes w64 m ++ x ≡ to_be_bytes w64 n ++ y → (m ≡ n) × (x ≡ y)
word_apart m n x y h k e =
    let front : m ≡ n = sym (word_in_front-spelled m x h) ∙ ap word_in_front e ∙ word_in_front-spelled n y k in
    let back : x ≡ y = sym (drop_at (to_be_bytes w64 m) x 8 refl) ∙ ap (drop 8) e ∙ drop_at (to_be_bytes w64 n) y 8 refl in
    (front, back)

pub word_bounded : (n : ℕ) → length (to_be_bytes w64 n) ≤ 8
word_bounded n = omega arith
