-- The sizes of strips and of rows of data: all of them fit a word, and strips their room.
use Rattle.std.proofs.Common.{◌≡◌, ◌∙◌, ℕ, suc, ◌+◌, ◌-◌, ◌*◌, ◌/◌, ◌<◌, ◌≤◌, ◌^◌, List, length, sym, ap, arith}
use Rattle.std.specs.Int.{div_ceil}
use Rattle.std.proofs.lemmas.Bool.{cases_lt}
use Rattle.std.proofs.Math.Nat.{mul-div-le}
use Rattle.std.proofs.lemmas.Nat.{mul-le}
use Rattle.math_numbers.specs.Bits.{piece_count}
use Rattle.math_numbers.proofs.BitPieces.{piece_count-enough, piece_count-least}
use Rattle.math_fields.proofs.Packing.{length-elements_of}
use Rattle.math_splitting.specs.Shards.{counted, elements_for, width_for}
use Rattle.math_splitting.proofs.LaidOutData.{rounded_up}

-- so many elements do so many words pack to
elements_of_words : (n : ℕ) → piece_count 63 (64 * suc n) ≡ n + 1 + div_ceil (n + 1) 63
elements_of_words n = omega arith

pub count_elements : (words : List ℕ) → length (elements_for words) ≡ length words + 1 + div_ceil (length words + 1) 63
count_elements words = length-elements_of (counted words) ∙ elements_of_words (length words)

-- the width of the rows
pub width_of_words : (least : ℕ) (words : List ℕ) → 1 ≤ least → div_ceil (length words + 1 + div_ceil (length words + 1) 63) least ≡ width_for least words
width_of_words least words some = rounded_up (length words + 1 + div_ceil (length words + 1) 63) least some ∙ ap (piece_count least) (sym (count_elements words))

-- their cells
pub cells_fit : (least : ℕ) (words : List ℕ) → 1 ≤ least → least < 2 ^ 32 → length words < 2 ^ 61 → least * width_for least words < 2 ^ 64
cells_fit least words some small few = omega (arith, piece_count-least least (length (elements_for words)) some, count_elements words)

-- there is a cell in a row, and a row is shorter than 2^63
pub wide_rows : (least : ℕ) (words : List ℕ) → 1 ≤ least → 1 ≤ width_for least words
wide_rows least words some = grind (arith, piece_count-enough, cases_lt, count_elements)

pub short_rows : (least : ℕ) (words : List ℕ) → 1 ≤ least → length words < 2 ^ 61 → width_for least words < 2 ^ 63
short_rows least words some few = grind (arith, piece_count-least, wide_rows, mul-le, count_elements)

pub cols_fit : (n lg c : ℕ) → c ≤ n / 2 ^ lg → 2 ^ lg * c ≤ n
cols_fit n lg c h = omega (arith, mul-le (2 ^ lg) c (2 ^ lg) (n / 2 ^ lg) (omega arith) h, mul-div-le n (2 ^ lg))
