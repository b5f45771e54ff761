-- What the library's `parse` gives for a text of digits, in the words of the specs.
use Rattle.std.proofs.Common.{◌≡◌, ℕ, ◌^◌, ◌<◌, ◌≤◌, List, length, All, Result, Ok, sym, arith}
use Rattle.std.specs.Char.{IsAsciiDigit}
use Rattle.std.specs.Str.Parse.{ParsesUnsigned}
use Rattle.std.proofs.lemmas.Str.Parse.{parse_digits, parse_gives}
use Rattle.goldmath_commands.specs.Numerals.{number_of_digits, WritesNumber}
use Rattle.goldmath_commands.proofs.Digits.{numerals}

-- of at most 20 digits, `parse` gives the number that they write
pub WritesNumber-from_parse : {E : Type 0} (text : List ℕ) (r : Result ℕ E) (x : ℕ) → ParsesUnsigned 64 10 text r → r ≡ Ok x → All IsAsciiDigit text → length text ≤ 20 → WritesNumber text x
WritesNumber-from_parse {E} text r x parses ok digits short =
    let parses_ok = rw ok at parses in
    let read = parse_digits numerals {E = E} 64 text (Ok x) parses_ok digits in
    record { not_empty = read.0.0; at_most_twenty = short; digits = digits; value = sym read.1 }

-- `parse` gives each number of 64 bits that a text writes
pub parse-WritesNumber : {E : Type 0} (text : List ℕ) (r : Result ℕ E) (x : ℕ) → ParsesUnsigned 64 10 text r → WritesNumber text x → x < 2 ^ 64 → r ≡ Ok x
parse-WritesNumber text r x parses w small =
    let value = w.value in
    let bounded : number_of_digits text < 2 ^ 64 = omega arith in
    let read = parse_gives numerals 64 text r parses w.digits w.not_empty bounded in
    cc
