-- What fixes the decimal text that is printed of a number.
use Rattle.std.specs.Prelude.{◌≡◌, ℕ, ◌^◌, ◌<◌, List, [], ◌++◌, codes}
use Rattle.std.specs.Fmt.{decimal}
use Rattle.goldmath_commands.specs.Numerals.{WritesNumber}

-- nothing follows a zero that the text begins with
abbrev pub HasNoLeadingZero : List ℕ → Type 0
HasNoLeadingZero text = (after : List ℕ) → text ≡ codes "0" ++ after → after ≡ []

-- the printed text of a number of 64 bits writes that number
abbrev pub PrintedNumbersReadBack : Type 0
PrintedNumbersReadBack = (n : ℕ) → n < 2 ^ 64 → WritesNumber (decimal n) n

-- the printed text of a number of 64 bits has no leading zero
abbrev pub PrintedNumbersHaveNoLeadingZero : Type 0
PrintedNumbersHaveNoLeadingZero = (n : ℕ) → n < 2 ^ 64 → HasNoLeadingZero (decimal n)

-- a text without a leading zero that writes a number of 64 bits is the printed text of that number
abbrev pub NumbersArePrintedInOneWay : Type 0
NumbersArePrintedInOneWay = (n : ℕ) (text : List ℕ) → n < 2 ^ 64 → WritesNumber text n → HasNoLeadingZero text → text ≡ decimal n
