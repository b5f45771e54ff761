-- The numbers that decimal digits write.
use Rattle.std.specs.Prelude.{◌≡◌, ℕ, ◌+◌, ◌-◌, ◌*◌, ◌^◌, ◌<◌, ◌≤◌, List, [], ◌∷◌, length, All}
use Rattle.std.specs.Char.{IsAsciiDigit}
use Rattle.math_numbers.specs.Goldilocks.{P}

-- the number that decimal digits write, the most significant first: the sum of each digit times ten to the number of digits after it,
-- where 48 is the code of the digit 0
abbrev pub number_of_digits : List ℕ → ℕ
number_of_digits [] = 0
number_of_digits (digit ∷ after) = (digit - 48) * 10 ^ length after + number_of_digits after

-- the text is 1 to 20 decimal digits, and the number is the one that they write
pub record WritesNumber (text : List ℕ) (number : ℕ) : Type 0 where
  pub not_empty : 0 < length text
  pub at_most_twenty : length text ≤ 20
  pub digits : All IsAsciiDigit text
  pub value : number_of_digits text ≡ number

-- the text writes the number, which is below the modulus of the field
pub record WritesPoint (text : List ℕ) (point : ℕ) : Type 0 where
  pub number : WritesNumber text point
  pub below_modulus : point < P

-- the text writes the number, which is below 2^lg
pub record WritesRow (lg : ℕ) (text : List ℕ) (row : ℕ) : Type 0 where
  pub number : WritesNumber text row
  pub below_size : row < 2 ^ lg
