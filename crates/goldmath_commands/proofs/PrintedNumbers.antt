-- What fixes the decimal text that is printed of a number.
use Rattle.std.proofs.Common.{◌≡◌, ℕ, zero, suc, ◌^◌, ◌<◌, List, [], ◌∷◌, length, get_or, refl, ap, arith}
use Rattle.std.specs.Fmt.{decimal}
use Rattle.std.proofs.lemmas.Fmt.{digits_decimal, digits_value-decimal, decimal_nonempty, length-decimal-le, first_decimal, decimal_digit, decimal-digits_value}
use Rattle.goldmath_commands.specs.Numerals.{number_of_digits}
use Rattle.goldmath_commands.specs.PrintedNumbers.{HasNoLeadingZero, PrintedNumbersReadBack, PrintedNumbersHaveNoLeadingZero, NumbersArePrintedInOneWay}
use Rattle.goldmath_commands.proofs.Digits.{numerals}

pub printed_numbers_read_back : PrintedNumbersReadBack
printed_numbers_read_back n small = record {
  not_empty = decimal_nonempty n small;
  at_most_twenty = length-decimal-le 20 n (omega arith) (omega arith) small;
  digits = digits_decimal numerals n small;
  value = digits_value-decimal numerals n small;
}

-- the first digit of zero is its only one, and that of another number is above zero
pub printed_numbers_have_no_leading_zero : PrintedNumbersHaveNoLeadingZero
printed_numbers_have_no_leading_zero zero small after e = let one = decimal_digit 0 (omega arith) in cc
printed_numbers_have_no_leading_zero (suc n) small after e =
    let first = first_decimal (suc n) (omega arith) small in absurd (omega (arith, rw e at first))

-- a text that begins with a zero and has no leading zero is `0` alone
length_one-from_leading_zero : (text : List ℕ) → HasNoLeadingZero text → get_or text 0 0 ≡ 48 → length text ≡ 1
length_one-from_leading_zero [] first begins = absurd (omega (arith, begins))
length_one-from_leading_zero (digit ∷ after) first begins = let e : after ≡ [] = first after (ap (λ d. d ∷ after) begins) in rw e refl

pub numbers_are_printed_in_one_way : NumbersArePrintedInOneWay
numbers_are_printed_in_one_way n text small w first =
    let value = w.value in
    let bounded : number_of_digits text < 2 ^ 64 = omega arith in
    let printed : decimal (number_of_digits text) ≡ text = decimal-digits_value numerals text w.digits w.not_empty (length_one-from_leading_zero text first) bounded in
    cc
