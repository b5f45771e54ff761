-- The digits and the number of the specs, beside those of the library.
use Rattle.std.proofs.Common.{All, rules}
use Rattle.std.specs.Char.{IsAsciiDigit}
use Rattle.std.proofs.lemmas.List.Elements.{All-nil, All-cons, All-head, All-tail}
use Rattle.std.proofs.lemmas.Str.Parse.{IsNumeralModel, IsDigitsTest, WeighsDigits, numerals_by_weight}
use Rattle.goldmath_commands.specs.Numerals.{number_of_digits}

-- the texts whose bytes are each a digit are the texts of digits
tells_digits : IsDigitsTest (All IsAsciiDigit)
tells_digits = record {
  empty = All-nil IsAsciiDigit;
  parts = λ c cs all. (All-head IsAsciiDigit c cs all, All-tail IsAsciiDigit c cs all);
  more = λ c cs digit all. All-cons IsAsciiDigit c cs digit all;
}

-- the number gives each digit the weight of its place
weighs_digits : WeighsDigits number_of_digits
weighs_digits = search rules

-- the digits and the number of the specs are those that `parse` reads
pub numerals : IsNumeralModel (All IsAsciiDigit) number_of_digits
numerals = numerals_by_weight _ tells_digits number_of_digits weighs_digits
