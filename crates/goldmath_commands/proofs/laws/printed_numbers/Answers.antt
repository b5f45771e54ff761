use Rattle.goldmath_commands.proofs.PrintedNumbers.{printed_numbers_read_back, printed_numbers_have_no_leading_zero, numbers_are_printed_in_one_way}
use Rattle.goldmath_commands.proofs.laws.printed_numbers.Goals as goal

pub returns : goal.returns
returns c = record {
  read_back = printed_numbers_read_back;
  no_leading_zero = printed_numbers_have_no_leading_zero;
  one_way = numbers_are_printed_in_one_way;
}
