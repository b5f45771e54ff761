use Rattle.math_codec.proofs.Spellings.{length_spelled, only_spelling, length_below}
use Rattle.math_codec.proofs.laws.each_length_has_one_spelling.Goals as goal

pub returns-clause-spelled : goal.returns-clause-spelled
returns-clause-spelled c = length_spelled

pub returns-clause-only : goal.returns-clause-only
returns-clause-only c = only_spelling

pub returns-clause-below : goal.returns-clause-below
returns-clause-below c = length_below
