use Rattle.std.proofs.Common.{◌≤◌, ◌∙◌, arith}
use Rattle.std.proofs.lemmas.List.{take_all, get_or-take}
use Rattle.c_calls.proofs.WordElements.{numbers_more}
use Rattle.c_calls.proofs.elements.write_numbers.Goals as goal

pub loop-i-preserved : goal.loop-i-preserved
loop-i-preserved c = grind (arith, numbers_more, get_or-take)

pub returns : goal.returns
returns c = grind (arith, take_all)
