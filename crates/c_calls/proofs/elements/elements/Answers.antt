use Rattle.std.proofs.Common.{◌≡◌, ◌≤◌, ◌∙◌, ◌++◌, [], ◌∷◌, arith}
use Rattle.std.proofs.lemmas.List.{length_push, take_all}
use Rattle.c_calls.proofs.WordElements.{elements_more}
use Rattle.c_calls.proofs.elements.elements.Goals as goal

pub loop-word-preserved : goal.loop-word-preserved
loop-word-preserved c = grind (arith, length_push, elements_more)

pub returns : goal.returns
returns c = grind (arith, take_all)
