use Rattle.std.proofs.Common.{◌≡◌, ◌∙◌, ◌+◌, ◌-◌, ◌++◌, arith}
use Rattle.std.proofs.lemmas.List.{drop-drop}
use Rattle.math_splitting.proofs.shards.destinations.write_word.Goals as goal

pub returns : goal.returns
returns c = grind (arith, drop-drop)
