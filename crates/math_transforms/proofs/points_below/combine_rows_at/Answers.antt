use Rattle.std.proofs.Common.{arith, ◌∙◌}
use Rattle.std.proofs.lemmas.List.{get_or_default}
use Rattle.math_transforms.proofs.points_below.combine_rows_at.Goals as goal

pub returns-clause-combined : goal.returns-clause-combined
returns-clause-combined g c = grind (arith, get_or_default)
