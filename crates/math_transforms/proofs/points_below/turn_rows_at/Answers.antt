use Rattle.std.proofs.Common.{◌∙◌, ◌+◌, ◌*◌, arith}
use Rattle.std.proofs.lemmas.List.{get_or_default}
use Rattle.math_transforms.proofs.points_below.turn_rows_at.Goals as goal

pub turn_rows-requires-clause-order : goal.turn_rows-requires-clause-order
turn_rows-requires-clause-order g c = omega (arith, c.requires.two, c.requires.points.domain)

pub turn_rows-requires-clause-odd : goal.turn_rows-requires-clause-odd
turn_rows-requires-clause-odd g c = grind (arith, get_or_default)

pub returns-clause-turned : goal.returns-clause-turned
returns-clause-turned g c = grind (arith, get_or_default)
