use Rattle.std.proofs.Common.{arith}
use Rattle.math_transforms.proofs.points_below.quarters.turn_rows.Goals as goal

pub turn_columns_at_one-requires-clause-below : goal.turn_columns_at_one-requires-clause-below
turn_columns_at_one-requires-clause-below g c = g.met.F.Object.equality.transitive _ _ _ (c.in_ok-below.ensures.ok.0 c.if-below.true) c.in_ok-one.ensures.ok

pub turn_columns_at_one-requires-clause-here : goal.turn_columns_at_one-requires-clause-here
turn_columns_at_one-requires-clause-here g c = g.met.F.Object.equality.transitive _ _ _ (c.in_ok-here.ensures.ok.0 c.if-here.true) c.in_ok-one.ensures.ok

pub returns-then-cols-eq1-clause-turned : goal.returns-then-cols-eq1-clause-turned
returns-then-cols-eq1-clause-turned g c = grind arith
