use Rattle.std.proofs.Common.{rules, ◌^◌, ◌<◌, arith}
use Rattle.math_theory.proofs.polynomials.BuiltPolynomials.{value-zeros_after}
use Rattle.math_theory.proofs.domains.BuiltVanishing.{VanishesAt-respects}
use Rattle.math_transforms.proofs.MissingPlaces.{every-whole, count_both}
use Rattle.math_transforms.proofs.PowersOfTwo.{power_of_two-word}
use Rattle.math_transforms.proofs.TreeCounts.{merges-room, points-room}
use Rattle.math_transforms.proofs.vanishing.vanishing_coefficients.Goals as goal

pub tree-requires-clause-room : goal.tree-requires-clause-room
tree-requires-clause-room g c = omega (arith, merges-room c.args.lg c.requires.domain.1)

pub tree-requires-clause-product_room : goal.tree-requires-clause-product_room
tree-requires-clause-product_room g c = omega (arith, points-room c.args.lg c.requires.domain.1)

pub tree-requires-clause-spaced : goal.tree-requires-clause-spaced
tree-requires-clause-spaced g c = record { start = omega arith; covers = omega (arith, c.requires.points); fits = omega (arith, c.requires.points, power_of_two-word c.args.lg c.requires.domain.1) }

pub tree-requires-clause-trees : goal.tree-requires-clause-trees
tree-requires-clause-trees g c = record { domain = c.requires.domain.0; small = c.requires.domain.1; evaluation = c.requires.evaluation; interpolation = c.requires.interpolation }

pub unreachable-requires : goal.unreachable-requires
unreachable-requires g c = grind (arith, every-whole)

pub returns-in_ok-one-in-Nowhere-clause-vanishes : goal.returns-in_ok-one-in-Nowhere-clause-vanishes
returns-in_ok-one-in-Nowhere-clause-vanishes g c = grind (arith, every-whole, VanishesAt-respects)

pub returns-in_ok-all-in-Somewhere-clause-vanishes : goal.returns-in_ok-all-in-Somewhere-clause-vanishes
returns-in_ok-all-in-Somewhere-clause-vanishes g c = grind (arith, every-whole, VanishesAt-respects, value-zeros_after)

pub returns-in_ok-one-in-Nowhere-clause-exact : goal.returns-in_ok-one-in-Nowhere-clause-exact
returns-in_ok-one-in-Nowhere-clause-exact g c = grind (arith, every-whole, count_both)

pub returns-in_ok-all-in-Somewhere-clause-exact : goal.returns-in_ok-all-in-Somewhere-clause-exact
returns-in_ok-all-in-Somewhere-clause-exact g c = grind (arith, every-whole, count_both)

pub returns-in_err-piece-clause-no_more : goal.returns-in_err-piece-clause-no_more
returns-in_err-piece-clause-no_more g c = λ small. (rw (every-whole c.args.points.now (2 ^ c.args.lg) c.requires.points) at c.in_err-piece.ensures.no_more) (search rules)

pub returns-in_err-one-in-Nowhere-clause-no_more : goal.returns-in_err-one-in-Nowhere-clause-no_more
returns-in_err-one-in-Nowhere-clause-no_more g c = λ small. (rw (every-whole c.args.points.now (2 ^ c.args.lg) c.requires.points) at c.in_ok-piece.ensures.no_more) (search rules)

pub returns-in_ok-one-in-Nowhere-clause-no_more : goal.returns-in_ok-one-in-Nowhere-clause-no_more
returns-in_ok-one-in-Nowhere-clause-no_more g c = λ small. (rw (every-whole c.args.points.now (2 ^ c.args.lg) c.requires.points) at c.in_ok-piece.ensures.no_more) (search rules)

pub returns-in_err-all-in-Somewhere-clause-no_more : goal.returns-in_err-all-in-Somewhere-clause-no_more
returns-in_err-all-in-Somewhere-clause-no_more g c = λ small. (rw (every-whole c.args.points.now (2 ^ c.args.lg) c.requires.points) at c.in_ok-piece.ensures.no_more) (search rules)

pub returns-in_ok-all-in-Somewhere-clause-no_more : goal.returns-in_ok-all-in-Somewhere-clause-no_more
returns-in_ok-all-in-Somewhere-clause-no_more g c = λ small. (rw (every-whole c.args.points.now (2 ^ c.args.lg) c.requires.points) at c.in_ok-piece.ensures.no_more) (search rules)
