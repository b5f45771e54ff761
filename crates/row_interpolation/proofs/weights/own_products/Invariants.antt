use Rattle.row_interpolation.specs.Weights.{AreOwnProducts}
use Rattle.row_interpolation.proofs.weights.own_products.Given as goal

-- the products so far
abbrev pub invariant-loop-i : goal.invariant-loop-i
invariant-loop-i l = AreOwnProducts l.points l.i l.out.items
