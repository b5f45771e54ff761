use Rattle.std.proofs.Common.{◌≡◌, ◌+◌, ◌*◌, ◌≤◌, map, drop}
use Rattle.math_fields.specs.Elements.{number}
use Rattle.math_values.specs.Products.{total, products}
use Rattle.math_values.proofs.products.paired_products.Given as goal

-- both sums and the products that are left are all products
abbrev pub invariant-loop-pair : goal.invariant-loop-pair
invariant-loop-pair l = record {
  even : l.even.carries ≤ l.pair;
  odd : l.odd.carries ≤ l.pair;
  sums : total l.even + total l.odd + products (drop (2 * l.pair) (map number l.elements)) (drop (2 * l.pair) l.weights) ≡ products (map number l.elements) l.weights;
}
