use Rattle.std.proofs.Common.{◌≡◌, ◌+◌, ◌≤◌, map, drop, eqb, not, IsTrue}
use Rattle.math_values.specs.Products.{total, products}
use Rattle.math_values.proofs.BlockValues.{AreCounted}
use Rattle.math_values.proofs.products.products.Given as goal

-- each sum and the products that are left behind it are all products, and those of the upper half and what follows;
-- and how many of the words so far are P or more
abbrev pub invariant-loop-i : goal.invariant-loop-i
invariant-loop-i g l =
    record {
      lower : l.lower.carries ≤ l.i;
      upper : l.upper.carries ≤ l.i;
      lower_sum : total l.lower + products (drop l.i (map g.W.Word.word l.words)) (drop l.i l.weights) ≡ products (map g.W.Word.word l.words) l.weights;
      upper_sum : total l.upper + products (drop (l.half + l.i) (map g.W.Word.word l.words)) (drop (l.half + l.i) l.weights)
          ≡ products (drop l.half (map g.W.Word.word l.words)) (drop l.half l.weights);
      lower_few : l.lower_above ≤ l.i;
      upper_few : l.upper_above ≤ l.i;
      lower_counted : IsTrue (not (eqb g.row.COUNTED 0)) → AreCounted g.W.Word.word l.words l.i l.lower_above;
      upper_counted : IsTrue (not (eqb g.row.COUNTED 0)) → AreCounted g.W.Word.word (drop l.half l.words) l.i l.upper_above;
    }
