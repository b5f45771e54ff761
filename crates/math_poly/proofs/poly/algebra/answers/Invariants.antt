use Rattle.std.proofs.Common.{◌≡◌, length, take, vec_capacity, Ok}
use Rattle.std.specs.Fn.{FnReturnsAt}
use Rattle.std.specs.List.{AllZip}
use Rattle.math_poly.proofs.poly.algebra.answers.Given as goal

-- the answers at the items so far, and the room for all
abbrev pub invariant-loop-item : goal.invariant-loop-item
invariant-loop-item g l = record {
  count : length l.out.items ≡ l.item-index;
  room : vec_capacity l.out ≡ length l.items;
  each : AllZip (λ c d. FnReturnsAt g.F.Fn l.f c (Ok d)) (take l.item-index l.items) l.out.items;
}
