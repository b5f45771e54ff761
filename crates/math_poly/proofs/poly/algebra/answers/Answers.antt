use Rattle.std.proofs.Common.{rules, refl, ◌∙◌, Ok}
use Rattle.std.specs.Fn.{FnReturnsAt}
use Rattle.math_poly.proofs.PlaceByPlace.{AllZip-next}
use Rattle.math_poly.proofs.poly.algebra.answers.Goals as goal

pub loop-item-preserved : goal.loop-item-preserved
loop-item-preserved g c = record {
  count = search rules;
  room = c.push_reserved.ensures.capacity ∙ c.loop-item.invariant.room;
  each = rw c.push_reserved.ensures.items
      (AllZip-next (λ a b. FnReturnsAt g.F.Fn c.args.f a (Ok b)) _ _ _ c.item-item.result _ (search rules) (search rules) c.loop-item.invariant.each
      record { shown = _; shows = refl; says = record { met = c.in_ok-f.ensures } });
}
