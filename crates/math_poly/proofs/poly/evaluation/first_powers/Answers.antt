use Rattle.std.proofs.Common.{◌≡◌, ◌∙◌, ◌++◌, [], ◌∷◌, Some, Ok, length, ap}
use Rattle.std.proofs.lemmas.List.{map-append}
use Rattle.math_poly.proofs.GeometricItems.{gives_power, taken_items, taken_count}
use Rattle.math_poly.proofs.poly.evaluation.first_powers.Goals as goal

pub loop-power-preserved : goal.loop-power-preserved
loop-power-preserved g c =
    let given = c.loop-power.invariant.given in
    let x = c.in_ok-power.field-0 in
    let pushed : c.push.new.self.items ≡ c.loop-power.out.items ++ (x ∷ []) = c.in_ok-push.ensures.items in
    let item : c.in-Some.power ≡ Ok x = c.in_ok-power.was in
    let source : c.into_iter-power-iterator.result.iter ≡ c.powers.result = ap (λ t. t.iter) c.into_iter-power-iterator.ensures.into_iter_gives ∙ c.take-power-items.ensures.source in
    record {
      given = rw (pushed, item, map-append) (ap (λ l. l ++ (Ok x ∷ [])) given);
      powers = rw pushed
          (taken_items _ g.R.Object.same g.R.Multiplicative.product g.R.Ring.one c.args.shift c.args.base.now (gives_power g.R.Object.same g.R.Multiplicative.product) c.powers.result c.powers.ensures
          c.into_iter-power-iterator.result c.loop-power.power-iterator c.next.new.self c.loop-power.yielded c.loop-power.out.items c.next.result x
          source c.loop-power.yielded_by given (c.in-Some.is ∙ ap Some item) c.next.ensures.steps);
    }

pub returns-clause-count : goal.returns-clause-count
returns-clause-count g c =
    let source : c.into_iter-power-iterator.result.iter ≡ c.powers.result = ap (λ t. t.iter) c.into_iter-power-iterator.ensures.into_iter_gives ∙ c.take-power-items.ensures.source in
    let count : c.into_iter-power-iterator.result.n ≡ c.args.n = ap (λ t. t.n) c.into_iter-power-iterator.ensures.into_iter_gives ∙ c.take-power-items.ensures.count in
    taken_count _ g.R.Object.same g.R.Multiplicative.product g.R.Ring.one c.args.shift c.args.base.now (gives_power g.R.Object.same g.R.Multiplicative.product) c.powers.result c.powers.ensures
    c.into_iter-power-iterator.result c.loop-power.power-iterator c.next.new.self c.loop-power.yielded c.loop-power.out.items c.next.result
    source c.loop-power.yielded_by c.loop-power.invariant.given c.in-None.is c.next.ensures.steps
    ∙ count

pub returns-clause-powers : goal.returns-clause-powers
returns-clause-powers g c = let count : length c.loop-power.out.items ≡ c.args.n = returns-clause-count g c in rw (← count) c.loop-power.invariant.powers
