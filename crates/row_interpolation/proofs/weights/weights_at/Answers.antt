use Rattle.std.proofs.Common.{◌∙◌, length, ap}
use Rattle.row_interpolation.proofs.Differences.{weights-of_quotients}
use Rattle.row_interpolation.proofs.weights.weights_at.Goals as goal

pub returns : goal.returns
returns c = λ own away.
    weights-of_quotients c.args.x c.product_of_differences-numerator.result c.args.points.now c.args.own.now c.in_ok-divisors.divisors.items c.in_ok-out.out.items away own
    c.product_of_differences-numerator.ensures c.in_ok-divisors.ensures.count c.in_ok-divisors.ensures.each (c.in_ok-out.ensures.count ∙ ap length c.deref.ensures.value) (rw c.deref.ensures.value at c.in_ok-out.ensures.each)
