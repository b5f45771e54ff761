use Rattle.std.proofs.Common.{◌+◌, ◌-◌, ◌/◌, ◌<◌, ◌^◌, sym, ◌∙◌, arith}
use Rattle.math_transforms.proofs.PowersOfTwo.{power_of_two-double}
use Rattle.math_transforms.proofs.ReversedRows.{next-with_zero, next-with_one}
use Rattle.math_transforms.proofs.transform.order.+next_reversed.Goals as goal

pub next_reversed-requires : goal.next_reversed-requires
next_reversed-requires t c = grind (arith, power_of_two-double)

pub returns-then-j-half-clause-below : goal.returns-then-j-half-clause-below
returns-then-j-half-clause-below t c = omega (arith, power_of_two-double c.args.lg (omega arith), c.size_of-half.ensures, c.if-j-half.true)

pub returns-then-j-half-clause-next : goal.returns-then-j-half-clause-next
returns-then-j-half-clause-next t c = λ i l e. omega (arith, e, c.size_of-half.ensures, next-with_zero c.args.lg i (omega arith) (omega (arith, e, c.size_of-half.ensures, c.if-j-half.true)))

pub returns-else-j-half-clause-next : goal.returns-else-j-half-clause-next
returns-else-j-half-clause-next t c = λ i l e.
    let half = i / 2 in
    let these = next-with_one c.args.lg i (omega arith) (omega (arith, e, c.size_of-half.ensures, c.if-j-half.false)) in
    let few : half + 1 < 2 ^ (c.args.lg - 1) = omega (arith, l, these.0, power_of_two-double c.args.lg (omega arith)) in
    c.next_reversed.ensures.next half few (omega (arith, e, these.1, c.size_of-half.ensures)) ∙ sym these.2
