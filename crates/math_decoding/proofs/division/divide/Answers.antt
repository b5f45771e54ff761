use Rattle.std.proofs.Common.{◌≡◌, ◌-◌, ◌∙◌, get_or, arith}
use Rattle.std.proofs.lemmas.List.{get_or_default}
use Rattle.math_theory.proofs.polynomials.CarriedDivision.{division_only-same}
use Rattle.math_decoding.proofs.DivisionSteps.{some-before_zeros, degree-before_zeros, divided-ended}
use Rattle.math_decoding.proofs.division.divide.Goals as goal

pub overflow_sub-n : goal.overflow_sub-n
overflow_sub-n g c =
    let F = g.met.F in
    some-before_zeros F.Object.equality F.Additive.group F.Multiplicative.commutes F.Ring.ring c.args.d.now c.in_ok-count.count c.requires c.in_ok-count.ensures.zeros

pub divide_down-requires-clause-degree : goal.divide_down-requires-clause-degree
divide_down-requires-clause-degree g c =
    let F = g.met.F in
    degree-before_zeros F.Object.equality F.Additive.group F.Multiplicative.commutes F.Ring.ring c.args.d.now c.in_ok-count.count
    (some-before_zeros F.Object.equality F.Additive.group F.Multiplicative.commutes F.Ring.ring c.args.d.now c.in_ok-count.count c.requires c.in_ok-count.ensures.zeros)
    c.in_ok-count.ensures.zeros c.in_ok-count.ensures.last

pub divide_down-requires-clause-inverse : goal.divide_down-requires-clause-inverse
divide_down-requires-clause-inverse g c =
    let F = g.met.F in
    let zero = g.F.Additive.zero in
    let count = c.in_ok-count.count in
    let some = some-before_zeros F.Object.equality F.Additive.group F.Multiplicative.commutes F.Ring.ring c.args.d.now count c.requires c.in_ok-count.ensures.zeros in
    let leading : c.index-d-n.result ≡ get_or c.args.d.now (count - 1) zero =
    c.index-d-n.is ∙ get_or_default c.args.d.now (count - 1) c.index-d-n.result zero (omega (arith, some, c.in_ok-count.ensures.within)) in
    rw (← leading) (F.Object.equality.transitive _ _ _
    (F.Multiplicative.commutes.respects _ _ _ _ (F.Object.equality.reflexive c.index-d-n.result) c.in_ok-inverse.ensures.ok)
    (F.Field.field.inverts c.index-d-n.result (rw leading (c.in_ok-count.ensures.last some))))

pub returns : goal.returns
returns g c =
    let F = g.met.F in
    let n = c.in_ok-count.count - 1 in
    let some = some-before_zeros F.Object.equality F.Additive.group F.Multiplicative.commutes F.Ring.ring c.args.d.now c.in_ok-count.count c.requires c.in_ok-count.ensures.zeros in
    let degree = degree-before_zeros F.Object.equality F.Additive.group F.Multiplicative.commutes F.Ring.ring c.args.d.now c.in_ok-count.count some
    c.in_ok-count.ensures.zeros c.in_ok-count.ensures.last in
    let division = divided-ended F.Object.equality F.Additive.group F.Multiplicative.commutes F.Ring.ring n c.args.p.now c.in_ok-left.left.items c.args.d.now
    c.in_ok-quotient.quotient.items c.divide_down.new.left.items c.in_ok-left.ensures.same c.in_ok-quotient.ensures.remainder c.in_ok-quotient.ensures.divided in (
      n,
      record {
        degree = degree;
        quotient = omega (arith, c.in_ok-quotient.ensures.quotient, c.in_ok-left.ensures.length);
        remainder = c.in_ok-quotient.ensures.remainder;
        division = division;
        only = λ q r h. division_only-same F.Object.equality F.Additive.group F.Multiplicative.commutes F.Ring.ring F.Field.field n c.args.p.now c.args.d.now
            c.in_ok-quotient.quotient.items c.divide_down.new.left.items q r degree division h;
      },
    )
