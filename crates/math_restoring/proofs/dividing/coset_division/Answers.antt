use Rattle.std.proofs.Common.{◌≡◌, ◌∙◌, ◌++◌, ◌^◌, length, take, drop, ap, arith}
use Rattle.math_fields.specs.Elements.{inverse, shift_of}
use Rattle.math_fields.proofs.ElementNumbers.{same_number}
use Rattle.math_base.proofs.WholeWrites.{take-written}
use Rattle.math_restoring.specs.CosetDivisions.{AreDividedInverses, AreFactors}
use Rattle.math_values.proofs.ElementRing.{same_are_equal}
use Rattle.math_restoring.proofs.dividing.coset_division.Goals as goal

pub divided_inverses-requires-clause-vanishes : goal.divided_inverses-requires-clause-vanishes
divided_inverses-requires-clause-vanishes c =
    let copied : c.deref_mut.result.now ≡ c.in_ok-factors.factors.items =
    c.deref_mut.ensures.value ∙ same_are_equal c.in_ok-divisors.divisors.items c.deref-3.result.now c.in_ok-divisors.ensures ∙ c.deref-3.ensures.value in
    rw copied c.in_ok-factors.ensures.vanishes

pub divided_inverses-requires-clause-step : goal.divided_inverses-requires-clause-step
divided_inverses-requires-clause-step c = rw (same_number c.in_ok-shift.shift shift_of c.in_ok-shift.ensures.ok) at c.square_times-step.ensures

pub divided_inverses-requires-clause-tree : goal.divided_inverses-requires-clause-tree
divided_inverses-requires-clause-tree c = rw c.deref-4.ensures.value (rw (same_number c.in_ok-shift.shift shift_of c.in_ok-shift.ensures.ok) at c.in_ok-coset.ensures)

pub returns-clause-division : goal.returns-clause-division
returns-clause-division c =
    let v = c.in_ok-factors.factors.items in
    let count : length v ≡ 2 ^ c.args.lg = omega (arith, c.in_ok-factors.factors.ok.0, c.in_ok-factors.ensures.length) in
    let shift : c.in_ok-shift.shift ≡ shift_of = same_number c.in_ok-shift.shift shift_of c.in_ok-shift.ensures.ok in
    let home : c.in_ok-home.home ≡ inverse c.in_ok-shift.shift = same_number c.in_ok-home.home (inverse c.in_ok-shift.shift) c.in_ok-home.ensures.ok in
    let copied : c.deref_mut.result.now ≡ v =
    c.deref_mut.ensures.value ∙ same_are_equal c.in_ok-divisors.divisors.items c.deref-3.result.now c.in_ok-divisors.ensures ∙ c.deref-3.ensures.value in
    let new = c.write_factors.new.cells in
    let p = c.in_ok-factors.factors in
    let long : length new ≡ 2 ^ c.args.lg = c.write_factors.auto.cells ∙ ap length c.deref_mut-2.ensures.value ∙ count in
    let written : take p.len (new ++ drop (length new) p.items) ≡ new = take-written p.len p.items new p.ok.0 (c.write_factors.auto.cells ∙ ap length c.deref_mut-2.ensures.value) in
    let factors : AreFactors c.args.lg c.args.part c.square_times-step.result v new = rw c.deref_mut-2.ensures.value at c.in_ok-write_factors.ensures in
    let inverses : AreDividedInverses c.args.part v c.in_ok-inverses.inverses.items = rw copied at c.in_ok-inverses.ensures.inverses in
    record {
      tables = record {
        domain = c.requires.domain;
        least = c.requires.least;
        part = c.requires.part;
        points = c.requires.points;
        some = c.requires.some;
        few = c.requires.few;
        step = rw shift at c.square_times-step.ensures;
        factor_count = rw written long;
        domain_inverses = c.in_ok-domain.ensures;
        coset_tree = rw shift at c.in_ok-coset.ensures;
        coset_inverses = rw (home, shift) at c.in_ok-coset_inverses.ensures;
        inverse_count = c.in_ok-inverses.ensures.count;
      };
      v = v;
      size = count;
      vanishes = c.in_ok-factors.ensures.vanishes;
      factors = rw written factors;
      inverses = inverses;
    }
