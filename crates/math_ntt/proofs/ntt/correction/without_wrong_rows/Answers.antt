use Rattle.std.proofs.Common.{◌≡◌, ◌∙◌, inl, inr, ◌+◌, ◌-◌, ◌<◌, ◌≤◌, length, sym, ap, arith}
use Rattle.math_theory.specs.Recovery.{count_true}
use Rattle.math_base.specs.Members.{RingOf}
use Rattle.math_base.proofs.Members.{ring_members}
use Rattle.math_transforms.proofs.PresentIndices.{length-places}
use Rattle.math_ntt.specs.AddedWork.{AddsRecoveries}
use Rattle.math_ntt.specs.Evaluations.{evaluations_of}
use Rattle.math_ntt.specs.NarrowedRows.{IsNarrowed}
use Rattle.math_ntt.proofs.CopiedRecoveries.{adds-once, adds-more, adds-few}
use Rattle.math_ntt.proofs.RecoveryOutcomes.{refused-none, recovery-then}
use Rattle.math_ntt.proofs.CorrectionStates.{IsLong, IsOnDomain, state-begun, state-most, state-within, state-none_near, state-none_few, state-unchanged, state-fewer, state-next, state-corrected}
use Rattle.math_ntt.proofs.CorrectionSteps.{with_rows}
use Rattle.math_ntt.proofs.NarrowedColumns.{rows-below}
use Rattle.math_ntt.proofs.AddedWork.{on-err}
use Rattle.math_ntt.proofs.ntt.correction.without_wrong_rows.Given as given
use Rattle.math_ntt.proofs.ntt.correction.without_wrong_rows.Goals as goal
use Rattle.math_ntt.proofs.ntt.correction.without_wrong_rows.Goals.{After-recovered_copy-in-Some, In-Some-2, Start}

abbrev ring : (g : given.Over) → RingOf g.row.F.Denot
ring g = ring_members g.F.Multiplicative.product g.F.Debug.debug_output g.F.Object.same g.F.Object.NEVER_REFUSES g.F.Additive.zero g.F.Additive.sum g.F.Additive.negative g.F.Ring.one

on_domain : (g : given.Over) (c : Start g) → IsOnDomain (ring g) g.F.Field.inverse g.F.FieldNTT.root c.args.lg (evaluations_of c.args.matrix.now c.args.filled)
on_domain g c = record {
  equality = g.met.F.Object.equality;
  group = g.met.F.Additive.group;
  product = g.met.F.Multiplicative.commutes;
  ring = g.met.F.Ring.ring;
  field = g.met.F.Field.field;
  order = g.met.F.FieldNTT.roots.order c.args.lg c.requires.lg.domain;
  full = c.requires.full;
  many = c.requires.rows;
  long = c.requires.marks;
}

-- a column is too long, and fewer rows are left for it
module _ (g : given.Over) (c : In-Some-2 g) where
  rows : length c.in_ok-rows.rows.items ≡ count_true c.args.filled
  rows = ap length c.in_ok-rows.ensures ∙ length-places c.args.filled

  long : IsLong (ring g) c.args.count c.loop-polynomials.polynomials c.in-Some.column
  long = rw c.in-Some.is at c.in_ok-column.ensures.some

  narrowed : IsNarrowed (ring g) (g.F.FieldNTT.root c.args.lg) (with_rows (evaluations_of c.args.matrix.now c.args.filled) c.loop-polynomials.left) c.in-Some.column c.args.count c.in-Some-2.less
  narrowed = rw c.in-Some-2.is at c.in_ok-less.ensures.some

  fewer : count_true c.in-Some-2.less < count_true c.loop-polynomials.left
  fewer = state-fewer _ (on_domain g (goal.at.In-Some-2 g c).Start) c.loop-polynomials.invariant.state long narrowed

module _ (g : given.Over) (c : After-recovered_copy-in-Some g) where
  few : count_true c.args.filled + c.args.count ≤ count_true c.in-Some-2.less + count_true c.in-Some-2.less
  few =
      let at = (goal.at.After-recovered_copy-in-Some g c).In-Some-2 in
      omega (arith, c.if-len-count_non_vanishing.false, rows g at, c.len.ensures, c.len-in-Some.ensures, c.count_non_vanishing.ensures, c.requires.count, state-within c.loop-polynomials.invariant.state, fewer g at)

  work : AddsRecoveries (1 + (count_true c.args.filled - count_true c.in-Some-2.less)) c.args.lg c.args.matrix.now.cols c.args.work.now c.recovered_copy-in-Some.new.work
  work =
      adds-more _ _ _ _ _ _ _ _ (fewer g (goal.at.After-recovered_copy-in-Some g c).In-Some-2) (state-within c.loop-polynomials.invariant.state) c.loop-polynomials.invariant.work
      c.recovered_copy-in-Some.ensures.most

pub overflow_sub-most : goal.overflow_sub-most
overflow_sub-most g c =
    let rows : length c.in_ok-rows.rows.items ≡ count_true c.args.filled = ap length c.in_ok-rows.ensures ∙ length-places c.args.filled in
    omega (arith, rows, c.len.ensures, c.requires.count)

pub loop-polynomials-init : goal.loop-polynomials-init
loop-polynomials-init g c = record {
  state = state-begun _ c.requires.count c.in_ok-polynomials.ensures.polynomials;
  work = adds-once _ _ (count_true c.args.filled) _ _ c.in_ok-polynomials.ensures.most;
  exact = λ same. c.in_ok-polynomials.ensures.exact c.requires.room;
  least = record { after = c.recovered_copy.new.work; first = c.in_ok-polynomials.ensures.exact c.requires.room; butterflies = omega arith; root_products = omega arith };
}

pub overflow_sub-len : goal.overflow_sub-len
overflow_sub-len g c =
    let at = (goal.at.overflow_sub-len g c).In-Some-2 in
    omega (arith, rows g at, c.len-in-Some.ensures, c.count_non_vanishing.ensures, state-within c.loop-polynomials.invariant.state, fewer g at)

pub loop-polynomials-smaller : goal.loop-polynomials-smaller
loop-polynomials-smaller g c = fewer g (goal.at.loop-polynomials-smaller g c).In-Some-2

pub loop-polynomials-preserved : goal.loop-polynomials-preserved
loop-polynomials-preserved g c =
    let at = (goal.at.loop-polynomials-preserved g c).After-recovered_copy-in-Some in
    let narrow = (goal.at.loop-polynomials-preserved g c).In-Some-2 in
    record {
      state = state-next _ (on_domain g (goal.at.loop-polynomials-preserved g c).Start) c.loop-polynomials.invariant.state (long g narrow).0 (narrowed g narrow) (few g at)
          c.in_ok-polynomials-2.ensures.polynomials;
      work = work g at;
      exact = λ same. absurd (omega (arith, same, fewer g narrow, state-within c.loop-polynomials.invariant.state));
      least = recovery-then _ _ _ _ _ _ _ c.loop-polynomials.invariant.least c.in_ok-polynomials-2.ensures.most;
    }

pub rows_dropped-requires : goal.rows_dropped-requires
rows_dropped-requires g c =
    rw c.deref.ensures.value (rows-below c.args.filled (length c.loop-polynomials.left) c.in_ok-rows.rows.items c.in_ok-rows.ensures (sym c.loop-polynomials.invariant.state.dropped.marks))

pub returns-in_err-column-clause-most : goal.returns-in_err-column-clause-most
returns-in_err-column-clause-most g c = state-most _ c.loop-polynomials.invariant.state c.loop-polynomials.invariant.work

pub returns-in_err-less-clause-most : goal.returns-in_err-less-clause-most
returns-in_err-less-clause-most g c = state-most _ c.loop-polynomials.invariant.state c.loop-polynomials.invariant.work

pub returns-in_default-2-clause-most : goal.returns-in_default-2-clause-most
returns-in_default-2-clause-most g c = state-most _ c.loop-polynomials.invariant.state c.loop-polynomials.invariant.work

pub returns-then-len-count_non_vanishing-clause-most : goal.returns-then-len-count_non_vanishing-clause-most
returns-then-len-count_non_vanishing-clause-most g c = state-most _ c.loop-polynomials.invariant.state c.loop-polynomials.invariant.work

pub returns-in_err-wrong-clause-most : goal.returns-in_err-wrong-clause-most
returns-in_err-wrong-clause-most g c = state-most _ c.loop-polynomials.invariant.state c.loop-polynomials.invariant.work

pub returns-clause-most : goal.returns-clause-most
returns-clause-most g c = state-most _ c.loop-polynomials.invariant.state c.loop-polynomials.invariant.work

pub returns-in_err-polynomials-2-clause-most : goal.returns-in_err-polynomials-2-clause-most
returns-in_err-polynomials-2-clause-most g c =
    let at = (goal.at.returns-in_err-polynomials-2-clause-most g c).After-recovered_copy-in-Some in
    let less = fewer g (goal.at.returns-in_err-polynomials-2-clause-most g c).In-Some-2 in
    adds-few _ _ _ _ _ _ _ (omega (arith, less, state-within c.loop-polynomials.invariant.state)) (few g at) (work g at)

pub returns-in_default-2-clause-none : goal.returns-in_default-2-clause-none
returns-in_default-2-clause-none g c =
    state-none_near c.in-Some.column c.loop-polynomials.invariant.state (rw c.in-Some.is at c.in_ok-column.ensures.some).0 (rw c.in_default-2.is at c.in_ok-less.ensures.none)

pub returns-then-len-count_non_vanishing-clause-none : goal.returns-then-len-count_non_vanishing-clause-none
returns-then-len-count_non_vanishing-clause-none g c =
    let at = (goal.at.returns-then-len-count_non_vanishing-clause-none g c).In-Some-2 in
    let few : count_true c.in-Some-2.less + count_true c.in-Some-2.less < count_true c.args.filled + c.args.count =
    omega (arith, c.if-len-count_non_vanishing.true, rows g at, c.len.ensures, c.len-in-Some.ensures, c.count_non_vanishing.ensures, c.requires.count, state-within c.loop-polynomials.invariant.state) in
    state-none_few _ (on_domain g (goal.at.returns-then-len-count_non_vanishing-clause-none g c).Start) c.loop-polynomials.invariant.state (long g at).0 (narrowed g at) few

pub returns-clause-found : goal.returns-clause-found
returns-clause-found g c =
    state-corrected c.in_ok-wrong.wrong.items (on_domain g (goal.at.returns-clause-found g c).Start) c.loop-polynomials.invariant.state
    (rw c.in_default.is at c.in_ok-column.ensures.none) (rw (c.deref.ensures.value, c.in_ok-rows.ensures) at c.in_ok-wrong.ensures)

pub returns-clause-exact : goal.returns-clause-exact
returns-clause-exact g c none =
    c.loop-polynomials.invariant.exact (state-unchanged c.in_ok-wrong.wrong.items c.loop-polynomials.invariant.state (rw (c.deref.ensures.value, c.in_ok-rows.ensures) at c.in_ok-wrong.ensures) (ap length none))

pub returns-in_err-rows-clause-refused : goal.returns-in_err-rows-clause-refused
returns-in_err-rows-clause-refused g c = on-err c.from_residual.result (inl (refused-none _ _ _))

pub returns-in_err-polynomials-clause-refused : goal.returns-in_err-polynomials-clause-refused
returns-in_err-polynomials-clause-refused g c = on-err c.from_residual-in_err-polynomials.result (inl (c.in_err-polynomials.ensures.refused c.requires.room))

pub returns-in_err-column-clause-refused : goal.returns-in_err-column-clause-refused
returns-in_err-column-clause-refused g c = on-err c.from_residual-in_err-column.result (inr c.loop-polynomials.invariant.least)

pub returns-in_err-less-clause-refused : goal.returns-in_err-less-clause-refused
returns-in_err-less-clause-refused g c = on-err c.from_residual-in_err-less.result (inr c.loop-polynomials.invariant.least)

pub returns-in_err-wrong-clause-refused : goal.returns-in_err-wrong-clause-refused
returns-in_err-wrong-clause-refused g c = on-err c.from_residual-in_err-wrong.result (inr c.loop-polynomials.invariant.least)

pub returns-in_err-polynomials-2-clause-refused : goal.returns-in_err-polynomials-2-clause-refused
returns-in_err-polynomials-2-clause-refused g c =
    on-err c.from_residual-in_err-polynomials-2.result (inr (recovery-then _ _ _ _ _ _ _ c.loop-polynomials.invariant.least c.in_err-polynomials-2.ensures.most))
