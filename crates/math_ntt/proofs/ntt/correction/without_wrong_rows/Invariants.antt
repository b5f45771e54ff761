use Rattle.std.proofs.Common.{◌≡◌, ◌+◌, ◌-◌}
use Rattle.math_theory.specs.Recovery.{count_true}
use Rattle.math_base.specs.Members.{RingOf}
use Rattle.math_base.proofs.Members.{ring_members}
use Rattle.math_ntt.specs.AddedWork.{AddsRecoveries}
use Rattle.math_ntt.specs.Evaluations.{EvaluationsOf, evaluations_of}
use Rattle.math_ntt.specs.RecoveredRows.{AddsRecovery, IsExactWork}
use Rattle.math_ntt.proofs.CorrectionStates.{IsState}
use Rattle.math_ntt.proofs.ntt.correction.without_wrong_rows.Given as goal

-- the rows that are not left are wrong for every answer, and the polynomials are what is recovered from those that are left
abbrev pub invariant-loop-polynomials : goal.invariant-loop-polynomials
invariant-loop-polynomials g l =
    let R : RingOf g.row.F.Denot = ring_members g.F.Multiplicative.product g.F.Debug.debug_output g.F.Object.same g.F.Object.NEVER_REFUSES g.F.Additive.zero g.F.Additive.sum g.F.Additive.negative g.F.Ring.one in
    let e : EvaluationsOf g.row.F.Denot = evaluations_of l.matrix l.fn.filled in
    record {
      state : IsState R g.F.FieldNTT.root l.lg e l.count l.left l.polynomials;
      work : AddsRecoveries (1 + (count_true e.filled - count_true l.left)) l.lg e.matrix.cols l.fn.work l.work;
      exact : count_true l.left ≡ count_true e.filled → IsExactWork l.lg e l.fn.work l.work;
      least : AddsRecovery l.lg e l.fn.work l.work;
    }

abbrev pub decreases-loop-polynomials : goal.decreases-loop-polynomials
decreases-loop-polynomials g l = count_true l.left
