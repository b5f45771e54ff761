use Rattle.std.proofs.Common.{inr, [], sym, subst, arith}
use Rattle.std.proofs.lemmas.Result.{err_from_is_err_and}
use Rattle.c_calls.specs.SystematicRows.{AreRowsOf}
use Rattle.c_calls.proofs.SystematicRows.{not-of-sizes}
use Rattle.c_calls.proofs.systematic.belong.Goals as goal

pub returns-in_err-verify-clause-due : goal.returns-in_err-verify-clause-due
returns-in_err-verify-clause-due c =
    let q = err_from_is_err_and c.from_residual-in_err-verify.result c.from_residual-in_err-verify.ensures.1 in
    let lie : AreRowsOf c.args.held.now c.deref.result.now = subst (AreRowsOf c.args.held.now) (sym c.deref.ensures.value) c.in_ok-rows.ensures in
    rw (q.1, q.2) (inr (c.deref.result.now, lie, (c.in_err-verify.ensures.due).2))

pub returns-in_err-verify-clause-others : goal.returns-in_err-verify-clause-others
returns-in_err-verify-clause-others c = grind (arith, err_from_is_err_and, not-of-sizes)

pub returns-then-branch-clause-ok : goal.returns-then-branch-clause-ok
returns-then-branch-clause-ok c =
    let found = c.in_ok-verify.ensures in
    let lie : AreRowsOf c.args.held.now c.deref.result.now = subst (AreRowsOf c.args.held.now) (sym c.deref.ensures.value) c.in_ok-rows.ensures in (
      c.deref.result.now,
      lie,
      record {
        asked = found.asked;
        elements = found.elements;
        bit = omega arith;
        yes = λ _. found.yes c.if-branch.true;
        no = λ e. absurd (omega (arith, e));
      },
    )

pub returns-clause-ok : goal.returns-clause-ok
returns-clause-ok c =
    let found = c.in_ok-verify.ensures in
    let lie : AreRowsOf c.args.held.now c.deref.result.now = subst (AreRowsOf c.args.held.now) (sym c.deref.ensures.value) c.in_ok-rows.ensures in (
      c.deref.result.now,
      lie,
      record {
        asked = found.asked;
        elements = found.elements;
        bit = omega arith;
        yes = λ e. absurd (omega (arith, e));
        no = λ _. found.no c.if-branch.false;
      },
    )
