use Rattle.std.proofs.Common.{arith, inr, sym, subst}
use Rattle.std.proofs.lemmas.Result.{err_from_is_err_and}
use Rattle.c_calls.specs.SystematicRows.{AreRowsOf}
use Rattle.c_calls.proofs.SystematicRows.{not-of-sizes}
use Rattle.c_calls.proofs.systematic.write_rows.Goals as goal

pub returns-in_err-rebuild-clause-due : goal.returns-in_err-rebuild-clause-due
returns-in_err-rebuild-clause-due c =
    let q = err_from_is_err_and c.from_residual-in_err-rebuild.result c.from_residual-in_err-rebuild.ensures.1 in
    let lie : AreRowsOf c.args.held.now c.deref.result.now = subst (AreRowsOf c.args.held.now) (sym c.deref.ensures.value) c.in_ok-rows.ensures in
    rw (q.1, q.2) (inr (c.deref.result.now, lie, c.in_err-rebuild.ensures.due))

pub returns-in_err-rebuild-clause-others : goal.returns-in_err-rebuild-clause-others
returns-in_err-rebuild-clause-others c = grind (arith, err_from_is_err_and, not-of-sizes)

pub returns-clause-ok : goal.returns-clause-ok
returns-clause-ok c =
    let found = c.in_ok-rebuild.ensures in
    let lie : AreRowsOf c.args.held.now c.deref.result.now = subst (AreRowsOf c.args.held.now) (sym c.deref.ensures.value) c.in_ok-rows.ensures in (
      c.deref.result.now,
      lie,
      record {
        taken = record { asked = found.asked; elements = found.elements; enough = found.enough };
        codeword = found.ok.0;
        of_split = found.ok.1;
        belong = found.ok.2;
        written = found.ok.3;
      },
    )
