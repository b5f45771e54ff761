use Rattle.std.proofs.Common.{◌∙◌}
use Rattle.std.proofs.lemmas.Result.{err_from_is_err_and}
use Rattle.goldmath_commands.proofs.EncodedPolynomials.{encoded-grows, eval_line-same}
use Rattle.goldmath_commands.proofs.engine.evaluate_polynomial.Goals as goal

pub returns-in_err-polynomial-clause-encoded : goal.returns-in_err-polynomial-clause-encoded
returns-in_err-polynomial-clause-encoded c = λ p h.
    let q = err_from_is_err_and c.from_residual.result c.from_residual.ensures.1 in
    rw (q.1, q.2) (c.in_err-polynomial.ensures.encoded p h)

pub returns-in_err-value_line-clause-memory : goal.returns-in_err-value_line-clause-memory
returns-in_err-value_line-clause-memory c =
    let q = err_from_is_err_and c.from_residual-in_err-value_line.result c.from_residual-in_err-value_line.ensures.1 in
    rw (q.1, q.2) (encoded-grows c.args.bytes.now _ c.in_ok-polynomial.ensures.taken)

pub returns-clause-encoded : goal.returns-clause-encoded
returns-clause-encoded c = λ p h. c.in_ok-value_line.ensures ∙ eval_line-same _ p c.args.point (c.in_ok-polynomial.ensures.encoded p h)
