use Rattle.std.proofs.Common.{◌∙◌, inl, inr, [], sym, arith}
use Rattle.std.proofs.lemmas.Bool.{false≢true}
use Rattle.std.proofs.lemmas.Result.{err_from_is_err_and}
use Rattle.systematic_shards.proofs.Held.{enough-kept}
use Rattle.systematic_shards.proofs.Refused.{no-codeword}
use Rattle.systematic_shards.proofs.rebuilding.verify.Goals as goal

pub returns-in_err-check_rows-clause-due : goal.returns-in_err-check_rows-clause-due
returns-in_err-check_rows-clause-due g c =
    let q = err_from_is_err_and c.from_residual.result c.from_residual.ensures.1 in
    let others = c.in_err-check_rows.ensures.others in
    rw (q.1, q.2) (others.0, others.1, c.in_err-check_rows.ensures.err c.args.code.mask [])

pub returns-in_default-clause-yes : goal.returns-in_default-clause-yes
returns-in_default-clause-yes g c = λ _.
    let H = c.in_default.ensures.ok in
    (enough-kept g.M.WordMemory.word c.args.code.split.width c.args.rows.now c.in_default.field-0.rows.items H.kept c.args.code.split.min H.indexed.enough, H.codeword)

pub returns-then-is_of_no_codeword-clause-elements : goal.returns-then-is_of_no_codeword-clause-elements
returns-then-is_of_no_codeword-clause-elements g c =
    (no-codeword g.M.WordMemory.BYTES g.M.WordMemory.word c.args.code.split c.args.code.mask c.args.rows.now c.in-Err.e (c.is_of_no_codeword.ensures.0 c.if-is_of_no_codeword.true)
    (c.in-Err.ensures.err [] (c.in_ok-check_rows.ensures.some, c.in_ok-check_rows.ensures.ok, λ k d l. absurd (omega (arith, l))))).0

pub returns-then-is_of_no_codeword-clause-no : goal.returns-then-is_of_no_codeword-clause-no
returns-then-is_of_no_codeword-clause-no g c = λ _.
    (no-codeword g.M.WordMemory.BYTES g.M.WordMemory.word c.args.code.split c.args.code.mask c.args.rows.now c.in-Err.e (c.is_of_no_codeword.ensures.0 c.if-is_of_no_codeword.true)
    (c.in-Err.ensures.err [] (c.in_ok-check_rows.ensures.some, c.in_ok-check_rows.ensures.ok, λ k d l. absurd (omega (arith, l))))).1

pub returns-clause-due : goal.returns-clause-due
returns-clause-due g c = (
  λ e. false≢true (sym c.if-is_of_no_codeword.false ∙ c.is_of_no_codeword.ensures.1 (inl e)),
  λ e. false≢true (sym c.if-is_of_no_codeword.false ∙ c.is_of_no_codeword.ensures.1 (inr e)),
  c.in-Err.ensures.err [] (c.in_ok-check_rows.ensures.some, c.in_ok-check_rows.ensures.ok, λ k d l. absurd (omega (arith, l))),
)
