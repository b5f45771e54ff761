use Rattle.std.proofs.Common.{◌∙◌, ap, sym}
use Rattle.secret_bytes.specs.Texts.{going_on, text_lines}
use Rattle.secret_bytes.proofs.GatheredLines.{marked-first}
use Rattle.secret_bytes.proofs.PlainLines.{marked-plainly}
use Rattle.secret_bytes.proofs.text.next_going_on.Goals as goal

pub returns-then-has_mark-clause-none : goal.returns-then-has_mark-clause-none
returns-then-has_mark-clause-none c =
    let line = c.first_line.result.0.now in
    ap going_on c.first_line.ensures.first ∙ marked-first line (text_lines c.first_line.result.1.now) (marked-plainly line (sym c.has_mark.ensures ∙ c.if-has_mark.true))
