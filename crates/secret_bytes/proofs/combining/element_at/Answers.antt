use Rattle.std.proofs.Common.{◌∙◌}
use Rattle.secret_bytes.specs.Columns.{column}
use Rattle.secret_bytes.proofs.combining.element_at.Goals as goal

pub returns-clause-found : goal.returns-clause-found
returns-clause-found c = c.secret_of.ensures.found c.args.t (column c.args.j c.args.shares.now) c.requires.weights (c.deref.ensures.value ∙ c.in_ok-values.ensures)

pub returns-clause-none : goal.returns-clause-none
returns-clause-none c = c.secret_of.ensures.none c.args.t (column c.args.j c.args.shares.now) c.requires.weights (c.deref.ensures.value ∙ c.in_ok-values.ensures)
