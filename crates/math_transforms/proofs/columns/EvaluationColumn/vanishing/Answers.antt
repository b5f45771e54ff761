use Rattle.std.proofs.Common.{◌∙◌, sym}
use Rattle.math_transforms.proofs.PowersOfTwo.{power_of_two-same}
use Rattle.math_transforms.proofs.columns.EvaluationColumn.vanishing.Goals as goal

pub returns : goal.returns
returns g c = record { vanishing = λ m e. rw (← power_of_two-same c.lg_size-lg.result m (sym c.lg_size-lg.ensures.size ∙ e)) c.in_ok-at_zero.ensures }
