use Rattle.std.proofs.Common.{rules}
use Rattle.std.proofs.lemmas.Fn.{filter_same}
use Rattle.secret_bytes.specs.Combined.{is_outside}
use Rattle.secret_bytes.proofs.combining.leave_out.Goals as goal

pub returns : goal.returns
returns c = filter_same _ (λ s. is_outside c.args.wrong.now s.index) _ (λ x b q h. search rules) _ _ c.retain.ensures.filtered
