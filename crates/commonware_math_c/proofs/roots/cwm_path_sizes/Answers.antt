use Rattle.std.proofs.Common.{◌∙◌, sym, arith}
use Rattle.c_calls.proofs.PathCounts.{length-path, most}
use Rattle.commonware_math_c.proofs.roots.cwm_path_sizes.Goals as goal

pub returns-clause-paths : goal.returns-clause-paths
returns-clause-paths c = λ _ h leaves e. length-path h c.args.total c.args.index leaves e ∙ sym c.path_steps.ensures

pub returns-clause-longest : goal.returns-clause-longest
returns-clause-longest c = λ _. rw (c.path_steps.ensures, c.path_steps-2.ensures) (most c.args.total c.args.index (omega arith))
