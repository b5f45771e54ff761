use Rattle.std.proofs.Common.{rules}
use Rattle.hash_trees.specs.Trees.{is_alone}
use Rattle.hash_trees.proofs.paths.is_alone.Goals as goal

pub returns-then-i-eq0 : goal.returns-then-i-eq0
unfolding is_alone
returns-then-i-eq0 c = search rules

pub returns-else-i-eq0 : goal.returns-else-i-eq0
unfolding is_alone
returns-else-i-eq0 c = search rules
