use Rattle.std.proofs.Common.{◌≡◌, [], drop}
use Rattle.secretshares_commands.specs.Answers.{in_order}
use Rattle.secretshares_commands.proofs.calls.in_order.Given as goal

-- what comes of the indices that are left is what comes of all
abbrev pub invariant-loop-index : goal.invariant-loop-index
invariant-loop-index l = in_order l.wrong l.out.items (drop l.index-index l.indices) ≡ in_order l.wrong [] l.indices
