use Rattle.std.proofs.Common.{◌≡◌, ◌-◌}
use Rattle.std.specs.List.{range_with_len}
use Rattle.systematic_shards.proofs.encoding.indices_between.Given as goal

-- the indices so far
abbrev pub invariant-loop-index : goal.invariant-loop-index
invariant-loop-index l = l.out.items ≡ range_with_len l.fn.from (l.index - l.fn.from)
