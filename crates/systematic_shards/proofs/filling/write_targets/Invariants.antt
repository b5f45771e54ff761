use Rattle.std.proofs.Common.{◌-◌, ◌≤◌}
use Rattle.systematic_shards.specs.Strips.{AreTargetsFilled}
use Rattle.systematic_shards.proofs.filling.write_targets.Given as goal

-- the columns so far are written
abbrev pub invariant-loop-from : goal.invariant-loop-from
invariant-loop-from g l = record {
  within : l.from ≤ l.maker.code.split.width;
  filled : AreTargetsFilled g.M.WordMemory.word l.maker l.places l.from (g.M.WordMemory.word l.initial.out) (g.M.WordMemory.word l.out);
}

abbrev pub decreases-loop-from : goal.decreases-loop-from
decreases-loop-from g l = l.maker.code.split.width - l.from
