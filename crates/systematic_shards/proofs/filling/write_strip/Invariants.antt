use Rattle.systematic_shards.specs.Strips.{IsStripFilled}
use Rattle.systematic_shards.proofs.filling.write_strip.Given as goal

-- the runs of the rows so far
abbrev pub invariant-loop-j : goal.invariant-loop-j
invariant-loop-j g l = IsStripFilled l.strip l.places l.j (g.M.WordMemory.word l.initial.out) (g.M.WordMemory.word l.out)
