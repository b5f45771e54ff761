use Rattle.systematic_shards.specs.Strips.{HaveElements}
use Rattle.systematic_shards.proofs.filling.have_elements.Given as goal

-- the rows so far have the elements
abbrev pub invariant-loop-j : goal.invariant-loop-j
invariant-loop-j g l = HaveElements g.M.WordMemory.word l.rows l.strip l.j
