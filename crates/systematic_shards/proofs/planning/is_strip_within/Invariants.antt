use Rattle.systematic_shards.specs.Strips.{IsStripWithin}
use Rattle.systematic_shards.proofs.planning.is_strip_within.Given as goal

-- there is room for the rows so far
abbrev pub invariant-loop-j : goal.invariant-loop-j
invariant-loop-j l = IsStripWithin l.size l.strip l.places l.j
