use Rattle.std.proofs.Common.{take}
use Rattle.secret_bytes.specs.Rows.{AreDealtRows}
use Rattle.secret_bytes.proofs.dealing.deal_all.Given as goal

-- the elements so far are dealt
abbrev pub invariant-loop-element : goal.invariant-loop-element
invariant-loop-element g l = AreDealtRows l.t (g.G.Rng.stream l.initial.rng) (g.G.Rng.stream l.rng) (take l.element-index l.elements) l.initial.rows l.rows
