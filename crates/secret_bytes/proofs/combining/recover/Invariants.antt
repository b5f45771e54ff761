use Rattle.std.proofs.Common.{◌+◌, ◌-◌, length}
use Rattle.secret_bytes.specs.Passes.{AreFirstElements}
use Rattle.secret_bytes.proofs.RecoveredShares.{IsProgress}
use Rattle.secret_bytes.proofs.combining.recover.Given as goal

-- what is found so far, and what is kept, and the elements of what is kept
abbrev pub invariant-loop-elements : goal.invariant-loop-elements
invariant-loop-elements l = record {
  progress : IsProgress l.t l.width l.fn.shares.items l.kept.items l.wrong.items;
  elements : AreFirstElements l.t l.width l.kept.items l.elements.items;
}

-- each time more are found
abbrev pub decreases-loop-elements : goal.decreases-loop-elements
decreases-loop-elements l = l.most + 1 - length l.wrong.items
