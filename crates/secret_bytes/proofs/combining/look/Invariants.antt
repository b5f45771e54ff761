use Rattle.std.proofs.Common.{◌≡◌, length}
use Rattle.secret_bytes.specs.Passes.{AreFirstElements}
use Rattle.secret_bytes.proofs.combining.look.Given as goal

-- the elements so far
abbrev pub invariant-loop-j : goal.invariant-loop-j
invariant-loop-j l = record {
  count : length l.elements.items ≡ l.j;
  elements : AreFirstElements l.t l.width l.shares l.elements.items;
}
