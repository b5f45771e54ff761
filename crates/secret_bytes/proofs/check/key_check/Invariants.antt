use Rattle.std.proofs.Common.{◌≡◌, ◌≤◌, length, drop}
use Rattle.math_fields.specs.Elements.{sum, product, number}
use Rattle.secret_bytes.specs.KeyChecks.{within}
use Rattle.secret_bytes.proofs.check.key_check.Given as goal

-- the value of the elements from place i on
abbrev pub invariant-loop-i : goal.invariant-loop-i
invariant-loop-i l = record {
  value : number l.value ≡ number (within sum product (drop l.i l.elements) l.key);
  within : l.i ≤ length l.elements;
}

abbrev pub decreases-loop-i : goal.decreases-loop-i
decreases-loop-i l = l.i
