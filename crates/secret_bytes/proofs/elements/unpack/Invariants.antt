use Rattle.std.proofs.Common.{◌≡◌, ◌++◌, ◌↔◌, length, map}
use Rattle.math_fields.specs.Elements.{number}
use Rattle.secret_bytes.specs.Packings.{AllFit, unpacked}
use Rattle.secret_bytes.proofs.elements.unpack.Given as goal

-- the bytes of the elements that are left are still to come
abbrev pub invariant-loop-element : goal.invariant-loop-element
invariant-loop-element l = record {
  bytes : l.bytes.items ++ unpacked l.left (map number l.rest) ≡ unpacked l.count (map number l.elements);
  fit : AllFit l.left (map number l.rest) ↔ AllFit l.count (map number l.elements);
}

abbrev pub decreases-loop-element : goal.decreases-loop-element
decreases-loop-element l = length l.rest
