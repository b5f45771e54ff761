use Rattle.std.proofs.Common.{◌≡◌, ◌+◌, length, take}
use Rattle.std.specs.List.{flat_map}
use Rattle.math_codec.specs.Lengths.{length_spelling}
use Rattle.math_codec.proofs.codec.list.list_size.Given as goal

abbrev pub invariant-loop-item : goal.invariant-loop-item
invariant-loop-item g l = l.size ≡ length (length_spelling (length l.items)) + length (flat_map g.T.Encoding.spelling (take l.item-index l.items))
