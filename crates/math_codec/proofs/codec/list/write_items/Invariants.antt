use Rattle.std.proofs.Common.{◌≡◌, ◌++◌, length, take}
use Rattle.std.specs.List.{flat_map}
use Rattle.math_codec.specs.Lengths.{length_spelling}
use Rattle.math_codec.proofs.codec.list.write_items.Given as goal

abbrev pub invariant-loop-item : goal.invariant-loop-item
invariant-loop-item g l = l.out.items ≡ l.fn.out.items ++ (length_spelling (length l.items) ++ flat_map g.T.Encoding.spelling (take l.item-index l.items))
