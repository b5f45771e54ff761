use Rattle.std.proofs.Common.{arith, ap, length, length-append}
use Rattle.std.specs.List.{flat_map}
use Rattle.std.proofs.lemmas.List.Folds.{length-flat_map-take}
use Rattle.math_codec.specs.Lengths.{length_spelling}
use Rattle.math_codec.proofs.codec.list.list_size.Goals as goal

pub encode_size-size-requires : goal.encode_size-size-requires
encode_size-size-requires g c =
    let f = g.T.Encoding.spelling in
    let xs = c.args.items.now in
    let r = c.item-item.result in
    let e = ap (λ v. length (f v)) c.item-item.is in
    omega (arith, e, length-flat_map-take f xs c.loop-item.item-index r (omega arith), length-append (length_spelling (length xs)) (flat_map f xs), c.requires)

pub overflow_add-size : goal.overflow_add-size
overflow_add-size g c =
    let f = g.T.Encoding.spelling in
    let xs = c.args.items.now in
    let r = c.item-item.result in
    let e = ap (λ v. length (f v)) c.item-item.is in
    omega (arith, e, length-flat_map-take f xs c.loop-item.item-index r (omega arith), length-append (length_spelling (length xs)) (flat_map f xs), c.requires)
