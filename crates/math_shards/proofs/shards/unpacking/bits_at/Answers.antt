use Rattle.std.proofs.Common.{◌≡◌, ◌∙◌, ◌%◌, ◌^◌, sym, ap, arith}
use Rattle.std.proofs.lemmas.List.{get_or_past, get_or_read}
use Rattle.math_fields.specs.Elements.{number}
use Rattle.math_splitting.proofs.SameCells.{nought}
use Rattle.math_shards.proofs.shards.unpacking.bits_at.Goals as goal

pub returns-then-place-elements : goal.returns-then-place-elements
returns-then-place-elements c = sym (ap (λ x. number x % 2 ^ 63) (get_or_past c.args.elements.now c.args.place nought (omega arith)))

pub returns : goal.returns
returns c = grind (arith, get_or_read)
