use Rattle.std.proofs.Common.{◌∙◌, bit_and, ap}
use Rattle.std.proofs.lemmas.Nat.{and_mask}
use Rattle.math_fields.specs.Elements.{number}
use Rattle.math_shards.proofs.shards.unpacking.bits_of.Goals as goal

pub returns : goal.returns
returns c = ap (λ n. bit_and n 9223372036854775807) c.word.ensures ∙ and_mask (number c.args.element) 63
