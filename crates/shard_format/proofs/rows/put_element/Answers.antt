use Rattle.std.proofs.Common.{◌∙◌, ◌%◌, ap}
use Rattle.std.proofs.Math.ListN.{set}
use Rattle.math_numbers.specs.Goldilocks.{P}
use Rattle.math_fields.specs.Elements.{residue}
use Rattle.shard_fingerprints.specs.EqualElements.{element_equal}
use Rattle.systematic_shards.specs.Masks.{masked_number}
use Rattle.shard_format.proofs.rows.put_element.Goals as goal

pub returns-clause-word : goal.returns-clause-word
returns-clause-word c =
    let n = masked_number c.args.mask c.args.word in
    ap (set c.args.elements.now c.args.k) (element_equal c.from.result (residue n) (c.from.ensures ∙ ap (λ m. m % P) c.masked_word-masked.ensures))
