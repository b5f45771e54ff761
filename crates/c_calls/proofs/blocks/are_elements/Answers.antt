use Rattle.std.proofs.Common.{arith}
use Rattle.c_calls.proofs.ShardBytes.{elements_of_chunks}
use Rattle.c_calls.proofs.blocks.are_elements.Goals as goal

pub returns : goal.returns
returns c =
    let both = elements_of_chunks c.args.bytes.now c.as_chunks.result.0.now c.requires (λ i. omega (arith, c.type_inv.bytes i)) c.as_chunks.ensures.front in
    (λ t. both.0 (c.are_words_below_modulus.ensures.0 t), λ spell. c.are_words_below_modulus.ensures.1 (both.1 spell))
