use Rattle.std.proofs.Common.{◌++◌, ◌*◌, ap, rules}
use Rattle.math_numbers.specs.Bits.{piece_count}
use Rattle.math_fields.specs.Repacking.{running}
use Rattle.math_fields.specs.Packing.{element_bits, words_of_bits, words_of, elements_to_words_gives}
use Rattle.math_fields.proofs.Packing.{length-words_of}
use Rattle.math_fields.proofs.Repacking.{running-fused, gives}
use Rattle.math_fields.proofs.goldilocks.F.stream_to_u64s.Goals as goal

pub returns : goal.returns
returns g c =
    let fresh = running-fused c.fuse.result c.args.inner c.fuse.ensures.source c.fuse.ensures.done in
    let r = gives g.I.Iterator.next_gives (λ s. running s.source) elements_to_words_gives _ c.args.inner words_of fresh
    (λ elements. ap (λ bs. words_of_bits (bs ++ element_bits elements)) c.none.ensures.bits) (λ n. piece_count 64 (63 * n)) length-words_of in
    record { all = r.0; front = r.1; count = r.2; can = search rules; ends = search rules }
