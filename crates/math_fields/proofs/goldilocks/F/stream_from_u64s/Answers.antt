use Rattle.std.proofs.Common.{◌++◌, ◌*◌, ap, rules}
use Rattle.math_numbers.specs.Bits.{piece_count}
use Rattle.math_fields.specs.Repacking.{running}
use Rattle.math_fields.specs.Packing.{word_bits, elements_of_bits, elements_of, words_to_elements_gives}
use Rattle.math_fields.proofs.Packing.{length-elements_of}
use Rattle.math_fields.proofs.Repacking.{running-fused, gives}
use Rattle.math_fields.proofs.goldilocks.F.stream_from_u64s.Goals as goal

pub returns : goal.returns
returns g c =
    let fresh = running-fused c.fuse.result c.args.inner c.fuse.ensures.source c.fuse.ensures.done in
    let r = gives g.I.Iterator.next_gives (λ s. running s.source) words_to_elements_gives _ c.args.inner elements_of fresh
    (λ words. ap (λ bs. elements_of_bits (bs ++ word_bits words)) c.none.ensures.bits) (λ n. piece_count 63 (64 * n)) length-elements_of in
    record { all = r.0; front = r.1; count = r.2; can = search rules; ends = search rules }
