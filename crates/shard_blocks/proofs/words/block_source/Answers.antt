use Rattle.std.proofs.Common.{◌∙◌, ◌∷◌, ◌/◌, length, map, sym, ap, arith}
use Rattle.std.proofs.lemmas.Bool.{eqb-true}
use Rattle.std.proofs.lemmas.List.{append-nil}
use Rattle.std.specs.Int.{from_le_bytes, w64}
use Rattle.std.specs.Simd.{first_chunks}
use Rattle.math_numbers.proofs.ByteLists.{all_bytes, some_of_test}
use Rattle.shard_blocks.proofs.PackedBytes.{packed_rest, packed_whole}
use Rattle.shard_blocks.proofs.words.block_source.Goals as goal
use Rattle.shard_blocks.proofs.words.block_source.Goals.{then-is_empty, else-is_empty}

pub returns : goal.returns
returns c =
    let bytes = c.args.bytes.now in
    let rest = c.as_chunks.result.1.now in
    let h = all_bytes bytes (λ i. omega (arith, c.type_inv.bytes i)) in
    let count = c.as_chunks.ensures.back_len in
    elim c.if-is_empty.branch [
      | then-is_empty w ↦
          rw (w.last-is, c.as_chunks.ensures.front)
          (ap (λ xs. length bytes ∷ xs) (append-nil (map (from_le_bytes w64) (first_chunks 8 (length bytes / 8) bytes)))
          ∙ packed_whole bytes h (sym count ∙ eqb-true (length rest) 0 (sym c.is_empty.ensures ∙ w.if-is_empty.true)))
      | else-is_empty w ↦
          let last = w.from_le_bytes in
          let some = some_of_test (length rest) c.is_empty.result c.is_empty.ensures w.if-is_empty.false in
          rw (w.last-is, c.as_chunks.ensures.front)
          (packed_rest bytes rest last.result h some (omega (arith, count)) c.as_chunks.ensures.back (last.ensures ∙ ap (from_le_bytes w64) w.padded_to_eight.ensures))
    ]
