use Rattle.std.proofs.Common.{◌≡◌, ◌∙◌, ◌+◌, ◌/◌, ◌%◌, ◌++◌, ℕ, inl, inr, drop, get_or, length, take, ap, ap₂, sym, arith}
use Rattle.std.proofs.lemmas.Bool.{cases_lt}
use Rattle.std.specs.Int.{to_le_bytes, w64}
use Rattle.std.specs.List.{flat_map}
use Rattle.shard_blocks.proofs.ReadBlocks.{block_in_parts, words_of_block}
use Rattle.shard_blocks.proofs.words.write_block.Goals as goal

pub returns : goal.returns
returns c = λ words block h of long.
    let n : ℕ = length block in
    let k : ℕ = n / 8 in
    let all = words_of_block words block of in
    let whole : length c.args.out.now / 8 ≡ k = ap (λ m. m / 8) (sym long) in
    let front = c.write_block_words.ensures words h (omega (arith, whole, all)) in
    let left : length c.split_at_mut-front.result.1.now ≡ n % 8 = omega (arith, c.split_at_mut-front.ensures.back_len, long) in
    let some : take (n % 8) c.to_le_bytes-last.result ≡ take (n % 8) (to_le_bytes w64 (get_or words (1 + k) 0)) = elim (cases_lt 0 (n % 8)) [
      | inl more ↦
          ap (take (n % 8)) (c.to_le_bytes-last.ensures
          ∙ ap (to_le_bytes w64) (c.word.ensures words h (omega (arith, whole, all, more)) ∙ ap (λ m. get_or words (1 + m) 0) whole))
      | inr none ↦
          let zero : n % 8 ≡ 0 = omega (arith, none) in
          ap (λ m. take m c.to_le_bytes-last.result) zero ∙ sym (ap (λ m. take m (to_le_bytes w64 (get_or words (1 + k) 0))) zero)
    ] in
    ap₂ (λ xs ys. xs ++ ys) (front ∙ ap (λ m. flat_map (to_le_bytes w64) (take m (drop 1 words))) whole)
    (c.copy_from_slice.ensures.after ∙ ap (λ m. take m c.to_le_bytes-last.result) left ∙ some)
    ∙ sym (block_in_parts words block of)
