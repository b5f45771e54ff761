use Rattle.std.proofs.Common.{◌≡◌, ◌∙◌, ℕ, ◌-◌, ◌%◌, ◌<◌, length, drop, take, get_or, sym, ap, ap₂, subst, arith}
use Rattle.std.specs.Int.{div_ceil, to_le_bytes, w64}
use Rattle.std.specs.List.{All}
use Rattle.std.proofs.lemmas.Bool.{false≢true}
use Rattle.shard_blocks.proofs.ReadBlocks.{behind, block_of_read, count_in_front, last_bytes, rest_of_word, words_of_block, zeros_behind}
use Rattle.shard_blocks.proofs.words.block_size.Goals as goal
use Rattle.shard_blocks.proofs.words.block_size.Goals.{else-left-gt0-via-then-left-gt0+else-not-all_zero, else-left-gt0-via-else-left-gt0}

pub returns-then-count-div_ceil-clause-found : goal.returns-then-count-div_ceil-clause-found
returns-then-count-div_ceil-clause-found c = λ words block h of.
    let many = c.count-count.ensures words h in
    let all = words_of_block words block of in
    let n : c.word-bytes.result ≡ length block = c.word-bytes.ensures words h (omega (arith, all)) ∙ count_in_front words block of in
    let less : c.count-count.result - 1 ≡ div_ceil (length block) 8 = omega (arith, many, all) in
    c.if-count-div_ceil.true (less ∙ ap (λ m. div_ceil m 8) (sym n) ∙ sym c.div_ceil.ensures)

pub returns-then-not-all_zero-clause-found : goal.returns-then-not-all_zero-clause-found
returns-then-not-all_zero-clause-found c = λ words block h of.
    let many = c.count-count.ensures words h in
    let all = words_of_block words block of in
    let n : c.word-bytes.result ≡ length block = c.word-bytes.ensures words h (omega (arith, all)) ∙ count_in_front words block of in
    let left : ℕ = c.word-bytes.result % 8 in
    let last : last_bytes words ≡ c.to_le_bytes.result =
    ap (λ i. to_le_bytes w64 (get_or words (i - 1) 0)) (sym many) ∙ ap (to_le_bytes w64) (sym (c.word.ensures words h (omega (arith, many, all)))) ∙ sym c.to_le_bytes.ensures in
    let rest : take (8 - left) (drop left c.to_le_bytes.result) ≡ drop left c.to_le_bytes.result = rest_of_word c.word.result left c.to_le_bytes.result c.to_le_bytes.ensures in
    let zeros = zeros_behind words block of (subst (λ m. 0 < m % 8) n (omega (arith, c.if-left-gt0.true))) in
    false≢true (sym c.if-not-all_zero.true
    ∙ c.all_zero.ensures.1 (subst (All (λ x. x ≡ 0)) (ap₂ (λ m bytes. drop (m % 8) bytes) (sym n) last ∙ sym rest) zeros))

pub returns-clause-some : goal.returns-clause-some
returns-clause-some c = λ words h.
    let many = c.count-count.ensures words h in
    let some : 0 < length words = omega (arith, many, c.if-count-eq0.false) in
    let n = c.word-bytes.ensures words h some in
    let left : ℕ = c.word-bytes.result % 8 in
    let rest : length words - 1 ≡ div_ceil c.word-bytes.result 8 = ap (λ m. m - 1) (sym many) ∙ c.if-count-div_ceil.false ∙ c.div_ceil.ensures in
    let zeros : 0 < left → All (λ x. x ≡ 0) (drop left (last_bytes words)) = elim c.else-left-gt0.branch [
      | else-left-gt0-via-then-left-gt0+else-not-all_zero w ↦ λ more.
          let last : w.to_le_bytes.result ≡ last_bytes words =
          w.to_le_bytes.ensures ∙ ap (to_le_bytes w64) (w.word.ensures words h (omega (arith, many, some))) ∙ ap (λ i. to_le_bytes w64 (get_or words (i - 1) 0)) many in
          subst (All (λ x. x ≡ 0)) (rest_of_word w.word.result left w.to_le_bytes.result w.to_le_bytes.ensures ∙ ap (drop left) last) (w.all_zero.ensures.0 w.if-not-all_zero.false)
      | else-left-gt0-via-else-left-gt0 w ↦ λ more. absurd (omega (arith, more, w.if-left-gt0.false))
    ] in
    let block = take c.word-bytes.result (behind words) in
    let of = block_of_read words c.word-bytes.result h.elements.each_word some n rest zeros in
    (block, of, sym (count_in_front words block of) ∙ sym n)
