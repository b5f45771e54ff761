-- The block of some words: its whole words, and what it has of the last one.
use Rattle.std.proofs.Common.{◌≡◌, ◌∙◌, ℕ, suc, ◌+◌, ◌-◌, ◌*◌, ◌/◌, ◌%◌, ◌^◌, ◌<◌, List, [], ◌∷◌, ◌++◌, inl, inr, length, take, drop, get_or, refl, sym, ap, subst, append-nil, arith}
use Rattle.std.specs.Int.{div_ceil, to_le_bytes, w64}
use Rattle.std.specs.List.{All, flat_map}
use Rattle.std.proofs.lemmas.Bool.{cases_lt}
use Rattle.std.proofs.lemmas.List.{drop_all, take_all, take_rest}
use Rattle.std.proofs.lemmas.List.Elements.{All-head, All-nil, All-tail}
use Rattle.shard_blocks.specs.BlockWords.{IsBlockOf}
use Rattle.shard_blocks.proofs.UnpackedBytes.{block_in_front, block_length, block_of_unpacked, drop_to_last, length_unpacked, take_to_last}

-- the bytes of the words behind the first one
abbrev pub behind : List ℕ → List ℕ
behind words = flat_map (to_le_bytes w64) (drop 1 words)

-- the eight bytes of the last word
abbrev pub last_bytes : List ℕ → List ℕ
last_bytes words = to_le_bytes w64 (get_or words (length words - 1) 0)

-- what is left of the eight bytes of a word
pub rest_of_word : (word left : ℕ) (bytes : List ℕ) → bytes ≡ to_le_bytes w64 word → take (8 - left) (drop left bytes) ≡ drop left bytes
rest_of_word word left bytes e = ap (λ n. take (n - left) (drop left bytes)) (sym (ap length e)) ∙ take_rest bytes left

-- so many bytes fill the words that hold them, where none is left over
whole_words : (n : ℕ) (packed : List ℕ) → length packed ≡ div_ceil n 8 → n % 8 ≡ 0 → length (flat_map (to_le_bytes w64) packed) ≡ n
whole_words n packed l whole = omega (arith, length_unpacked packed, l, whole)

-- words of which the first is the number of bytes that they hold, and the last has zeros behind these, are those of a block
pub block_of_read : (words : List ℕ) (n : ℕ) → All (λ word. word < 2 ^ 64) words → 0 < length words → n ≡ get_or words 0 0 → length words - 1 ≡ div_ceil n 8
    → (0 < n % 8 → All (λ x. x ≡ 0) (drop (n % 8) (last_bytes words))) → IsBlockOf words (take n (behind words))
block_of_read [] n each some first many zeros = absurd (omega (arith, some))
block_of_read (w ∷ packed) n each some first many zeros =
    let bytes = flat_map (to_le_bytes w64) packed in
    let l : length packed ≡ div_ceil n 8 = omega (arith, many) in
    let rest : All (λ x. x ≡ 0) (drop n bytes) = elim (cases_lt 0 (n % 8)) [
      | inl more ↦
          let k : ℕ = n / 8 in
          let count : length packed ≡ k + 1 = omega (arith, l, more) in
          let parts : 8 * k + n % 8 ≡ n = omega arith in
          let place : length (w ∷ packed) - 1 ≡ suc k = omega (arith, count) in
          let last : last_bytes (w ∷ packed) ≡ to_le_bytes w64 (get_or packed k 0) = ap (λ i. to_le_bytes w64 (get_or (w ∷ packed) i 0)) place in
          subst (All (λ x. x ≡ 0)) (ap (drop (n % 8)) last ∙ sym (drop_to_last k (n % 8) packed count) ∙ ap (λ i. drop i bytes) parts) (zeros more)
      | inr none ↦
          let long = whole_words n packed l (omega (arith, none)) in
          subst (All (λ x. x ≡ 0)) (sym (drop_all n bytes (omega (arith, long)))) (All-nil (λ x. x ≡ 0))
    ] in
    let few : n < 2 ^ 64 = omega (arith, first, All-head (λ word. word < 2 ^ 64) w packed each) in
    let of = block_of_unpacked n packed bytes (All-tail (λ word. word < 2 ^ 64) w packed each) few l refl rest in
    (of.0, ap (λ x. x ∷ packed) (sym first) ∙ of.1)

-- The words of a block.
module _ (words block : List ℕ) (of : IsBlockOf words block) where
  first_word : get_or words 0 0 ≡ length block
  first_word = ap (λ xs. get_or xs 0 0) of.1

  split_words : words ≡ length block ∷ drop 1 words
  split_words = of.1 ∙ ap (λ xs. length block ∷ drop 1 xs) (sym of.1)

  -- how many there are
  pub words_of_block : length words ≡ 1 + div_ceil (length block) 8
  words_of_block =
      let l = block_length words (drop 1 words) (length block) split_words block of in
      omega (arith, ap length split_words, l)

  -- the first is the number of bytes
  pub count_in_front : get_or words 0 0 ≡ length block
  count_in_front = first_word

  -- where the last one is not full, zeros are behind the bytes
  pub zeros_behind : 0 < length block % 8 → All (λ x. x ≡ 0) (drop (length block % 8) (last_bytes words))
  zeros_behind more =
      let n : ℕ = length block in
      let k : ℕ = n / 8 in
      let packed = drop 1 words in
      let l = block_length words packed n split_words block of in
      let count : length packed ≡ k + 1 = omega (arith, l, more) in
      let parts : 8 * k + n % 8 ≡ n = omega arith in
      let place : length words - 1 ≡ suc k = omega (arith, words_of_block, more) in
      let last : last_bytes words ≡ to_le_bytes w64 (get_or packed k 0) =
      ap (λ i. to_le_bytes w64 (get_or words i 0)) place ∙ ap (λ xs. to_le_bytes w64 (get_or xs (suc k) 0)) split_words in
      let front = block_in_front words packed (behind words) n split_words refl block of in
      subst (All (λ x. x ≡ 0)) (ap (λ i. drop i (behind words)) (sym parts) ∙ drop_to_last k (n % 8) packed count ∙ sym (ap (drop (n % 8)) last)) front.1

  -- the block is the bytes of the whole words, and some of those of the next one
  pub block_in_parts : block ≡ flat_map (to_le_bytes w64) (take (length block / 8) (drop 1 words)) ++ take (length block % 8) (to_le_bytes w64 (get_or words (1 + length block / 8) 0))
  block_in_parts =
      let n : ℕ = length block in
      let k : ℕ = n / 8 in
      let packed = drop 1 words in
      let l = block_length words packed n split_words block of in
      let front = block_in_front words packed (behind words) n split_words refl block of in
      let next : get_or words (1 + k) 0 ≡ get_or packed k 0 =
      ap (λ i. get_or words i 0) (let e : 1 + k ≡ suc k = omega arith in e) ∙ ap (λ xs. get_or xs (suc k) 0) split_words in
      elim (cases_lt 0 (n % 8)) [
        | inl more ↦
            let count : length packed ≡ k + 1 = omega (arith, l, more) in
            let parts : n ≡ 8 * k + n % 8 = omega arith in
            sym front.0 ∙ ap (λ i. take i (behind words)) parts ∙ take_to_last k (n % 8) packed count
            ∙ ap (λ x. flat_map (to_le_bytes w64) (take k packed) ++ take (n % 8) (to_le_bytes w64 x)) (sym next)
        | inr none ↦
            let zero : n % 8 ≡ 0 = omega (arith, none) in
            let long = whole_words n packed l zero in
            sym front.0 ∙ take_all n (behind words) (omega (arith, long)) ∙ ap (flat_map (to_le_bytes w64)) (sym (take_all k packed (omega (arith, l, zero))))
            ∙ sym (append-nil (flat_map (to_le_bytes w64) (take k packed)))
            ∙ ap (λ i. flat_map (to_le_bytes w64) (take k packed) ++ take i (to_le_bytes w64 (get_or words (1 + k) 0))) (sym zero)
      ]
