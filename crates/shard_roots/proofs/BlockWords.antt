-- The words of a block have no bytes past its end, and a row of a shard has its length.
use Rattle.std.proofs.Common.{◌≡◌, ◌∙◌, inl, inr, ℕ, zero, suc, ◌+◌, ◌-◌, ◌*◌, ◌<◌, ◌≤◌, ◌^◌, List, ◌++◌, length, drop, get_or, refl, sym, ap, subst, arith}
use Rattle.std.proofs.Math.Nat.{pow-suc}
use Rattle.std.proofs.Math.Pow.{pow_mono}
use Rattle.std.specs.Int.{byte_worth, sum_through}
use Rattle.std.specs.List.{All}
use Rattle.std.proofs.lemmas.Bool.{cases_lt}
use Rattle.std.proofs.lemmas.List.{get_or_past, length-append, length-drop, length-take-le}
use Rattle.std.proofs.lemmas.Nat.{mul-le, pow-add}
use Rattle.systematic_shards.specs.declared.split.Split.{Split}
use Rattle.systematic_shards.specs.Words.{IsWithin, word_of_bytes}
use Rattle.systematic_shards.proofs.Bytes.{length-zeros, zeros}
use Rattle.shard_roots.specs.Records.{row_at, row_of}
use Rattle.shard_roots.proofs.BoundBlocks.{row-data, row-parity}
use Rattle.shard_roots.proofs.RecordBytes.{dropped}

-- a byte more multiplies the bound by 256
byte-more : (n : ℕ) → 2 ^ (8 * suc n) ≡ 2 ^ (8 * n) * 256
byte-more n = let e : 8 * suc n ≡ 8 * n + 8 = omega arith in ap (λ k. 2 ^ k) e ∙ pow-add 2 (8 * n) 8

bytes-power : (n : ℕ) → 256 ^ n ≡ 2 ^ (8 * n)
bytes-power zero = refl
bytes-power (suc n) = pow-suc 256 n ∙ ap (λ m. m * 256) (bytes-power n) ∙ sym (byte-more n)

module _ (byte : ℕ → ℕ) (small : (i : ℕ) → byte i < 256) where
  -- the first bytes of a number
  abbrev first : ℕ → ℕ
  first m = sum_through (λ i. byte_worth i (byte i)) m

  first-below : (m : ℕ) → first m < 2 ^ (8 * suc m)
  first-below zero = let b = small 0 in omega (arith, b)
  first-below (suc m) =
      let so_far = first-below m in
      let b = small (suc m) in
      let power = 2 ^ (8 * suc m) in
      let most : byte (suc m) * power ≤ 255 * power = mul-le (byte (suc m)) power 255 power (omega (arith, b)) (omega arith) in
      let worth : byte_worth (suc m) (byte (suc m)) ≡ byte (suc m) * power = ap (λ p. byte (suc m) * p) (bytes-power (suc m)) in
      let more = byte-more (suc m) in
      omega (arith, so_far, most, worth, more)

  -- where all bytes from n on are zeros, it has n bytes
  ended-below : (n : ℕ) → ((i : ℕ) → n ≤ i → byte i ≡ 0) → (m : ℕ) → first m < 2 ^ (8 * n)
  ended-below zero ended zero = let b = ended 0 (omega arith) in omega (arith, b)
  ended-below (suc n) ended zero =
      let b = small 0 in
      let up : 2 ^ 8 ≤ 2 ^ (8 * suc n) = pow_mono {i = 8} {j = 8 * suc n} (omega arith) in
      omega (arith, b, up)
  ended-below n ended (suc m) = elim (cases_lt (suc m) n) as (λ _. first (suc m) < 2 ^ (8 * n)) [
    | inl before ↦
        let all = first-below (suc m) in
        let up : 2 ^ (8 * suc (suc m)) ≤ 2 ^ (8 * n) = pow_mono {i = 8 * suc (suc m)} {j = 8 * n} (omega (arith, before)) in
        omega (arith, all, up)
    | inr past ↦
        let so_far = ended-below n ended m in
        let none : 0 * 256 ^ suc m ≡ 0 = grind arith in
        let worth : byte_worth (suc m) (byte (suc m)) ≡ 0 = ap (λ b. b * 256 ^ suc m) (ended (suc m) past) ∙ none in
        omega (arith, so_far, worth)
  ]

-- a word of a block has no byte past the end
pub word-within : (bytes : List ℕ) → All (λ b. b < 256) bytes → (k : ℕ) → IsWithin (length bytes) k (word_of_bytes bytes k)
word-within bytes small k =
    let rest = drop (8 * k) bytes in
    subst (λ n. word_of_bytes bytes k < 2 ^ (8 * n)) (length-drop (8 * k) bytes)
    (ended-below (λ i. get_or rest i 0) (dropped bytes small k) (length rest) (λ i l. get_or_past rest i 0 l) 7)

length-row_at : (n : ℕ) (bytes : List ℕ) (i : ℕ) → length (row_at n bytes i) ≡ n
length-row_at n bytes i =
    let count = length-append (drop (i * n) bytes) (zeros n) in
    let more = length-zeros n in
    length-take-le n (drop (i * n) bytes ++ zeros n) (omega (arith, count, more))

-- each row has as many bytes as a row has
pub length-row : (split : Split) (block parity : List ℕ) (i : ℕ) → length (row_of split block parity i) ≡ 8 * split.width
length-row split block parity i = elim (cases_lt i split.min) [
  | inl l ↦ ap length (row-data split block parity i l) ∙ length-row_at (8 * split.width) block i
  | inr l ↦ ap length (row-parity split block parity i l) ∙ length-row_at (8 * split.width) parity (i - split.min)
]
