-- Words that are read from bytes and written over them, the lowest byte first.
use Rattle.std.proofs.Common.{◌≡◌, ◌≢◌, ◌⊎◌, ◌∙◌, inl, inr, ℕ, zero, suc, ◌+◌, ◌-◌, ◌*◌, ◌/◌, ◌%◌, ◌<◌, ◌≤◌, ◌^◌, List, ◌++◌, length, min, take, drop, get_or, refl, sym, ap, ap₂, subst, arith}
use Rattle.std.proofs.Math.ListN.{replicate}
use Rattle.std.proofs.Math.Nat.{pow-suc}
use Rattle.std.proofs.Math.Pow.{pow_mono}
use Rattle.std.specs.Int.{byte_at, byte_worth, bytes_low_first, from_le_bytes, sum_through, to_le_bytes, w64}
use Rattle.std.specs.Simd.{first_chunks}
use Rattle.std.proofs.lemmas.Bool.{cases_lt}
use Rattle.std.proofs.lemmas.List.{drop-drop, get_or-append_right, get_or-drop, get_or-replicate, get_or-take, get_or_append_left, get_or_past, length-append, length-drop, length-take, length-take-le}
use Rattle.std.proofs.lemmas.Nat.{from_le_bytes-to_le_bytes_8, mod_below, pow-add, pow_pos, shr_below, shr_split}
use Rattle.systematic_shards.specs.Words.{IsWithin, word_of_bytes}

sum-same : (f g : ℕ → ℕ) (n : ℕ) → ((i : ℕ) → i ≤ n → f i ≡ g i) → sum_through f n ≡ sum_through g n
sum-same f g zero h = h 0 (omega arith)
sum-same f g (suc n) h = ap₂ (λ a b. a + b) (sum-same f g n (λ i l. h i (omega (arith, l)))) (h (suc n) (omega arith))

-- a word is that of its eight bytes
pub word-same : (xs ys : List ℕ) → ((i : ℕ) → i < 8 → get_or xs i 0 ≡ get_or ys i 0) → from_le_bytes w64 xs ≡ from_le_bytes w64 ys
word-same xs ys h = sum-same (λ i. byte_worth i (get_or xs i 0)) (λ i. byte_worth i (get_or ys i 0)) 7 (λ i l. ap (byte_worth i) (h i (omega (arith, l))))

-- chunk k of n items
pub chunk-at : (n count : ℕ) (xs : List ℕ) (k : ℕ) (d : List ℕ) → k < count → get_or (first_chunks n count xs) k d ≡ take n (drop (n * k) xs)
chunk-at n zero xs k d l = absurd (omega (arith, l))
chunk-at n (suc count) xs zero d l = ap (λ m. take n (drop m xs)) (let e : 0 ≡ n * 0 = omega arith in e)
chunk-at n (suc count) xs (suc k) d l =
    let e : n + n * k ≡ n * suc k = grind arith in
    chunk-at n count (drop n xs) k d (omega (arith, l)) ∙ ap (take n) (drop-drop (n * k) n xs ∙ ap (λ m. drop m xs) e)

-- a whole word
pub word-chunk : (cells eight : List ℕ) (k : ℕ) → eight ≡ take 8 (drop (8 * k) cells) → from_le_bytes w64 eight ≡ word_of_bytes cells k
word-chunk cells eight k is = word-same eight (drop (8 * k) cells) (λ i l. ap (λ xs. get_or xs i 0) is ∙ get_or-take 8 (drop (8 * k) cells) i 0 l)

-- some zeros
abbrev pub zeros : ℕ → List ℕ
zeros m = replicate m 0

pub length-zeros : (m : ℕ) → length (zeros m) ≡ m
length-zeros zero = refl
length-zeros (suc m) = let e : length (zeros m) ≡ m = length-zeros m in omega (arith, e)

pub zero-at : (m i : ℕ) → get_or (zeros m) i 0 ≡ 0
zero-at m i = elim (cases_lt i m) as (λ _. get_or (zeros m) i 0 ≡ 0) [
  | inl b ↦ get_or-replicate m i 0 0 b
  | inr b ↦ get_or_past (zeros m) i 0 (omega (arith, b, length-zeros m))
]

-- zeros behind bytes are as good as nothing
pub padded-at : (rest : List ℕ) (m i : ℕ) → get_or (rest ++ replicate m 0) i 0 ≡ get_or rest i 0
padded-at rest m i = elim (cases_lt i (length rest)) as (λ _. get_or (rest ++ replicate m 0) i 0 ≡ get_or rest i 0) [
  | inl before ↦ get_or_append_left rest (replicate m 0) 0 i before
  | inr after ↦
      get_or-append_right rest (replicate m 0) (length rest) i 0 refl after ∙ zero-at m (i - length rest) ∙ sym (get_or_past rest i 0 after)
]

-- byte i of a word
low-at : (j count n i : ℕ) → i < count → get_or (bytes_low_first j count n) i 0 ≡ byte_at (j + i) n
low-at j zero n i l = absurd (omega (arith, l))
low-at j (suc count) n zero l = ap (λ m. byte_at m n) (let e : j ≡ j + 0 = omega arith in e)
low-at j (suc count) n (suc i) l = low-at (suc j) count n i (omega (arith, l)) ∙ ap (λ m. byte_at m n) (let e : suc j + i ≡ j + suc i = omega arith in e)

bytes_power : (i : ℕ) → 256 ^ i ≡ 2 ^ (8 * i)
bytes_power zero = refl
bytes_power (suc i) =
    let e : 8 * i + 8 ≡ 8 * suc i = omega arith in
    pow-suc 256 i ∙ ap (λ n. n * 256) (bytes_power i) ∙ sym (pow-add 2 (8 * i) 8) ∙ ap (λ n. 2 ^ n) e

-- a number of n bytes has no byte from n on
byte-none : (n i word : ℕ) → word < 2 ^ (8 * n) → n ≤ i → byte_at i word ≡ 0
byte-none n zero word l m =
    let none : n ≡ 0 = omega (arith, m) in
    let less : word < 2 ^ (8 * 0) = subst (λ k. word < 2 ^ (8 * k)) none l in
    let is : word ≡ 0 = omega (arith, less) in
    ap (λ w. w % 256) is
byte-none n (suc i) word l m =
    let up : 2 ^ (8 * n) ≤ 2 ^ (8 * suc i) = pow_mono (omega (arith, m)) in
    let turn : 0 + 8 * suc i ≡ 8 * suc i = omega arith in
    let less : word < 2 ^ (0 + 8 * suc i) = subst (λ k. word < 2 ^ k) (sym turn) (omega (arith, l, up)) in
    let small : word / 2 ^ (8 * suc i) < 2 ^ 0 = shr_below word 0 (8 * suc i) less in
    let is : word / 2 ^ (8 * suc i) ≡ 0 = omega (arith, small) in
    ap (λ p. word / p % 256) (bytes_power (suc i)) ∙ ap (λ w. w % 256) is

-- a part that was written over bytes from place `at` on
abbrev pub put_at : ℕ → List ℕ → List ℕ → List ℕ
put_at at part old = take at old ++ (part ++ drop (at + length part) old)

module _ (at : ℕ) (part old : List ℕ) (within : at + length part ≤ length old) where
  before : length (take at old) ≡ at
  before = length-take-le at old (omega (arith, within))

  pub put-before : (p : ℕ) → p < at → get_or (put_at at part old) p 0 ≡ get_or old p 0
  put-before p l = get_or_append_left (take at old) (part ++ drop (at + length part) old) 0 p (omega (arith, l, before)) ∙ get_or-take at old p 0 l

  pub put-inside : (j : ℕ) → j < length part → get_or (put_at at part old) (at + j) 0 ≡ get_or part j 0
  put-inside j l =
      get_or-append_right (take at old) (part ++ drop (at + length part) old) at (at + j) 0 before (omega arith)
      ∙ ap (λ n. get_or (part ++ drop (at + length part) old) n 0) (let e : at + j - at ≡ j = omega arith in e)
      ∙ get_or_append_left part (drop (at + length part) old) 0 j l

  pub put-after : (p : ℕ) → at + length part ≤ p → get_or (put_at at part old) p 0 ≡ get_or old p 0
  put-after p l =
      get_or-append_right (take at old) (part ++ drop (at + length part) old) at p 0 before (omega (arith, l))
      ∙ get_or-append_right part (drop (at + length part) old) (length part) (p - at) 0 refl (omega (arith, l))
      ∙ get_or-drop (at + length part) old (p - at - length part) 0
      ∙ ap (λ n. get_or old n 0) (let e : at + length part + (p - at - length part) ≡ p = omega (arith, l) in e)

  pub put-length : length (put_at at part old) ≡ length old
  put-length =
      let all : length (put_at at part old) ≡ length (take at old) + length (part ++ drop (at + length part) old) = length-append (take at old) (part ++ drop (at + length part) old) in
      omega (arith, all, before, length-append part (drop (at + length part) old), length-drop (at + length part) old, within)

-- the first n bytes of a word that are written over word k, where n is eight or the bytes end there and the word has no further byte
pub word-written : (k n word : ℕ) (old : List ℕ) → n ≤ 8 → 8 * k + n ≤ length old → (n ≡ 8) ⊎ (8 * k + n ≡ length old) → word < 2 ^ 64 → word < 2 ^ (8 * n)
    → word_of_bytes (put_at (8 * k) (take n (to_le_bytes w64 word)) old) k ≡ word
word-written k n word old few within how fits less =
    let eight : List ℕ = to_le_bytes w64 word in
    let part : List ℕ = take n eight in
    let long : length part ≡ n = length-take-le n eight few in
    let room : 8 * k + length part ≤ length old = omega (arith, within, long) in
    let new : List ℕ = put_at (8 * k) part old in
    word-same (drop (8 * k) new) eight
    (λ i l. get_or-drop (8 * k) new i 0
    ∙ elim (cases_lt i n) as (λ _. get_or new (8 * k + i) 0 ≡ get_or eight i 0) [
      | inl before ↦ put-inside (8 * k) part old room i (omega (arith, before, long)) ∙ get_or-take n eight i 0 before
      | inr after ↦
          let end : 8 * k + n ≡ length old = elim how [ inl e ↦ absurd (omega (arith, e, after, l)) | inr e ↦ e ] in
          get_or_past new (8 * k + i) 0 (omega (arith, put-length (8 * k) part old room, end, after)) ∙ sym (low-at 0 8 word i l ∙ ap (λ m. byte_at m word) (let e : 0 + i ≡ i = omega arith in e) ∙ byte-none n i word less after)
    ])
    ∙ from_le_bytes-to_le_bytes_8 word fits

-- the other words are as they were
pub word-kept : (k i : ℕ) (part old : List ℕ) → length part ≤ 8 → 8 * k + length part ≤ length old → i ≢ k → word_of_bytes (put_at (8 * k) part old) i ≡ word_of_bytes old i
word-kept k i part old few within other =
    let new : List ℕ = put_at (8 * k) part old in
    word-same (drop (8 * i) new) (drop (8 * i) old)
    (λ j l. get_or-drop (8 * i) new j 0
    ∙ elim (cases_lt i k) as (λ _. get_or new (8 * i + j) 0 ≡ get_or old (8 * i + j) 0) [
      | inl before ↦ put-before (8 * k) part old within (8 * i + j) (omega (arith, before, l))
      | inr after ↦ put-after (8 * k) part old within (8 * i + j) (omega (arith, after, other, few))
    ]
    ∙ sym (get_or-drop (8 * i) old j 0))

-- an item of a part of a list, from place a on and below place b, as far as the list goes
pub part-at : {X : Type 0} (d : X) (xs : List X) (from count a b p : ℕ) → a ≡ min from (length xs) → b ≡ min (from + count) (length xs) → p < count
    → get_or (take (b - a) (drop a xs)) p d ≡ get_or xs (from + p) d
part-at d xs from count a b p first last l = elim (cases_lt p (b - a)) as (λ _. get_or (take (b - a) (drop a xs)) p d ≡ get_or xs (from + p) d) [
  | inl inside ↦
      get_or-take (b - a) (drop a xs) p d inside ∙ get_or-drop a xs p d ∙ ap (λ n. get_or xs n d) (let e : a + p ≡ from + p = omega (arith, first, last, inside) in e)
  | inr past ↦
      get_or_past (take (b - a) (drop a xs)) p d (omega (arith, length-take (b - a) (drop a xs), past)) ∙ sym (get_or_past xs (from + p) d (omega (arith, first, last, past, l)))
]

-- so a word of a part of bytes is one of the bytes
pub word-part : (cells : List ℕ) (from count a b k : ℕ) → a ≡ min (8 * from) (length cells) → b ≡ min (8 * (from + count)) (length cells) → k < count
    → word_of_bytes (take (b - a) (drop a cells)) k ≡ word_of_bytes cells (from + k)
word-part cells from count a b k first last l =
    let e : 8 * from + 8 * count ≡ 8 * (from + count) = omega arith in
    word-same (drop (8 * k) (take (b - a) (drop a cells))) (drop (8 * (from + k)) cells)
    (λ j m. get_or-drop (8 * k) (take (b - a) (drop a cells)) j 0
    ∙ part-at 0 cells (8 * from) (8 * count) a b (8 * k + j) first (omega (arith, last, e)) (omega (arith, l, m))
    ∙ ap (λ n. get_or cells n 0) (let f : 8 * from + (8 * k + j) ≡ 8 * (from + k) + j = omega arith in f)
    ∙ sym (get_or-drop (8 * (from + k)) cells j 0))

-- a word before the end
pub within-room : (size k word : ℕ) → 8 * k + 8 ≤ size → word < 2 ^ 64 → IsWithin size k word
within-room size k word room fits =
    let up : 2 ^ 64 ≤ 2 ^ (8 * (size - 8 * k)) = pow_mono {i = 64} {j = 8 * (size - 8 * k)} (omega (arith, room)) in
    omega (arith, fits, up)

-- a word of which no byte lies past the end
pub within-left : (size k word left : ℕ) → left ≡ size - 8 * k → 8 ≤ left → word < 2 ^ 64 → IsWithin size k word
within-left size k word left is room fits =
    let up : 2 ^ 64 ≤ 2 ^ (8 * left) = pow_mono {i = 64} {j = 8 * left} (omega (arith, room)) in
    subst (λ n. word < 2 ^ (8 * n)) is (omega (arith, fits, up))

-- a number that gives nothing when shifted is below the power, and the other way round
pub below-from_shift : (word j : ℕ) → word / 2 ^ j ≡ 0 → word < 2 ^ j
below-from_shift word j none =
    let rest : word % 2 ^ j < 2 ^ j = mod_below word (2 ^ j) (pow_pos j) in
    let parts : word / 2 ^ j * 2 ^ j + word % 2 ^ j ≡ word = shr_split word j in
    let zero_part : word / 2 ^ j * 2 ^ j ≡ 0 = ap (λ q. q * 2 ^ j) none ∙ (let e : 0 * 2 ^ j ≡ 0 = omega arith in e) in
    omega (arith, rest, parts, zero_part)

pub shift-from_below : (word j : ℕ) → word < 2 ^ j → word / 2 ^ j ≡ 0
shift-from_below word j less =
    let turn : 0 + j ≡ j = omega arith in
    let small : word / 2 ^ j < 2 ^ 0 = shr_below word 0 j (subst (λ i. word < 2 ^ i) (sym turn) less) in
    omega (arith, small)
