-- Records, and the rows of bytes in them.
use Rattle.std.proofs.Common.{◌≡◌, ◌∙◌, inl, inr, ℕ, zero, suc, ◌+◌, ◌-◌, ◌*◌, ◌/◌, ◌%◌, ◌<◌, ◌≤◌, ◌^◌, List, [], ◌∷◌, ◌++◌, length, drop, get_or, refl, sym, ap, arith}
use Rattle.std.specs.Int.{from_le_bytes, to_le_bytes, w64}
use Rattle.std.specs.List.{All}
use Rattle.std.proofs.lemmas.Bool.{cases_lt}
use Rattle.std.proofs.lemmas.Grind.{div_ceil_times}
use Rattle.std.proofs.lemmas.List.{ext_get_or, get_or-append_right, get_or-drop, get_or-take, get_or_append_left, get_or_past}
use Rattle.std.proofs.lemmas.Nat.{div-add-mod', le_bytes_8, mod_below, row_below_turned}
use Rattle.hash_trees.proofs.FileMessages.{word_apart}
use Rattle.systematic_shards.specs.declared.split.Split.{Split}
use Rattle.systematic_shards.specs.Words.{word_of_bytes}
use Rattle.systematic_shards.proofs.Bytes.{word-same, zero-at, zeros}
use Rattle.shard_roots.specs.Records.{record_of, row_at}

-- both records have the same numbers and the same row
pub record AreSameParts (s t : Split) (m o i j : ℕ) (a b : List ℕ) : Type 0 where
  pub size : s.size ≡ t.size
  pub index : i ≡ j
  pub min : s.min ≡ t.min
  pub total : s.total ≡ t.total
  pub mask : m ≡ o
  pub row : a ≡ b

-- a block has no more bytes than its data rows
pub size_within : (s : Split) → s.size ≤ 8 * (s.min * s.width)
size_within s =
    let some : 0 < 8 * s.min = omega (arith, s.some) in
    let bound = (div_ceil_times s.size (8 * s.min) some).0 in
    let wide : s.size ≤ s.width * (8 * s.min) = rw (sym s.wide) at bound in
    let turned : s.width * (8 * s.min) ≡ 8 * (s.min * s.width) = grind arith in
    omega (arith, wide, turned)

size_fits : (s : Split) → s.size < 2 ^ 64
size_fits s = let within = size_within s in omega (arith, within, s.few)

-- equal records have equal parts
pub record_parts : (s t : Split) (m o i j : ℕ) (a b : List ℕ) → i < 2 ^ 64 → j < 2 ^ 64 → m < 2 ^ 64 → o < 2 ^ 64 → record_of s m i a ≡ record_of t o j b
    → AreSameParts s t m o i j a b
record_parts s t m o i j a b p q u v e =
    let size = word_apart s.size t.size _ _ (size_fits s) (size_fits t) e in
    let index = word_apart i j _ _ p q size.1 in
    let min = word_apart s.min t.min _ _ (omega (arith, s.within, s.short)) (omega (arith, t.within, t.short)) index.1 in
    let total = word_apart s.total t.total _ _ (omega (arith, s.short)) (omega (arith, t.short)) min.1 in
    let mask = word_apart m o _ _ u v total.1 in
    record { size = size.0; index = index.0; min = min.0; total = total.0; mask = mask.0; row = mask.1 }

-- zeros behind bytes are as good as nothing
pub padded-at : (rest : List ℕ) (m i : ℕ) → get_or (rest ++ zeros m) i 0 ≡ get_or rest i 0
padded-at rest m i = elim (cases_lt i (length rest)) as (λ _. get_or (rest ++ zeros m) i 0 ≡ get_or rest i 0) [
  | inl before ↦ get_or_append_left rest (zeros m) 0 i before
  | inr after ↦
      get_or-append_right rest (zeros m) (length rest) i 0 refl after ∙ zero-at m (i - length rest) ∙ sym (get_or_past rest i 0 after)
]

-- byte r of a row
pub row-byte : (n : ℕ) (bytes : List ℕ) (i r : ℕ) → r < n → get_or (row_at n bytes i) r 0 ≡ get_or bytes (i * n + r) 0
row-byte n bytes i r l = get_or-take n (drop (i * n) bytes ++ zeros n) r 0 l ∙ padded-at (drop (i * n) bytes) n r ∙ get_or-drop (i * n) bytes r 0

-- bytes of which all rows are the same are the same
rows_give_byte : (n m : ℕ) (a b : List ℕ) → length a ≤ m * n → ((i : ℕ) → i < m → row_at n a i ≡ row_at n b i) → (j : ℕ) → j < length a → get_or a j 0 ≡ get_or b j 0
rows_give_byte zero m a b within same j k = let none : m * 0 ≡ 0 = grind arith in absurd (omega (arith, within, none, k))
rows_give_byte (suc n) m a b within same j k =
    let i = j / suc n in
    let r = j % suc n in
    let is : i * suc n + r ≡ j = div-add-mod' j (suc n) in
    let few : r < suc n = mod_below j (suc n) (omega arith) in
    let row : i < m = (row_below_turned j (suc n) m (suc n) (omega (arith, k, within)) (omega arith)).1 in
    ap (λ p. get_or a p 0) (sym is) ∙ sym (row-byte (suc n) a i r few) ∙ ap (λ bytes. get_or bytes r 0) (same i row) ∙ row-byte (suc n) b i r few
    ∙ ap (λ p. get_or b p 0) is

pub rows_give : (n m : ℕ) (a b : List ℕ) → length a ≡ length b → length a ≤ m * n → ((i : ℕ) → i < m → row_at n a i ≡ row_at n b i) → a ≡ b
rows_give n m a b l within same = ext_get_or 0 a b l (rows_give_byte n m a b within same)

-- word k of a row of so many words is that of the bytes at the row's place
pub row-word : (width : ℕ) (bytes : List ℕ) (i k : ℕ) → k < width → word_of_bytes (row_at (8 * width) bytes i) k ≡ word_of_bytes bytes (i * width + k)
row-word width bytes i k l = word-same (drop (8 * k) (row_at (8 * width) bytes i)) (drop (8 * (i * width + k)) bytes)
    (λ r m.
    let place : i * (8 * width) + (8 * k + r) ≡ 8 * (i * width + k) + r = grind arith in
    get_or-drop (8 * k) (row_at (8 * width) bytes i) r 0 ∙ row-byte (8 * width) bytes i (8 * k + r) (omega (arith, l, m))
    ∙ ap (λ p. get_or bytes p 0) place ∙ sym (get_or-drop (8 * (i * width + k)) bytes r 0))

-- the eight bytes of a word, the first of some
abbrev eight : List ℕ → List ℕ
eight xs = get_or xs 0 0 ∷ get_or xs 1 0 ∷ get_or xs 2 0 ∷ get_or xs 3 0 ∷ get_or xs 4 0 ∷ get_or xs 5 0 ∷ get_or xs 6 0 ∷ get_or xs 7 0 ∷ []

eight-at : (xs : List ℕ) (r : ℕ) → r < 8 → get_or (eight xs) r 0 ≡ get_or xs r 0
eight-at xs zero l = refl
eight-at xs (suc zero) l = refl
eight-at xs (suc (suc zero)) l = refl
eight-at xs (suc (suc (suc zero))) l = refl
eight-at xs (suc (suc (suc (suc zero)))) l = refl
eight-at xs (suc (suc (suc (suc (suc zero))))) l = refl
eight-at xs (suc (suc (suc (suc (suc (suc zero)))))) l = refl
eight-at xs (suc (suc (suc (suc (suc (suc (suc zero))))))) l = refl
eight-at xs (suc (suc (suc (suc (suc (suc (suc (suc r)))))))) l = absurd (omega (arith, l))

-- each of the items is that of a byte, also past the end
byte-at : (xs : List ℕ) → All (λ b. b < 256) xs → (i : ℕ) → get_or xs i 0 < 256
byte-at xs h i = elim (cases_lt i (length xs)) [ inl l ↦ h i 0 l | inr l ↦ let e = get_or_past xs i 0 l in omega (arith, e) ]

eight-bytes : (xs : List ℕ) → ((i : ℕ) → get_or xs i 0 < 256) → (i : ℕ) → get_or (eight xs) i 0 < 256
eight-bytes xs h i = elim (cases_lt i 8) [
  | inl l ↦ let e = eight-at xs i l in let b = h i in omega (arith, e, b)
  | inr l ↦ let e = get_or_past (eight xs) i 0 l in omega (arith, e)
]

pub dropped : (xs : List ℕ) → All (λ b. b < 256) xs → (k : ℕ) → (i : ℕ) → get_or (drop (8 * k) xs) i 0 < 256
dropped xs h k i = let e = get_or-drop (8 * k) xs i 0 in let b = byte-at xs h (8 * k + i) in omega (arith, e, b)

-- equal words have equal bytes
word-bytes : (xs ys : List ℕ) → ((i : ℕ) → get_or xs i 0 < 256) → ((i : ℕ) → get_or ys i 0 < 256) → from_le_bytes w64 xs ≡ from_le_bytes w64 ys
    → (r : ℕ) → r < 8 → get_or xs r 0 ≡ get_or ys r 0
word-bytes xs ys p q e r l =
    let one : from_le_bytes w64 xs ≡ from_le_bytes w64 (eight xs) = word-same xs (eight xs) (λ i m. sym (eight-at xs i m)) in
    let two : from_le_bytes w64 ys ≡ from_le_bytes w64 (eight ys) = word-same ys (eight ys) (λ i m. sym (eight-at ys i m)) in
    let left = le_bytes_8 (eight xs) (from_le_bytes w64 xs) refl (eight-bytes xs p) one in
    let right = le_bytes_8 (eight ys) (from_le_bytes w64 ys) refl (eight-bytes ys q) two in
    let same : eight xs ≡ eight ys = sym left ∙ ap (to_le_bytes w64) e ∙ right in
    sym (eight-at xs r l) ∙ ap (λ bytes. get_or bytes r 0) same ∙ eight-at ys r l

-- bytes of which all words are the same are the same
words_give_byte : (n : ℕ) (a b : List ℕ) → All (λ x. x < 256) a → All (λ x. x < 256) b → length a ≤ 8 * n → ((k : ℕ) → k < n → word_of_bytes a k ≡ word_of_bytes b k)
    → (j : ℕ) → j < length a → get_or a j 0 ≡ get_or b j 0
words_give_byte n a b p q within same j l =
    let k = j / 8 in
    let r = j % 8 in
    let is : 8 * k + r ≡ j = omega arith in
    let few : r < 8 = omega arith in
    let whole : k < n = omega (arith, l, within) in
    let bytes = word-bytes (drop (8 * k) a) (drop (8 * k) b) (dropped a p k) (dropped b q k) (same k whole) r few in
    ap (λ i. get_or a i 0) (sym is) ∙ sym (get_or-drop (8 * k) a r 0) ∙ bytes ∙ get_or-drop (8 * k) b r 0 ∙ ap (λ i. get_or b i 0) is

pub words_give : (n : ℕ) (a b : List ℕ) → All (λ x. x < 256) a → All (λ x. x < 256) b → length a ≡ length b → length a ≤ 8 * n → ((k : ℕ) → k < n → word_of_bytes a k ≡ word_of_bytes b k) → a ≡ b
words_give n a b p q l within same = ext_get_or 0 a b l (words_give_byte n a b p q within same)

-- what holds in each place of each row holds everywhere
pub each_place : (n w : ℕ) (f g : ℕ → ℕ) → ((j k : ℕ) → j < n → k < w → f (j * w + k) ≡ g (j * w + k)) → (i : ℕ) → i < n * w → f i ≡ g i
each_place n zero f g h i l = let none : n * 0 ≡ 0 = grind arith in absurd (omega (arith, l, none))
each_place n (suc w) f g h i l =
    let j = i / suc w in
    let k = i % suc w in
    let is : j * suc w + k ≡ i = div-add-mod' i (suc w) in
    ap f (sym is) ∙ h j k (row_below_turned i (suc w) n (suc w) l (omega arith)).1 (mod_below i (suc w) (omega arith)) ∙ ap g is
