-- Parity rows of a block.
use Rattle.std.proofs.Common.{◌≡◌, ◌∙◌, ℕ, ◌+◌, ◌-◌, ◌*◌, ◌<◌, ◌≤◌, ◌^◌, List, length, map, get_or, sym, ap, subst, arith}
use Rattle.std.specs.List.{All, range_with_len}
use Rattle.std.proofs.lemmas.List.{ext_get_or, get_or-map, length-map}
use Rattle.std.proofs.lemmas.List.FromFn.{get_or-range_with_len, length-range_with_len}
use Rattle.std.proofs.lemmas.Nat.{mul-add-lt}
use Rattle.math_fields.specs.declared.goldilocks.F.{F}
use Rattle.math_fields.specs.Elements.{number, same}
use Rattle.systematic_shards.specs.declared.rows.Row.{Row}
use Rattle.systematic_shards.specs.declared.split.Split.{Split}
use Rattle.systematic_shards.specs.Filled.{AreFilled, ArePlaces, AreWithinRoom, row_word}
use Rattle.systematic_shards.specs.Made.{AreSourcesFor, IsCodewordThrough}
use Rattle.systematic_shards.specs.Masks.{IsFree, masked_number}
use Rattle.systematic_shards.specs.Refusals.{AreElements, HaveCodewordOf}
use Rattle.systematic_shards.specs.Shards.{AreBlockRows, AreShards, HaveCodewordThrough, HaveOneCodewordOf, HaveOneEncoding, IsElementIn, element_in, mask_of_row, word_in}
use Rattle.systematic_shards.proofs.Codewords.{codeword, one_codeword}
use Rattle.systematic_shards.proofs.Elements.{element-word, word-fits, word-from_same}
use Rattle.systematic_shards.proofs.OneCodeword.{some_item, through-rows}
use Rattle.systematic_shards.proofs.Ranges.{places-inside, range-distinct, range-rising, ranges-apart, room-for, rows-from_range, rows-to_range}

-- there is room for rows of a where there is room for all of theirs
pub room-filled : (split : Split) (mask size n : ℕ) (a : ℕ → ℕ → F) (indices places : List ℕ) → mask < 2 ^ 32 → size ≡ n * (8 * split.width) → All (λ p. p < n) places
    → AreWithinRoom size split.width places (row_word split mask a indices)
room-filled split mask size n a indices places short is below j k l m =
    room-for size n split.width (get_or places j 0) k (row_word split mask a indices j k) is (below j 0 l) m
    (word-fits split.min mask (get_or indices j 0) (a (get_or indices j 0) k) short)

module _ {M : Type 0} (word : List M → ℕ → ℕ) (split : Split) (mask : ℕ) (short : mask < 2 ^ 32) (block : List M) (rows : List (Row M)) (are : AreBlockRows word split.width block split.min rows) where
  -- the indices of the data rows
  pub block-indices : range_with_len 0 split.min ≡ map (λ row. row.index) rows
  block-indices =
      ext_get_or 0 (range_with_len 0 split.min) (map (λ row. row.index) rows)
      (length-range_with_len 0 split.min ∙ sym (length-map rows (λ row. row.index) ∙ are.count))
      (λ t l.
      let b : t < split.min = omega (arith, l, length-range_with_len 0 split.min) in
      let c : t < length rows = omega (arith, b, are.count) in
      let d : Row M = some_item rows t c in
      let at : get_or (range_with_len 0 split.min) t 0 ≡ t = omega (arith, get_or-range_with_len 0 split.min t 0 b) in
      at ∙ sym (are.index t d b) ∙ sym (get_or-map (λ row. row.index) rows t d 0 c))

  pub block-elements : IsFree (split.min * split.width) (word block) mask → ((k : ℕ) → k < split.min * split.width → word block k < 2 ^ 64) → AreElements word split mask rows
  block-elements free fit t d l k m =
      let b : t < split.min = omega (arith, l, are.count) in
      let inside : t * split.width + k < split.width * split.min = mul-add-lt t split.width k split.min b m in
      let turn : split.width * split.min ≡ split.min * split.width = grind arith in
      let c : t * split.width + k < split.min * split.width = omega (arith, inside, turn) in
      let row : Row M = get_or rows t d in
      subst (λ w. IsElementIn split.min mask row.index w) (sym (are.words t k d b m))
      (fit (t * split.width + k) c, λ _. free (t * split.width + k) c, λ past. absurd (omega (arith, past, b, are.index t d b)))

  -- they are rows of a codeword
  pub block-codeword : IsFree (split.min * split.width) (word block) mask → ((k : ℕ) → k < split.min * split.width → word block k < 2 ^ 64) → HaveCodewordOf word split mask rows
  block-codeword free fit =
      let within : split.min ≤ split.total = split.within in
      through-rows word split mask short rows (range_with_len 0 split.min) block-indices (range-rising 0 split.min split.total (omega (arith, within))) are.count (block-elements free fit)

  -- from which the parity rows are made
  pub block-sources : AreSourcesFor split rows (range_with_len 0 split.min) (range_with_len split.min (split.total - split.min))
  block-sources = record {
    are = block-indices;
    count = are.count;
    rising = range-rising 0 split.min split.total (omega (arith, split.within));
    below = (range-rising split.min (split.total - split.min) split.total (omega (arith, split.within))).1;
    missing = ranges-apart split.min (split.total - split.min);
  }

  -- of which the others are the parity rows
  pub encoded-shards : (targets places : List ℕ) (old new : ℕ → ℕ) → targets ≡ range_with_len split.min (split.total - split.min) → places ≡ range_with_len 0 (length targets)
      → HaveCodewordOf word split mask rows
      → ((a : ℕ → ℕ → F) → IsCodewordThrough word split mask rows a → AreFilled split.width places (row_word split mask a targets) split.width old new) → AreShards split mask (word block) new
  encoded-shards targets places old new targets_are places_are (a, of_code, belong) filled =
      let n : ℕ = split.total - split.min in
      let many : length targets ≡ n = ap length targets_are ∙ length-range_with_len split.min n in
      let held : length places ≡ n = ap length places_are ∙ length-range_with_len 0 (length targets) ∙ many in
      let put = filled a (of_code, belong) in (
        a,
        of_code,
        rows-from_range split mask a 0 split.min (word block) (λ t k l m.
            let c : t < length rows = omega (arith, l, are.count) in
            let d : Row M = some_item rows t c in
            let index : (get_or rows t d).index ≡ 0 + t = omega (arith, are.index t d l) in
            sym (are.words t k d l m) ∙ belong t d c k m ∙ ap (λ i. word_in split.min mask i (a i k)) index),
        rows-from_range split mask a split.min n new (λ t k l m.
            let b : t < length targets = omega (arith, l, many) in
            let place : get_or places t 0 ≡ t = ap (λ xs. get_or xs t 0) places_are ∙ (let e : get_or (range_with_len 0 (length targets)) t 0 ≡ t = omega (arith, get_or-range_with_len 0 (length targets) t 0 b) in e) in
            let index : get_or targets t 0 ≡ split.min + t = ap (λ xs. get_or xs t 0) targets_are ∙ get_or-range_with_len split.min n t 0 l in
            ap (λ p. new (p * split.width + k)) (sym place) ∙ put.written t k (omega (arith, l, held)) m ∙ ap (λ i. word_in split.min mask i (a i k)) index),
      )

-- the parity rows stand one after the other
pub parity-places : (split : Split) → ArePlaces split.width (range_with_len split.min (split.total - split.min)) (range_with_len 0 (split.total - split.min))
parity-places split =
    let n : ℕ = split.total - split.min in
    record {
      count = length-range_with_len 0 n ∙ sym (length-range_with_len split.min n);
      apart = range-distinct 0 n;
      inside = places-inside n split.total split.width (2 ^ 61) (range_with_len 0 n) (range-rising 0 n n (omega arith)).1 (omega arith) (omega (arith, split.all));
    }

-- elements with one word are same
word-once : (least mask i : ℕ) (x y : F) → mask < 2 ^ 32 → word_in least mask i x ≡ word_in least mask i y → same x y
word-once least mask i x y short e = sym (element-word least mask i x short) ∙ ap (λ w. number (element_in least mask i w)) e ∙ element-word least mask i y short

pub one_encoding : HaveOneEncoding
one_encoding split mask block one other short (a, A, data_a, parity_a) (b, B, data_b, parity_b) j k l m =
    let n : ℕ = split.total - split.min in
    let within : split.min ≤ split.total = split.within in
    let rising = range-rising 0 split.min split.total (omega (arith, within)) in
    let agree = λ (t i : ℕ) (c : t < length (range_with_len 0 split.min)) (d : i < split.width).
    let e : t < split.min = omega (arith, c, length-range_with_len 0 split.min) in
    let at : get_or (range_with_len 0 split.min) t 0 ≡ 0 + t = get_or-range_with_len 0 split.min t 0 e in
    ap (λ s. number (a s i)) at
    ∙ word-once split.min mask (0 + t) (a (0 + t) i) (b (0 + t) i) short
    (sym (rows-to_range split mask a 0 split.min block data_a t i e d) ∙ rows-to_range split mask b 0 split.min block data_b t i e d)
    ∙ ap (λ s. number (b s i)) (sym at) in
    let same_cell : same (a (split.min + j) k) (b (split.min + j) k) =
    one_codeword split.min split.total split.width (range_with_len 0 split.min) a b split.short (range-distinct 0 split.min, rising.1) (omega (arith, length-range_with_len 0 split.min)) A B agree (split.min + j) k (omega (arith, l, within)) m in
    rows-to_range split mask a split.min n one parity_a j k l m
    ∙ ap (λ x. masked_number (mask_of_row split.min mask (split.min + j)) x) same_cell
    ∙ sym (rows-to_range split mask b split.min n other parity_b j k l m)

pub one_codeword_of : HaveOneCodewordOf
one_codeword_of split mask indices row a b short are enough A B of_a of_b i k l m =
    let agree = λ (t j : ℕ) (c : t < length indices) (d : j < split.width).
    let at : ℕ = get_or indices t 0 in
    word-once split.min mask at (a at j) (b at j) short (sym (of_a t c j d) ∙ of_b t c j d) in
    let cell : same (a i k) (b i k) = one_codeword split.min split.total split.width indices a b split.short are enough A B agree i k l m in
    ap (λ x. masked_number (mask_of_row split.min mask i) x) cell

pub codeword_through : HaveCodewordThrough
codeword_through split mask indices row short are few elements =
    let (a, of_code, agree) =
    codeword split.min split.total split.width indices (λ t k. element_in split.min mask (get_or indices t 0) (row t k)) (omega (arith, split.some, split.within)) split.short are few in (
      a,
      of_code,
      λ t l k m. let at : ℕ = get_or indices t 0 in word-from_same split.min mask at (row t k) (a at k) short (elements t k l m) (sym (agree t k l m)),
    )
