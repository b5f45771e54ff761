-- Columns of rows of words that are written one strip after the other, and the shards that they are in the end.
use Rattle.std.proofs.Common.{◌≡◌, ◌∙◌, inl, inr, ℕ, suc, ◌+◌, ◌-◌, ◌*◌, ◌<◌, ◌≤◌, ◌^◌, List, [], ◌∷◌, ◌++◌, length, length-append, map, take, drop, get_or, refl, sym, ap, ap₂, subst, arith}
use Rattle.std.specs.Global.{Vec}
use Rattle.std.specs.Int.{IsNextPowerOfTwo}
use Rattle.std.specs.List.{All, flat_map, range_with_len}
use Rattle.std.proofs.Math.ListN.{get_or-map}
use Rattle.std.proofs.lemmas.Bool.{cases_lt}
use Rattle.std.proofs.lemmas.List.{ext_get_or, get_or_default, get_or-drop, get_or-take, length-drop, length-map, length-take-le, take-append-drop}
use Rattle.std.proofs.lemmas.List.Elements.{All-map}
use Rattle.std.proofs.lemmas.List.Folds.{flat_map-map}
use Rattle.std.proofs.lemmas.List.FromFn.{get_or-map-range_with_len, length-range_with_len}
use Rattle.std.proofs.lemmas.Nat.{mul-le}
use Rattle.math_fields.specs.declared.goldilocks.F.{F}
use Rattle.math_fields.specs.Elements.{number, same}
use Rattle.math_transforms.specs.DomainValues.{matrix_of}
use Rattle.math_transforms.specs.Matrices.{column_of}
use Rattle.math_transforms.proofs.PresentIndices.{lg-only}
use Rattle.math_transforms.proofs.WrittenRows.{part-read, put-after, put-before, put-within}
use Rattle.math_splitting.specs.declared.shards.Shard.{Shard}
use Rattle.math_splitting.specs.Shards.{IsShardOf, rows_for, value_at_index, width_for}
use Rattle.math_values.proofs.ElementValues.{same_values}
use Rattle.math_splitting.specs.ShardRows.{AreColumnsWritten, AreRowsOfShardsAt, HaveColumns, number_at, strip_element, value_element}
use Rattle.math_splitting.specs.Strips.{HasStripValues, IsStripOf, place_of}
use Rattle.math_splitting.proofs.SameCells.{nought}

-- Row i gets the numbers of c items, from column `from` on.
module _ (width from c i : ℕ) (items : List F) (element : ℕ → ℕ → F) (initial cells : List ℕ) (long : length items ≡ c) (within : from + c ≤ width)
    (inside : i * width + width ≤ length cells) (is : (k : ℕ) → k < c → get_or items k nought ≡ element i k) where
  abbrev pub row : List ℕ
  row = map number items

  abbrev pub new : List ℕ
  new = take (i * width + from) cells ++ (row ++ drop (length items) (drop (i * width + from) cells))

  count : length row ≡ length items
  count = length-map items number

  fits : i * width + from + length items ≤ length cells
  fits = omega (arith, long, within, inside)

  number_of : (k : ℕ) → k < c → get_or row k 0 ≡ number (element i k)
  number_of k l = get_or-map number items k nought ∙ ap number (is k l)

  -- there are as many words as before
  pub size-kept : length new ≡ length cells
  size-kept =
      let n = length items in
      let front : length (take (i * width + from) cells) ≡ i * width + from = length-take-le (i * width + from) cells (omega (arith, fits)) in
      let rest : length (drop n (drop (i * width + from) cells)) ≡ length cells - (i * width + from) - n =
      length-drop n (drop (i * width + from) cells) ∙ ap (λ p. p - n) (length-drop (i * width + from) cells) in
      let both : length (row ++ drop n (drop (i * width + from) cells)) ≡ length row + length (drop n (drop (i * width + from) cells)) = length-append row (drop n (drop (i * width + from) cells)) in
      omega (arith, front, rest, both, count, fits, length-append (take (i * width + from) cells) (row ++ drop n (drop (i * width + from) cells)))

  -- the rows so far, and this one
  pub columns-more : AreColumnsWritten width from c i element initial cells → ((p : ℕ) → i * width ≤ p → get_or cells p 0 ≡ get_or initial p 0)
      → AreColumnsWritten width from c (i + 1) element initial new
  columns-more h left = record {
    written = λ j k a b. elim (cases_lt j i) [
      | inl before ↦
          let up : (j + 1) * width ≤ i * width = mul-le (j + 1) width i width (omega (arith, before)) (omega arith) in
          let next : (j + 1) * width ≡ j * width + width = omega arith in
          put-before 0 cells row (i * width + from) (length items) fits count (j * width + (from + k)) (omega (arith, up, next, b, within)) ∙ h.written j k before b
      | inr o ↦
          let same_row : j ≡ i = omega (arith, a, o) in
          let place : i * width + from + k ≡ i * width + (from + k) = omega arith in
          rw same_row (ap (λ p. get_or new p 0) (sym place) ∙ put-within 0 cells row (i * width + from) (length items) fits count k (omega (arith, b, long)) ∙ number_of k b)
    ];
    kept = λ j k a b. elim (cases_lt j i) [
      | inl before ↦
          let up : (j + 1) * width ≤ i * width = mul-le (j + 1) width i width (omega (arith, before)) (omega arith) in
          let next : (j + 1) * width ≡ j * width + width = omega arith in
          put-before 0 cells row (i * width + from) (length items) fits count (j * width + k) (omega (arith, up, next, b, within)) ∙ h.kept j k before b
      | inr o ↦
          let same_row : j ≡ i = omega (arith, a, o) in
          rw same_row (put-before 0 cells row (i * width + from) (length items) fits count (i * width + k) (omega (arith, b)) ∙ left (i * width + k) (omega arith))
    ];
  }

  -- the rows after it are as they were
  pub left-more : ((p : ℕ) → i * width ≤ p → get_or cells p 0 ≡ get_or initial p 0) → (p : ℕ) → (i + 1) * width ≤ p → get_or new p 0 ≡ get_or initial p 0
  left-more left p l =
      let next : (i + 1) * width ≡ i * width + width = omega arith in
      put-after 0 cells row (i * width + from) (length items) fits count p (omega (arith, next, long, within, l)) ∙ left p (omega (arith, next, l))

-- a row of a strip is the elements that are written
pub strip_row : (lg : ℕ) (indices : List ℕ) (c t m : ℕ) (strip : List F) → m ≡ c → (k : ℕ) → k < c
    → get_or (take m (drop (place_of lg (get_or indices t 0) * c) strip)) k nought ≡ strip_element lg indices c strip t k
strip_row lg indices c t m strip q k l = part-read nought strip (place_of lg (get_or indices t 0) * c) m k (omega (arith, q, l))

-- the elements are the values, at the power of the root that is the index of their row, of the polynomials of c columns from column `from` on
abbrev pub HaveValuesFrom : List ℕ → ℕ → ℕ → ℕ → ℕ → List ℕ → (ℕ → ℕ → F) → Type 0
HaveValuesFrom words min lg from c indices element =
    (t k : ℕ) → t < length indices → k < c → same (element t k) (value_at_index lg (column_of nought (rows_for min words) (from + k)) (get_or indices t 0))

-- the elements of a strip of values are so
pub strip_values : (words : List ℕ) (min lg from c : ℕ) (indices : List ℕ) (strip : List F) → HasStripValues words min lg from c strip → All (λ i. i < 2 ^ lg) indices
    → HaveValuesFrom words min lg from c indices (strip_element lg indices c strip)
strip_values words min lg from c indices strip values below t k a b = values.values (get_or indices t 0) k (below t 0 a) b

-- and the values of the columns of a strip of coefficients
pub product_values : (words : List ℕ) (min lg from c : ℕ) (indices : List ℕ) (strip : List F) → IsStripOf words min min from c strip
    → HaveValuesFrom words min lg from c indices (value_element indices lg (matrix_of min c strip))
product_values words min lg from c indices strip of_data t k a b =
    same_values _ (column_of nought (matrix_of min c strip) k) (column_of nought (rows_for min words) (from + k)) (of_data.columns k b)

-- the columns of one strip more
pub columns_further : (words : List ℕ) (min lg width from c : ℕ) (indices : List ℕ) (element : ℕ → ℕ → F) (old new : List ℕ) → HaveValuesFrom words min lg from c indices element
    → AreColumnsWritten width from c (length indices) element old new → HaveColumns words min lg width indices from old → HaveColumns words min lg width indices (from + c) new
columns_further words min lg width from c indices element old new values h have t k a b =
    elim (cases_lt k from) [
      | inl before ↦ h.kept t k a before ∙ have t k a before
      | inr o ↦
          let q : from + (k - from) ≡ k = omega (arith, o) in
          let inside : k - from < c = omega (arith, b, o) in
          ap (λ p. get_or new (t * width + p) 0) (sym q) ∙ h.written t (k - from) a inside ∙ values t (k - from) a inside ∙ ap (λ p. number_at words min lg (get_or indices t 0) p) q
    ]

-- rows of one width, one after the other
rows_in_order : (g : ℕ → List ℕ) (w : ℕ) → ((i : ℕ) → length (g i) ≡ w) → (indices cells : List ℕ) → length cells ≡ length indices * w
    → ((t k : ℕ) → t < length indices → k < w → get_or cells (t * w + k) 0 ≡ get_or (g (get_or indices t 0)) k 0) → cells ≡ flat_map g indices
rows_in_order g w long [] [] count h = refl
rows_in_order g w long [] (x ∷ cells) count h = absurd (omega (arith, count))
rows_in_order g w long (i ∷ indices) cells count h =
    let n = length indices in
    let more : suc n * w ≡ w + n * w = omega arith in
    let first : length (take w cells) ≡ w = length-take-le w cells (omega (arith, count, more)) in
    let here : take w cells ≡ g i =
    ext_get_or 0 (take w cells) (g i) (first ∙ sym (long i))
    (λ k b. let inside : k < w = omega (arith, b, first) in
    get_or-take w cells k 0 inside ∙ ap (λ p. get_or cells p 0) (let e : k ≡ 0 * w + k = omega arith in e) ∙ h 0 k (omega arith) inside) in
    let rest : drop w cells ≡ flat_map g indices =
    rows_in_order g w long indices (drop w cells) (omega (arith, length-drop w cells, count, more))
    (λ t k b l. let place : w + (t * w + k) ≡ suc t * w + k = omega arith in
    get_or-drop w cells (t * w + k) 0 ∙ ap (λ p. get_or cells p 0) place ∙ h (suc t) k (omega (arith, b)) l) in
    sym (take-append-drop w cells) ∙ ap₂ (λ xs ys. xs ++ ys) here rest

own_items : (indices : List ℕ) (f : ℕ → Shard) → ((i : ℕ) → (f i).index ≡ i) → map (λ (s : Shard). s.index) (map f indices) ≡ indices
own_items [] f h = refl
own_items (i ∷ indices) f h = ap₂ (λ j js. j ∷ js) (h i) (own_items indices f h)

-- Rows that have all columns are the shards of the data. A vector lends its place to those of the shards.
module _ (some : Vec F) (words : List ℕ) (min total lg : ℕ) (short : width_for min words < 2 ^ 63) (next : IsNextPowerOfTwo total (2 ^ lg)) where
  abbrev pub items_at : ℕ → List F
  items_at i = map (λ k. value_at_index lg (column_of nought (rows_for min words) k) i) (range_with_len 0 (width_for min words))

  pub wide : (i : ℕ) → length (items_at i) ≡ width_for min words
  wide i = length-map (range_with_len 0 (width_for min words)) (λ k. value_at_index lg (column_of nought (rows_for min words) k) i) ∙ length-range_with_len 0 (width_for min words)

  item_at : (i k : ℕ) → k < width_for min words → get_or (items_at i) k nought ≡ value_at_index lg (column_of nought (rows_for min words) k) i
  item_at i k l = get_or-map-range_with_len (λ j. value_at_index lg (column_of nought (rows_for min words) j) i) 0 (width_for min words) k k nought l (let e : 0 + k ≡ k = omega arith in e)

  abbrev pub vec_at : ℕ → Vec F
  vec_at i = record { ptr = some.ptr; len = length (items_at i); cap = length (items_at i); alloc = some.alloc; items = items_at i; ok = (refl, omega arith); small = omega (arith, wide i, short) }

  abbrev pub shard_at : ℕ → Shard
  shard_at i = record { index = i; min = min; total = total; cells = vec_at i }

  is_shard : (i : ℕ) → i < total → IsShardOf words min total (shard_at i)
  is_shard i l = record {
    index = l;
    least = refl;
    most = refl;
    count = wide i;
    values = λ other k domain b.
        let once : lg ≡ other = lg-only total lg other (omega (arith, l)) next domain in
        ap number (item_at i k b) ∙ ap (λ p. number (value_at_index p (column_of nought (rows_for min words) k) i)) once;
  }

  pub rows_of_columns : (indices cells : List ℕ) → All (λ i. i < total) indices → length cells ≡ length indices * width_for min words
      → HaveColumns words min lg (width_for min words) indices (width_for min words) cells → AreRowsOfShardsAt words min total indices cells
  rows_of_columns indices cells below count have =
      let numbers_at : ℕ → List ℕ = λ i. map number (items_at i) in
      let rows : cells ≡ flat_map numbers_at indices =
      rows_in_order numbers_at (width_for min words) (λ i. length-map (items_at i) number ∙ wide i) indices cells count
      (λ t k a b. have t k a b ∙ sym (ap number (item_at (get_or indices t 0) k b)) ∙ sym (get_or-map number (items_at (get_or indices t 0)) k nought)) in (
        map shard_at indices,
        record {
          indices = own_items indices shard_at (λ i. refl);
          each = All-map (IsShardOf words min total) shard_at indices (λ t d l. subst (λ i. IsShardOf words min total (shard_at i)) (get_or_default indices t 0 d l) (is_shard (get_or indices t 0) (below t 0 l)));
        },
        rows ∙ sym (flat_map-map (λ (s : Shard). map number s.cells.items) shard_at indices),
      )
