-- Shards as words, a shard a row.
use Rattle.std.proofs.Common.{◌≡◌, ◌∙◌, ℕ, zero, suc, ◌+◌, ◌*◌, ◌<◌, ◌≤◌, ◌^◌, ◌⊎◌, ◌==◌, inl, inr, false, List, [], ◌∷◌, ◌++◌, length, map, take, drop, get_or, refl, sym, ap, ap₂, subst, mod-eq_of_lt, arith}
use Rattle.std.specs.Global.{Vec}
use Rattle.std.specs.List.{All, flat_map}
use Rattle.std.proofs.Math.ListN.{get_or-map}
use Rattle.std.proofs.Math.Seq.{take-add}
use Rattle.std.proofs.lemmas.Simd.{map-map}
use Rattle.std.proofs.Math.Nat.{mul-le-mul_right}
use Rattle.std.proofs.lemmas.Bool.{cases_lt, false≢true}
use Rattle.std.proofs.lemmas.List.{drop-drop, length-drop, length-map, length-take, length-take-le, map-append, take_all, take_more, take-append-drop, flat_map_more}
use Rattle.std.proofs.lemmas.List.Elements.{All-cons, All-push, All-take, All-drop}
use Rattle.math_numbers.specs.Goldilocks.{P}
use Rattle.math_fields.specs.declared.goldilocks.F.{F}
use Rattle.math_fields.specs.Elements.{number, residue}
use Rattle.math_transforms.specs.Matrices.{pieces}
use Rattle.math_values.specs.Values.{AreElements, elements}
use Rattle.math_shards.specs.declared.shards.Error.{Error}
use Rattle.math_shards.specs.declared.shards.Error.TheVariants.{TooFew, Mismatch, Index}
use Rattle.math_splitting.specs.declared.shards.Shard.{Shard}
use Rattle.math_shards.specs.Fitting.{DoRowsFit}
use Rattle.math_shards.specs.Joining.{HasUnsound, IsDueOfRows, IsMemory, IsSound, Matches}
use Rattle.math_shards.specs.WordShards.{AreRefused, AreWordShards, DoJoinTo}
use Rattle.math_shards.proofs.DueErrors.{rows_due}
use Rattle.math_shards.proofs.JoinedRows.{due_alike, fit_alike, items_in, join_of_fit, key_of}

-- words below P are the numbers of their elements
pub numbers_of_elements : (words : List ℕ) → AreElements words → map number (elements words) ≡ words
numbers_of_elements [] h = refl
numbers_of_elements (w ∷ words) h = ap₂ (λ x xs. x ∷ xs) (mod-eq_of_lt (h 0 0 (omega arith))) (numbers_of_elements words (λ i d l. h (suc i) d (omega arith)))

abbrev word_row : Shard → List ℕ
word_row s = map number s.cells.items

-- the shards of the rows before row i
pub record AreSoFar (min total : ℕ) (indices cells : List ℕ) (cols i : ℕ) (shards : List Shard) : Type 0 where
  pub keys : map (λ s. s.index) shards ≡ take i indices
  pub least : All (λ s. s.min ≡ min) shards
  pub most : All (λ s. s.total ≡ total) shards
  pub count : All (λ s. length s.cells.items ≡ cols) shards
  pub rows : flat_map word_row shards ≡ take (i * cols) cells

-- the shards of one more, joined
pub flat_map_push : {A : Type 0} (f : Shard → List A) (shards : List Shard) (s : Shard) → flat_map f (shards ++ s ∷ []) ≡ flat_map f shards ++ f s
flat_map_push f shards s = sym (flat_map_more f [] shards s)

-- the shard of one row more
pub shards_more : (min total : ℕ) (indices cells : List ℕ) (cols i : ℕ) (shards : List Shard) (s : Shard) → length cells ≡ length indices * cols → i < length indices → AreElements cells
    → s.index ≡ get_or indices i 0 → s.min ≡ min → s.total ≡ total → s.cells.items ≡ elements (take cols (drop (i * cols) cells))
    → AreSoFar min total indices cells cols i shards → AreSoFar min total indices cells cols (i + 1) (shards ++ s ∷ [])
shards_more min total indices cells cols i shards s count l below index least most row h =
    let up : i + 1 ≤ length indices = omega arith in
    let within : (i + 1) * cols ≤ length indices * cols = mul-le-mul_right cols up in
    let after : i * cols + cols ≤ length indices * cols = omega (arith, within) in
    let long : length s.cells.items ≡ cols =
    ap length row ∙ length-map (take cols (drop (i * cols) cells)) residue ∙ length-take-le cols (drop (i * cols) cells) (omega (arith, after, count, length-drop (i * cols) cells)) in
    let words : word_row s ≡ take cols (drop (i * cols) cells) =
    ap (map number) row ∙ numbers_of_elements (take cols (drop (i * cols) cells)) (All-take (λ w. w < P) cols (drop (i * cols) cells) (All-drop (λ w. w < P) (i * cols) cells below)) in
    let next : i * cols + cols ≡ (i + 1) * cols = omega arith in
    record {
      keys = map-append (λ (t : Shard). t.index) shards (s ∷ []) ∙ ap₂ (λ xs x. xs ++ x ∷ []) h.keys index ∙ sym (take_more indices i 0 l);
      least = All-push (λ (t : Shard). t.min ≡ min) shards s h.least least;
      most = All-push (λ (t : Shard). t.total ≡ total) shards s h.most most;
      count = All-push (λ (t : Shard). length t.cells.items ≡ cols) shards s h.count long;
      rows = flat_map_push word_row shards s ∙ ap₂ (λ xs ys. xs ++ ys) h.rows words ∙ sym (take-add (i * cols) cols cells) ∙ ap (λ n. take n cells) next;
    }

-- the shards of all rows
pub shards_all : (min total : ℕ) (indices cells : List ℕ) (cols i : ℕ) (shards : List Shard) → length cells ≡ length indices * cols → length indices ≤ i
    → AreSoFar min total indices cells cols i shards → i ≡ length indices → AreWordShards min total indices cells shards
shards_all min total indices cells cols i shards count all h e = grind (arith, take_all, length-map)

-- Rows of words as shards: a vector lends its place to those of their cells.
module _ {R : Type 0} (some : Vec R) (min total cols : ℕ) (small : cols < 2 ^ 63) where
  abbrev pub vec_of : List ℕ → Vec F
  vec_of row = record {
    ptr = some.ptr;
    len = length (elements (take cols row));
    cap = length (elements (take cols row));
    alloc = some.alloc;
    items = elements (take cols row);
    ok = (refl, omega arith);
    small = omega (arith, length-map (take cols row) residue, length-take cols row, small);
  }

  abbrev pub shard_of : ℕ → List ℕ → Shard
  shard_of i cells = record { index = i; min = min; total = total; cells = vec_of cells }

  -- the shards of rows of words, one for each index
  abbrev pub word_shards : List ℕ → List ℕ → List Shard
  word_shards [] cells = []
  word_shards (i ∷ indices) cells = shard_of i cells ∷ word_shards indices (drop cols cells)

  keys_of : (indices cells : List ℕ) → map (λ (s : Shard). s.index) (word_shards indices cells) ≡ indices
  keys_of [] cells = refl
  keys_of (i ∷ indices) cells = ap (λ xs. i ∷ xs) (keys_of indices (drop cols cells))

  -- the cells of each are the elements of its row
  pub items_of : (indices cells : List ℕ) → map (λ (s : Shard). s.cells.items) (word_shards indices cells) ≡ map elements (pieces (length indices) cols cells)
  items_of [] cells = refl
  items_of (i ∷ indices) cells = ap (λ xs. elements (take cols cells) ∷ xs) (items_of indices (drop cols cells))

  -- each has these numbers, and as many cells as a row has words
  abbrev IsOfRow : Shard → Type 0
  IsOfRow s = (s.min ≡ min) × (s.total ≡ total) × (length s.cells.items ≡ cols)

  pub each_of : (indices cells : List ℕ) → length cells ≡ length indices * cols → All IsOfRow (word_shards indices cells)
  each_of [] cells e = λ i d l. absurd (omega (arith, l))
  each_of (i ∷ indices) cells e =
      let more : suc (length indices) * cols ≡ cols + length indices * cols = omega arith in
      let long : length (elements (take cols cells)) ≡ cols = length-map (take cols cells) residue ∙ length-take-le cols cells (omega (arith, e, more)) in
      All-cons IsOfRow _ (word_shards indices (drop cols cells)) (refl, refl, long) (each_of indices (drop cols cells) (omega (arith, e, more, length-drop cols cells)))

  rows_of : (indices cells : List ℕ) → length cells ≡ length indices * cols → AreElements cells → flat_map word_row (word_shards indices cells) ≡ cells
  rows_of [] [] e below = refl
  rows_of [] (x ∷ cells) e below = absurd (omega (arith, e))
  rows_of (i ∷ indices) cells e below =
      let more : suc (length indices) * cols ≡ cols + length indices * cols = omega arith in
      ap₂ (λ xs ys. xs ++ ys) (numbers_of_elements (take cols cells) (All-take (λ w. w < P) cols cells below))
      (rows_of indices (drop cols cells) (omega (arith, e, more, length-drop cols cells)) (All-drop (λ w. w < P) cols cells below))
      ∙ take-append-drop cols cells

  -- they are the shards that the words are
  pub are_word_shards : (indices cells : List ℕ) → length cells ≡ length indices * cols → AreElements cells → AreWordShards min total indices cells (word_shards indices cells)
  are_word_shards indices cells e below =
      let shards = word_shards indices cells in
      let many : length shards ≡ length indices = sym (length-map shards (λ (s : Shard). s.index)) ∙ ap length (keys_of indices cells) in
      record {
        keys = keys_of indices cells;
        least = λ k d l. (each_of indices cells e k d l).0;
        most = λ k d l. (each_of indices cells e k d l).1;
        count = λ k d l. e ∙ ap (λ n. n * cols) (sym many) ∙ ap (λ w. length shards * w) (sym (each_of indices cells e k d l).2);
        rows = rows_of indices cells e below;
      }

-- the pieces of one row more
pub pieces-more : (n cols : ℕ) (cells : List ℕ) → pieces (n + 1) cols cells ≡ pieces n cols cells ++ take cols (drop (n * cols) cells) ∷ []
pieces-more zero cols cells = let e : 0 * cols ≡ 0 = omega arith in sym (ap (λ n. take cols (drop n cells) ∷ []) e)
pieces-more (suc n) cols cells =
    let e : cols + n * cols ≡ suc n * cols = omega arith in
    let next : suc n + 1 ≡ suc (n + 1) = omega arith in
    ap (λ m. pieces m cols cells) next
    ∙ ap (λ xs. take cols cells ∷ xs) (pieces-more n cols (drop cols cells))
    ∙ ap (λ xs. take cols cells ∷ (pieces n cols (drop cols cells) ++ take cols xs ∷ [])) (drop-drop (n * cols) cols cells ∙ ap (λ m. drop m cells) e)

-- rows of words, each with its index
pub rows_below : {R : Type 0} (index : R → ℕ) (total : ℕ) (indices : List ℕ) (rows : List R) → map index rows ≡ indices → All (λ n. n < total) indices → All (λ row. index row < total) rows
rows_below index total indices rows keys below = λ k d l.
    let there : k < length indices = omega (arith, l, ap length keys, length-map rows index) in
    subst (λ n. n < total) (ap (λ xs. get_or xs k (index d)) (sym keys) ∙ get_or-map index rows k d) (below k (index d) there)

pieces_wide : (n cols : ℕ) (cells : List ℕ) → length cells ≡ n * cols → All (λ row. length row ≡ cols) (pieces n cols cells)
pieces_wide zero cols cells e = λ k d l. absurd (omega (arith, l))
pieces_wide (suc n) cols cells e =
    let more : suc n * cols ≡ cols + n * cols = omega arith in
    All-cons (λ (row : List ℕ). length row ≡ cols) (take cols cells) (pieces n cols (drop cols cells)) (length-take-le cols cells (omega (arith, e, more)))
    (pieces_wide n cols (drop cols cells) (omega (arith, e, more, length-drop cols cells)))

pub rows_wide : {R : Type 0} (row_words : R → List ℕ) (n cols : ℕ) (cells : List ℕ) (rows : List R) → length cells ≡ n * cols → map row_words rows ≡ pieces n cols cells
    → All (λ row. length (elements (row_words row)) ≡ cols) rows
rows_wide row_words n cols cells rows e words = λ k d l.
    let there : k < length (pieces n cols cells) = omega (arith, l, ap length words, length-map rows row_words) in
    length-map (row_words (get_or rows k d)) residue
    ∙ subst (λ (row : List ℕ). length row ≡ cols) (ap (λ xs. get_or xs k (row_words d)) (sym words) ∙ get_or-map row_words rows k d)
    (pieces_wide n cols cells e k (row_words d) there)

-- Rows of words, each with its index, and the shards that they are.
module _ {R : Type 0} (some : Vec R) (min total cols : ℕ) (small : cols < 2 ^ 63) where
  wide_first : (n : ℕ) (cells : List ℕ) → length cells ≡ suc n * cols → length (elements (take cols cells)) ≡ cols
  wide_first n cells e = grind (arith, length-map, length-take-le)

  -- the shards beside a first one that is as wide as the rows, and has these numbers
  module _ (first : Shard) (least : first.min ≡ min) (most : first.total ≡ total) (wide : length first.cells.items ≡ cols) (some_min : 1 ≤ min) (within : min ≤ total) where
    matches_of : (indices cells : List ℕ) → length cells ≡ length indices * cols → All (Matches first) (word_shards some min total cols small indices cells)
    matches_of indices cells e k d l = grind (arith, each_of)

    -- the first index that is out of range
    first_past : (indices cells : List ℕ) → length cells ≡ length indices * cols → ¬ (All (λ n. n < total) indices)
        → HasUnsound first (λ s. Matches first s × (s.total ≤ s.index)) (word_shards some min total cols small indices cells)
    first_past [] cells e none = absurd (none (λ k d l. absurd (omega (arith, l))))
    first_past (i ∷ indices) cells e none =
        let rest : List Shard = word_shards some min total cols small indices (drop cols cells) in
        let head : Shard = shard_of some min total cols small i cells in
        let fits : Matches first head = record { least = sym least; most = sym most; count = wide_first (length indices) cells e ∙ sym wide; some = some_min; within = within } in
        let more : suc (length indices) * cols ≡ cols + length indices * cols = omega arith in
        elim (cases_lt i total) as (λ _. HasUnsound first (λ s. Matches first s × (s.total ≤ s.index)) (head ∷ rest)) [
          | inl below ↦
              let later = first_past indices (drop cols cells) (omega (arith, e, more, length-drop cols cells))
              (λ all. none (All-cons (λ n. n < total) i indices below all)) in record {
                before = head ∷ later.before;
                found = later.found;
                after = later.after;
                parts = ap (λ xs. head ∷ xs) later.parts;
                sound = All-cons (IsSound first) head later.before (fits, below) later.sound;
                fault = later.fault;
              }
          | inr past ↦ record { before = []; found = head; after = rest; parts = refl; sound = λ k d l. absurd (omega (arith, l)); fault = (fits, past) }
        ]

    sound_of : (indices cells : List ℕ) → length cells ≡ length indices * cols → All (λ n. n < total) indices → All (IsSound first) (word_shards some min total cols small indices cells)
    sound_of indices cells e below k d l =
        let shards : List Shard = word_shards some min total cols small indices cells in
        let many : length shards ≡ length indices = sym (length-map shards key_of) ∙ ap length (keys_of some min total cols small indices cells) in
        let index : (get_or shards k d).index ≡ get_or indices k d.index = sym (get_or-map key_of shards k d) ∙ ap (λ xs. get_or xs k d.index) (keys_of some min total cols small indices cells) in (
          matches_of indices cells e k d l,
          omega (arith, index, below k d.index (omega (arith, l, many)), (each_of some min total cols small indices cells e k d l).1),
        )

  -- numbers that no shards have
  pub refused_numbers : (indices cells : List ℕ) → length cells ≡ length indices * cols → AreElements cells → 0 < length indices → ¬ ((1 ≤ min) × (min ≤ total))
      → AreRefused Mismatch min total indices cells
  refused_numbers [] cells e below there wrong = absurd (omega (arith, there))
  refused_numbers (i ∷ indices) cells e below there wrong = (
    word_shards some min total cols small (i ∷ indices) cells,
    are_word_shards some min total cols small (i ∷ indices) cells e below,
    record {
      before = [];
      found = shard_of some min total cols small i cells;
      after = word_shards some min total cols small indices (drop cols cells);
      parts = refl;
      sound = λ k d l. absurd (omega (arith, l));
      fault = λ m. wrong (m.some, m.within);
    },
  )

  -- an index out of range
  pub refused_index : (indices cells : List ℕ) → length cells ≡ length indices * cols → AreElements cells → 1 ≤ min → min ≤ total → ¬ (All (λ n. n < total) indices)
      → AreRefused Index min total indices cells
  refused_index [] cells e below some_min within none = absurd (none (λ k d l. absurd (omega (arith, l))))
  refused_index (i ∷ indices) cells e below some_min within none = (
    word_shards some min total cols small (i ∷ indices) cells,
    are_word_shards some min total cols small (i ∷ indices) cells e below,
    first_past (shard_of some min total cols small i cells) refl refl (wide_first (length indices) cells e) some_min within (i ∷ indices) cells e none,
  )

  module _ (row_index : R → ℕ) (row_words : R → List ℕ) (indices cells : List ℕ) (rows : List R) (count : length cells ≡ length indices * cols) (below : AreElements cells) (there : 0 < length indices)
      (keys : map row_index rows ≡ indices) (words : map row_words rows ≡ pieces (length indices) cols cells) where
    abbrev shards_of : List Shard
    shards_of = word_shards some min total cols small indices cells

    same_keys : map key_of shards_of ≡ map row_index rows
    same_keys = keys_of some min total cols small indices cells ∙ sym keys

    same_items : map items_in shards_of ≡ map (λ row. elements (row_words row)) rows
    same_items = items_of some min total cols small indices cells ∙ ap (map elements) (sym words) ∙ map-map elements row_words rows

    -- the words that rows of words fit are the data of the shards that they are
    pub join_of_words : (data_words : List ℕ) → DoRowsFit row_index (λ row. elements (row_words row)) data_words min total rows → DoJoinTo data_words min total indices cells
    join_of_words data_words fit = (
      shards_of,
      are_word_shards some min total cols small indices cells count below,
      join_of_fit data_words min total shards_of (λ k d l. (each_of some min total cols small indices cells count k d l).0) (λ k d l. (each_of some min total cols small indices cells count k d l).1)
          (fit_alike row_index (λ row. elements (row_words row)) rows key_of items_in shards_of same_keys same_items data_words min total fit),
    )

  -- what is wrong with rows of words is wrong with the shards that they are
  pub refused_rows : (row_index : R → ℕ) (row_words : R → List ℕ) (indices cells : List ℕ) (rows : List R) (count : length cells ≡ length indices * cols) (below : AreElements cells) (there : 0 < length indices)
      (keys : map row_index rows ≡ indices) (words : map row_words rows ≡ pieces (length indices) cols cells) → 1 ≤ min → min ≤ total → All (λ n. n < total) indices
      → (e : Error) → IsMemory e ⊎ IsDueOfRows row_index (λ row. elements (row_words row)) min total rows e → IsMemory e ⊎ AreRefused e min total indices cells
  refused_rows row_index row_words [] cells rows count below there keys words some_min within inside e due = absurd (omega (arith, there))
  refused_rows row_index row_words (i ∷ indices) cells rows count below there keys words some_min within inside e (inl memory) = inl memory
  refused_rows row_index row_words (i ∷ indices) cells rows count below there keys words some_min within inside e (inr due) =
      let head : Shard = shard_of some min total cols small i cells in
      let shards : List Shard = word_shards some min total cols small (i ∷ indices) cells in
      inr (
        shards,
        are_word_shards some min total cols small (i ∷ indices) cells count below,
        rows_due head shards e (sound_of head refl refl (wide_first (length indices) cells count) some_min within (i ∷ indices) cells count inside) (omega arith)
            (inr (due_alike row_index (λ row. elements (row_words row)) rows key_of items_in shards min total (same_keys row_index row_words (i ∷ indices) cells rows count below there keys words)
            (same_items row_index row_words (i ∷ indices) cells rows count below there keys words) e due)),
      )

-- no index at all
pub refused_none : (min total cols : ℕ) (indices cells : List ℕ) → length cells ≡ length indices * cols → length indices ≡ 0 → AreRefused TooFew min total indices cells
refused_none min total cols [] [] e none = (
  [],
  record { keys = refl; least = λ k d l. absurd (omega (arith, l)); most = λ k d l. absurd (omega (arith, l)); count = λ k d l. absurd (omega (arith, l)); rows = refl },
  tt,
)
refused_none min total cols [] (x ∷ cells) e none = absurd (omega (arith, e))
refused_none min total cols (i ∷ indices) cells e none = absurd (omega (arith, none))

-- a list that is not empty has an item
pub some_item : (xs : List ℕ) → false ≡ (length xs == 0) → 0 < length xs
some_item [] e = absurd (false≢true e)
some_item (x ∷ xs) e = omega arith
