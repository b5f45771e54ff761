-- Rows that fit data, and the shards that they are.
use Rattle.std.proofs.Common.{◌≡◌, ◌∙◌, ℕ, ◌*◌, ◌/◌, ◌<◌, ◌≤◌, ◌==◌, ◌||◌, List, [], ◌∷◌, Bool, length, map, get_or, refl, sym, ap, ap₂, subst, arith}
use Rattle.std.specs.List.{All, AllZip, count_by, list_any, range_with_len}
use Rattle.std.proofs.Math.ListN.{get_or-map}
use Rattle.std.proofs.Math.Nat.{mul-div_cancel_left}
use Rattle.std.proofs.lemmas.List.{get_or_default, length-map}
use Rattle.std.proofs.lemmas.List.Elements.{filter_agree}
use Rattle.std.proofs.lemmas.List.Sums.{length-filter}
use Rattle.math_fields.specs.declared.goldilocks.F.{F}
use Rattle.math_fields.specs.Elements.{number, same}
use Rattle.math_transforms.specs.DomainValues.{matrix_of}
use Rattle.math_transforms.specs.Matrices.{MatrixOf, column_of}
use Rattle.math_shards.specs.declared.shards.Error.{Error}
use Rattle.math_shards.specs.declared.shards.Error.TheVariants.{Memory, TooFew, Mismatch, Index, Conflict, Inconsistent}
use Rattle.math_splitting.specs.declared.shards.Shard.{Shard}
use Rattle.math_splitting.specs.declared.shards.layouts.Layout.{Layout}
use Rattle.math_transforms.proofs.PresentIndices.{lg-only}
use Rattle.math_shards.specs.Fitting.{AreCoefficientsOf, AreDataOf, AreRowsOf, DoRowsFit, HasValuesOf, distinct_among}
use Rattle.math_shards.specs.Joining.{HaveUnequalCells, IsDueOfRows, IsSound}
use Rattle.math_splitting.specs.Shards.{IsShardOf, JoinTo, distinct_indices, has_index, rows_for, value_at_index, width_for}
use Rattle.math_shards.proofs.ChosenRows.{distinct-most}
use Rattle.math_shards.proofs.JoinedShards.{joined_numbers}
use Rattle.math_splitting.proofs.LayoutNumbers.{next_of}
use Rattle.math_splitting.proofs.SameCells.{nought}
use Rattle.math_splitting.proofs.LaidOutData.{rows_are_whole}

-- elements of data are in rows of the width that these need
pub width_of_data : (words : List ℕ) (min width : ℕ) (elements : List F) → 1 ≤ min → length elements ≡ min * width → AreDataOf words min elements → width ≡ width_for min words
width_of_data words min width elements some size h = grind (arith, rows_are_whole, mul-div_cancel_left)

-- and are the cells of the rows that the data fill
pub rows_of_data : (words : List ℕ) (min width : ℕ) (elements : List F) → 1 ≤ min → length elements ≡ min * width → AreDataOf words min elements → matrix_of min width elements ≡ rows_for min words
rows_of_data words min width elements some size h = ap₂ (λ w (xs : List F). matrix_of min w xs) (width_of_data words min width elements some size h) h.packed

-- so cells that are values of the columns of the elements are those of the columns of the rows that the data fill
pub values_of_data : {R : Type 0} (index : R → ℕ) (cells : R → List F) (words : List ℕ) (min width lg : ℕ) (elements : List F) (rows : List R) → 1 ≤ min → length elements ≡ min * width
    → AreDataOf words min elements → All (λ row. HasValuesOf lg (matrix_of min width elements) (index row) (cells row)) rows
    → All (λ row. HasValuesOf lg (rows_for min words) (index row) (cells row)) rows
values_of_data {R} index cells words min width lg elements rows some size h values =
    subst (λ (m : MatrixOf F). All (λ (row : R). HasValuesOf lg m (index row) (cells row)) rows) (rows_of_data words min width elements some size h) values

-- a number is among those of items as it is among the items' numbers
among_map : {X : Type 0} (f : X → ℕ) (xs : List X) (i : ℕ) → list_any (λ j. j == i) (map f xs) ≡ list_any (λ x. f x == i) xs
among_map f [] i = refl
among_map f (x ∷ xs) i = ap (λ b. (f x == i) || b) (among_map f xs i)

-- tests that agree count as many
count_alike : {X : Type 0} (p q : X → Bool) (xs : List X) → ((x : X) → p x ≡ q x) → count_by p xs ≡ count_by q xs
count_alike p q xs h = sym (length-filter p xs) ∙ ap length (filter_agree p q h xs) ∙ length-filter q xs

-- the distinct indices of shards
pub distinct_of_shards : (n : ℕ) (shards : List Shard) → distinct_among n (map (λ (s : Shard). s.index) shards) ≡ distinct_indices n shards
distinct_of_shards n shards =
    count_alike (λ i. list_any (λ j. j == i) (map (λ (s : Shard). s.index) shards)) (has_index shards) (range_with_len 0 n) (among_map (λ (s : Shard). s.index) shards)

-- Rows of two kinds that have the same indices and the same cells, place by place.
module _ {R S : Type 0} (index : R → ℕ) (cells : R → List F) (rows : List R) (index_of : S → ℕ) (cells_of : S → List F) (others : List S)
    (keys : map index_of others ≡ map index rows) (items : map cells_of others ≡ map cells rows) where
  many : length others ≡ length rows
  many = sym (length-map others index_of) ∙ ap length keys ∙ length-map rows index

  index_at : (i : ℕ) (d : S) (r : R) → i < length others → index_of (get_or others i d) ≡ index (get_or rows i r)
  index_at i d r l =
      let there : i < length (map index rows) = omega (arith, l, many, length-map rows index) in
      sym (get_or-map index_of others i d) ∙ ap (λ xs. get_or xs i (index_of d)) keys
      ∙ get_or_default (map index rows) i (index_of d) (index r) there ∙ get_or-map index rows i r

  cells_at : (i : ℕ) (d : S) (r : R) → i < length others → cells_of (get_or others i d) ≡ cells (get_or rows i r)
  cells_at i d r l =
      let there : i < length (map cells rows) = omega (arith, l, many, length-map rows cells) in
      sym (get_or-map cells_of others i d) ∙ ap (λ xs. get_or xs i (cells_of d)) items
      ∙ get_or_default (map cells rows) i (cells_of d) (cells r) there ∙ get_or-map cells rows i r

  -- there is a row where there is one of the others
  pub some_row : (P : Type 0) → 0 < length others → (R → P) → P
  some_row P some f = go rows refl
    where
      go : (all : List R) → rows ≡ all → P
      go [] e = absurd (omega (arith, some, many, ap length e))
      go (r ∷ rest) e = f r

  -- where two of the others are unequal, so are two rows
  pub unequal_alike : HaveUnequalCells index_of cells_of others → HaveUnequalCells index cells rows
  unequal_alike (k, s, l, is, (m, t, b, at, (e, apart))) =
      some_row (HaveUnequalCells index cells rows) (omega (arith, l)) (λ r.
      let u : R = get_or rows k r in
      let v : R = get_or rows m r in
      let here : k < length rows = omega (arith, l, many) in
      let there : m < length rows = omega (arith, b, many) in
      let equal : index v ≡ index u = sym (index_at m t r b) ∙ ap index_of at ∙ e ∙ ap index_of (sym is) ∙ index_at k s r l in (
        k,
        u,
        here,
        get_or_default rows k u r here,
        (
          m,
          v,
          there,
          get_or_default rows m v r there,
          (
            equal,
            λ h. apart (subst (λ xs. AllZip same xs (cells_of s)) (sym (cells_at m t r b) ∙ ap cells_of at)
                (subst (AllZip same (cells v)) (sym (cells_at k s r l) ∙ ap cells_of is) h)),
          ),
        ),
      ))

  -- what the rows fit the others fit
  pub fit_alike : (words : List ℕ) (min total : ℕ) → DoRowsFit index cells words min total rows → DoRowsFit index_of cells_of words min total others
  fit_alike words min total fit = record {
    some = fit.some;
    within = fit.within;
    short = fit.short;
    each_word = fit.each_word;
    few = fit.few;
    enough = subst (λ (xs : List ℕ). min ≤ distinct_among total xs) (sym keys) fit.enough;
    below = λ i d l. some_row (index_of (get_or others i d) < total) (omega (arith, l)) (λ r. omega (arith, index_at i d r l, fit.below i r (omega (arith, l, many))));
    count = λ i d l. some_row (length (cells_of (get_or others i d)) ≡ width_for min words) (omega (arith, l)) (λ r. ap length (cells_at i d r l) ∙ fit.count i r (omega (arith, l, many)));
    values = λ lg next i d l k b. some_row (same (get_or (cells_of (get_or others i d)) k nought) (value_at_index lg (column_of nought (rows_for min words) k) (index_of (get_or others i d)))) (omega (arith, l))
        (λ r.
        ap (λ (xs : List F). number (get_or xs k nought)) (cells_at i d r l) ∙ fit.values lg next i r (omega (arith, l, many)) k b
        ∙ ap (λ n. number (value_at_index lg (column_of nought (rows_for min words) k) n)) (sym (index_at i d r l)));
  }

-- so what is wrong with the ones is wrong with the others
pub due_alike : {R S : Type 0} (index : R → ℕ) (cells : R → List F) (rows : List R) (index_of : S → ℕ) (cells_of : S → List F) (others : List S) (min total : ℕ)
    → map index_of others ≡ map index rows → map cells_of others ≡ map cells rows → (e : Error) → IsDueOfRows index cells min total rows e → IsDueOfRows index_of cells_of min total others e
due_alike index cells rows index_of cells_of others min total keys items (Memory a) due = due
due_alike index cells rows index_of cells_of others min total keys items Mismatch due = due
due_alike index cells rows index_of cells_of others min total keys items Index due = due
due_alike index cells rows index_of cells_of others min total keys items Conflict due = unequal_alike index_of cells_of others index cells rows (sym keys) (sym items) due
due_alike index cells rows index_of cells_of others min total keys items TooFew due = (
  λ u. due.0 (unequal_alike index cells rows index_of cells_of others keys items u),
  subst (λ (xs : List ℕ). distinct_among total xs < min) (sym keys) due.1,
)
due_alike index cells rows index_of cells_of others min total keys items Inconsistent due = (
  λ u. due.0 (unequal_alike index cells rows index_of cells_of others keys items u),
  subst (λ (xs : List ℕ). min ≤ distinct_among total xs) (sym keys) due.1,
  λ words fit. due.2 words (fit_alike index_of cells_of others index cells rows (sym keys) (sym items) words min total fit),
)

-- the index and the cells of a shard
abbrev pub key_of : Shard → ℕ
key_of s = s.index

abbrev pub items_in : Shard → List F
items_in s = s.cells.items

-- shards that fit data, all with their numbers, join to the data
pub join_of_fit : (words : List ℕ) (min total : ℕ) (shards : List Shard) → All (λ s. s.min ≡ min) shards → All (λ s. s.total ≡ total) shards
    → DoRowsFit key_of items_in words min total shards → JoinTo words shards
join_of_fit words min total shards least most fit = record {
  min = min;
  total = total;
  some = fit.some;
  within = fit.within;
  short = fit.short;
  each_word = fit.each_word;
  few = fit.few;
  enough = omega (arith, fit.enough, distinct_of_shards total shards);
  each = λ i d l. record {
    index = fit.below i d l;
    least = least i d l;
    most = most i d l;
    count = fit.count i d l;
    values = λ lg k next b. fit.values lg next i d l k b;
  };
}

-- and shards that join to data fit these, with the numbers of any of them
pub fit_of_join : (words : List ℕ) (first : Shard) (shards : List Shard) → All (IsSound first) shards → 0 < length shards → JoinTo words shards
    → DoRowsFit key_of items_in words first.min first.total shards
fit_of_join words first shards sound there j =
    let of : IsShardOf words j.min j.total (get_or shards 0 first) = j.each 0 first there in
    let numbers = (sound 0 first there).0 in
    let least : j.min ≡ first.min = sym of.least ∙ numbers.least in
    let most : j.total ≡ first.total = sym of.most ∙ numbers.most in
    let each : All (IsShardOf words first.min first.total) shards = joined_numbers words shards j first.min first.total least most in
    record {
      some = omega (arith, j.some, least);
      within = omega (arith, j.within, least, most);
      short = omega (arith, j.short, most);
      each_word = j.each_word;
      few = j.few;
      enough = omega (arith, j.enough, least, ap (λ t. distinct_indices t shards) most, distinct_of_shards first.total shards);
      below = λ i d l. (each i d l).index;
      count = λ i d l. (each i d l).count;
      values = λ lg next i d l k b. (each i d l).values lg k next b;
    }

-- The elements of data that rows fit.
module _ {R : Type 0} (index : R → ℕ) (cells : R → List F) (words : List ℕ) (layout : Layout) (elements : List F) (rows : List R)
    (of : AreCoefficientsOf index cells layout rows elements) (held : AreRowsOf index cells layout rows) (fit : DoRowsFit index cells words layout.min layout.total rows) where
  -- the rows are as wide as those that the data fill
  width_of_fit : layout.width ≡ width_for layout.min words
  width_of_fit = go rows refl
    where
      go : (all : List R) → rows ≡ all → layout.width ≡ width_for layout.min words
      go [] e = absurd (omega (arith, layout.some, fit.enough, distinct-most layout.total (map index rows), length-map rows index, ap length e))
      go (r ∷ rest) e = let there : 0 < length rows = omega (arith, ap length e) in sym (held.count 0 r there) ∙ fit.count 0 r there

  -- so where the coefficients that were found are the only ones, they are the elements of the data
  pub data_of_fit : AreDataOf words layout.min elements
  data_of_fit = record {
    each_word = fit.each_word;
    few = fit.few;
    packed = of.only (rows_for layout.min words) (refl, sym width_of_fit, rows_are_whole layout.min words layout.some ∙ ap (λ w. layout.min * w) (sym width_of_fit)) (fit.values layout.lg (next_of layout));
  }

  -- and the rows have the values of their columns
  pub values_of_fit : All (λ row. HasValuesOf layout.lg (matrix_of layout.min layout.width elements) (index row) (cells row)) rows
  values_of_fit = grind (arith, rows_of_data, data_of_fit, next_of)

-- rows that have the values of the columns of the elements of data fit the data
pub rows_fit : {R : Type 0} (index : R → ℕ) (cells : R → List F) (words : List ℕ) (layout : Layout) (elements : List F) (rows : List R) → AreRowsOf index cells layout rows
    → AreCoefficientsOf index cells layout rows elements → AreDataOf words layout.min elements
    → All (λ row. HasValuesOf layout.lg (matrix_of layout.min layout.width elements) (index row) (cells row)) rows → DoRowsFit index cells words layout.min layout.total rows
rows_fit {R} index cells words layout elements rows held of h values = grind (arith, width_of_data, lg-only, next_of, values_of_data)
