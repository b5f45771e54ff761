-- Data of shards of which some are wrong, and polynomials that are corrected from their rows: the ones exactly where the others.
use Rattle.std.proofs.Common.{◌≡◌, ℕ, ◌+◌, ◌*◌, ◌<◌, ◌≤◌, ◌^◌, List, [], ◌∷◌, ◌++◌, Bool, true, false, length, map, get_or, refl, sym, ◌∙◌, ap, ap₂, subst, arith, length-append}
use Rattle.std.specs.Int.{IsNextPowerOfTwo}
use Rattle.std.specs.List.{All, Contains, range_with_len}
use Rattle.std.proofs.lemmas.Bool.{and_parts}
use Rattle.std.proofs.lemmas.List.{get_or_default}
use Rattle.std.proofs.lemmas.List.Elements.{All-contains_itself, All-filter, Contains-append_left, Contains-append_right}
use Rattle.std.proofs.lemmas.List.FromFn.{get_or-map-range_with_len, length-map-range_with_len}
use Rattle.math_theory.specs.Recovery.{count_true}
use Rattle.math_fields.specs.declared.goldilocks.F.{F}
use Rattle.math_fields.specs.Elements.{number, root_of, same, goldilocks}
use Rattle.math_transforms.specs.Matrices.{IsOfSize, MatrixOf, cell_of, column_of}
use Rattle.math_transforms.proofs.PresentIndices.{lg-only}
use Rattle.math_ntt.specs.CorrectedRows.{AreWithinRadius, IsCorrected}
use Rattle.math_ntt.specs.Evaluations.{EvaluationsOf}
use Rattle.math_ntt.proofs.MarkedRows.{inside-true}
use Rattle.math_ntt.proofs.MatrixPlaces.{columns_are_full, columns_hold_cells}
use Rattle.math_splitting.specs.declared.shards.Shard.{Shard}
use Rattle.math_shards.specs.Correcting.{AreSettledRows, CorrectTo, HaveOneCorrection, settled, settled_indices}
use Rattle.math_shards.specs.Joining.{ArePolynomialsOf, IsSound}
use Rattle.math_splitting.specs.Shards.{IsShardOf, JoinTo, distinct_indices, has_index, rows_for, value_at_index, width_for}
use Rattle.math_shards.proofs.CountedIndices.{indices-outside, lost_outside, outside, outside_not_among, is_outside}
use Rattle.math_shards.proofs.FilledShards.{count_filled, count_marks, index_found, index_there, indices_below, no_indices}
use Rattle.math_shards.proofs.OnlyData.{only_data}
use Rattle.math_shards.proofs.RecoveredShards.{cell_of_shard}
use Rattle.math_splitting.proofs.SameCells.{nought}
use Rattle.math_shards.proofs.SettledShards.{settled_sound}
use Rattle.math_values.proofs.ElementValues.{same_values}

-- the settled shards but those of wrong indices are shards of the data
abbrev pub right_of : (words : List ℕ) (shards : List Shard) → CorrectTo words shards → List Shard
right_of words shards c = outside c.wrong (settled shards)

pub right_each : (words : List ℕ) (shards : List Shard) (c : CorrectTo words shards) → All (IsShardOf words c.min c.total) (right_of words shards c)
right_each words shards c k d l =
    let s = get_or (right_of words shards c) k d in
    let there : Contains (settled shards) s =
    All-filter (λ (t : Shard). is_outside c.wrong t.index) (Contains (settled shards)) (settled shards) (All-contains_itself (settled shards)) k d l in
    subst (λ (t : Shard). ¬ (Contains c.wrong t.index) → IsShardOf words c.min c.total t) there.2 (c.right there.0 s there.1) (outside_not_among c.wrong (settled shards) k d l)

-- no shards have no data
pub corrected_of_some : (words : List ℕ) → ¬ (CorrectTo words [])
corrected_of_some words c = omega (arith, c.some, c.enough, no_indices c.total)

-- shards that have data are sound beside the first one, and enough of their indices are settled
pub corrected_beside : (words : List ℕ) (first : Shard) (rest : List Shard) → CorrectTo words (first ∷ rest)
    → (All (IsSound first) (first ∷ rest) × ¬ ⊥) × (first.min ≤ settled_indices first.total (first ∷ rest))
corrected_beside words first rest c =
    let f = c.numbers 0 first (omega arith) in
    let enough : c.min ≤ settled_indices c.total (first ∷ rest) = omega (arith, c.enough) in (
      (
        λ k d l. let s = c.numbers k d l in (
          record {
            least = s.least ∙ sym f.least;
            most = s.most ∙ sym f.most;
            count = s.count ∙ sym f.count;
            some = omega (arith, s.least, c.some);
            within = omega (arith, s.least, s.most, c.within);
          },
          omega (arith, s.index, s.most),
        ),
        λ x. x,
      ),
      omega (arith, enough, f.least, ap (λ n. settled_indices n (first ∷ rest)) f.most),
    )

-- the settled shards but those of two lists of indices, each of which is wrong for one list of data, join to both
joined_outside : (words : List ℕ) (shards : List Shard) (c : CorrectTo words shards) (more : List ℕ) → length c.wrong + length more + c.min ≤ settled_indices c.total shards
    → (numbers : List ℕ) → ((i : ℕ) → ¬ (Contains numbers i) → ¬ (Contains c.wrong i)) → length numbers ≡ length c.wrong + length more → JoinTo words (outside numbers (settled shards))
joined_outside words shards c more enough numbers wider count = record {
  min = c.min;
  total = c.total;
  some = c.some;
  within = c.within;
  short = c.short;
  each_word = c.each_word;
  few = c.few;
  enough = omega (arith, enough, count, lost_outside c.total numbers (settled shards));
  each = λ k d l.
      let s = get_or (outside numbers (settled shards)) k d in
      let there : Contains (settled shards) s =
      All-filter (λ (t : Shard). is_outside numbers t.index) (Contains (settled shards)) (settled shards) (All-contains_itself (settled shards)) k d l in
      subst (λ (t : Shard). ¬ (Contains c.wrong t.index) → IsShardOf words c.min c.total t) there.2 (c.right there.0 s there.1)
      (wider s.index (outside_not_among numbers (settled shards) k d l));
}

-- shards have one list of data at most
pub one_correction : HaveOneCorrection
one_correction words others [] c d = absurd (corrected_of_some words c)
one_correction words others (first ∷ rest) c d =
    let shards = first ∷ rest in
    let f = c.numbers 0 first (omega arith) in
    let g = d.numbers 0 first (omega arith) in
    let least : c.min ≡ d.min = sym f.least ∙ g.least in
    let most : c.total ≡ d.total = sym f.most ∙ g.most in
    let both = c.wrong ++ d.wrong in
    let count : length both ≡ length c.wrong + length d.wrong = length-append c.wrong d.wrong in
    let as_many : settled_indices c.total shards ≡ settled_indices d.total shards = ap (λ n. settled_indices n shards) most in
    only_data words others (outside both (settled shards))
    (joined_outside words shards c d.wrong (omega (arith, c.enough, d.enough, least, as_many)) both (λ i n m. n (Contains-append_left c.wrong d.wrong i m)) count)
    (joined_outside others shards d c.wrong (omega (arith, c.enough, d.enough, least, as_many)) both (λ i n m. n (Contains-append_right c.wrong d.wrong i m)) (omega (arith, count)))

module _ (lg : ℕ) (first : Shard) (shards : List Shard) (e : EvaluationsOf F) (r : AreSettledRows lg first shards e) where
  -- the numbers of the first one are such as shards have
  pub least_is_positive : 1 ≤ first.min
  least_is_positive = let s = r.sound 0 first r.some in omega (arith, s.0.least, s.0.some)

  pub least_is_within : first.min ≤ first.total
  least_is_within = let s = r.sound 0 first r.some in omega (arith, s.0.least, s.0.within, s.0.most)

  -- as many rows are filled as there are settled indices
  pub count_settled : count_true e.filled ≡ settled_indices first.total shards
  count_settled =
      count_filled lg (length first.cells.items) first.total (settled shards) e r.holds (indices_below first (settled shards) (settled_sound first shards r.sound)) r.next.1

  -- the data have the numbers of the first one
  module _ (words : List ℕ) (c : CorrectTo words shards) where
    pub least_of : c.min ≡ first.min
    least_of = sym (c.numbers 0 first r.some).least ∙ (r.sound 0 first r.some).0.least

    pub total_of : c.total ≡ first.total
    total_of = sym (c.numbers 0 first r.some).most ∙ (r.sound 0 first r.some).0.most

    pub each_right : All (IsShardOf words first.min first.total) (right_of words shards c)
    each_right = grind (arith, least_of, total_of, right_each)

    pub width_of : width_for first.min words ≡ length first.cells.items
    width_of = ap (λ n. width_for n words) (sym least_of) ∙ sym (c.numbers 0 first r.some).count ∙ (r.sound 0 first r.some).0.count

    -- and their polynomials are within the radius of the rows
    pub within_radius : AreWithinRadius goldilocks (root_of lg) e first.min (column_of nought (rows_for first.min words))
    within_radius =
        let n = 2 ^ lg in
        let right = right_of words shards c in
        let width = length first.cells.items in
        let marks : List Bool = map (has_index right) (range_with_len 0 n) in
        let long : length marks ≡ n = length-map-range_with_len (has_index right) 0 n in
        let at : (i : ℕ) → get_or marks i false ≡ true → (i < n) × (has_index right i ≡ true) =
        λ i t. let l : i < n = omega (arith, long, inside-true marks i t) in (l, sym (get_or-map-range_with_len (has_index right) 0 n i i false l (omega arith)) ∙ t) in
        let count : count_true marks ≡ distinct_indices first.total right = count_marks n first.total right (λ k d l. (each_right k d l).index) r.next.1 in
        let settled_count : settled_indices c.total shards ≡ settled_indices first.total shards = ap (λ t. settled_indices t shards) total_of in
        record {
          right = marks;
          marks = long ∙ sym r.holds.places;
          among = λ i t. let h = at i t in
              r.holds.marks i h.0 ∙ (and_parts (has_index (settled shards) i) (is_outside c.wrong i) (sym (indices-outside c.wrong (settled shards) i) ∙ h.1)).0;
          few = omega (arith, count_settled, count, c.enough, least_of, settled_count, lost_outside first.total c.wrong (settled shards));
          short = λ k l. omega (arith, columns_are_full (rows_for first.min words) k nought);
          agree = λ i k l t.
              let h = at i t in
              let found = index_found right i h.1 in
              let s = found.1 in
              let of : IsShardOf words first.min first.total s = subst (IsShardOf words first.min first.total) found.3 (each_right found.0 s found.2) in
              let there : Contains (settled shards) s =
              subst (Contains (settled shards)) found.3
              (All-filter (λ (u : Shard). is_outside c.wrong u.index) (Contains (settled shards)) (settled shards) (All-contains_itself (settled shards)) found.0 s found.2) in
              let below : s.index < n = omega (arith, found.4, h.0) in
              let column : k < width = omega (arith, l, r.holds.size.1) in
              subst (λ j. same (value_at_index lg (column_of nought (rows_for first.min words) k) j) (cell_of nought e.matrix j k)) found.4
              (sym (of.values lg k r.next (omega (arith, column, width_of))) ∙ sym (cell_of_shard lg width (settled shards) e r.holds s there.0 there.1 there.2 below k column)
              ∙ ap number (columns_hold_cells e.matrix s.index k nought nought (omega (arith, below, r.holds.size.0)) l));
        }

  module _ (q : MatrixOf F) (wrong : List ℕ) (h : IsCorrected goldilocks (root_of lg) e first.min q wrong) where
    -- there are as many rows as the least domain has points, and as many columns as a shard has cells
    pub rows_are_domain : IsNextPowerOfTwo first.total q.rows
    rows_are_domain = subst (IsNextPowerOfTwo first.total) (sym (h.size.0 ∙ r.holds.size.0)) r.next

    pub size_of_corrected : IsOfSize q q.rows (length first.cells.items)
    size_of_corrected = (refl, h.size.1 ∙ r.holds.size.1, h.size.2 ∙ ap₂ (λ x y. x * y) (sym h.size.0) r.holds.size.1)

    -- where the shards have data, the corrected polynomials are those of the data
    pub corrected_of_data : (words : List ℕ) → CorrectTo words shards → ArePolynomialsOf words first.min q
    corrected_of_data words c =
        let width = width_of words c in (
          h.size.1 ∙ r.holds.size.1 ∙ sym width,
          λ k l i. sym (h.only (column_of nought (rows_for first.min words)) (within_radius words c) k (omega (arith, l, width, r.holds.size.1)) i),
        )

    -- where they are those of data, each shard that stands in a right row is a shard of the data
    shard_of_right_row : (words : List ℕ) → ArePolynomialsOf words first.min q → (at : ℕ) (s : Shard) → at < length (settled shards) → get_or (settled shards) at s ≡ s
        → ¬ (Contains wrong s.index) → IsShardOf words first.min first.total s
    shard_of_right_row words same_as at s l is outside_wrong =
        let sound : IsSound first s = subst (IsSound first) is (settled_sound first shards r.sound at s l) in
        let width : width_for first.min words ≡ length first.cells.items = sym same_as.0 ∙ h.size.1 ∙ r.holds.size.1 in
        let index : s.index < first.total = omega (arith, sound.1, sound.0.most) in
        let below : s.index < 2 ^ lg = omega (arith, index, r.next.1) in
        let filled : get_or e.filled s.index false ≡ true =
        r.holds.marks s.index below ∙ subst (λ (t : Shard). has_index (settled shards) t.index ≡ true) is (index_there (settled shards) at s l) in
        record {
          index = index;
          least = sound.0.least;
          most = sound.0.most;
          count = sound.0.count ∙ sym width;
          values = λ lg' k other b.
              let e_lg : lg ≡ lg' = lg-only first.total lg lg' (omega (arith, index)) r.next other in
              let column : k < length first.cells.items = omega (arith, b, width) in
              let inside : k < e.matrix.cols = omega (arith, column, r.holds.size.1) in
              subst (λ m. same (get_or s.cells.items k nought) (value_at_index m (column_of nought (rows_for first.min words) k) s.index)) e_lg
              (sym (cell_of_shard lg (length first.cells.items) (settled shards) e r.holds s at l is below k column)
              ∙ ap number (columns_hold_cells e.matrix s.index k nought nought (omega (arith, below, r.holds.size.0)) inside)
              ∙ sym (h.rows.agree s.index k inside filled outside_wrong)
              ∙ same_values _ (column_of nought q k) (column_of nought (rows_for first.min words) k) (same_as.1 k b));
        }

    -- and the shards have these data
    pub data_of_corrected : (words : List ℕ) → All (λ word. word < 2 ^ 64) words → length words < 2 ^ 64 → ArePolynomialsOf words first.min q → CorrectTo words shards
    data_of_corrected words each_word few same_as =
        let width : width_for first.min words ≡ length first.cells.items = sym same_as.0 ∙ h.size.1 ∙ r.holds.size.1 in
        record {
          min = first.min;
          total = first.total;
          some = least_is_positive;
          within = least_is_within;
          short = r.short;
          each_word = each_word;
          few = few;
          numbers = λ k d l. let s = r.sound k d l in record { index = omega (arith, s.1, s.0.most); least = s.0.least; most = s.0.most; count = s.0.count ∙ sym width };
          wrong = wrong;
          enough = omega (arith, h.few, count_settled);
          right = λ k d l. let s = get_or (settled shards) k d in shard_of_right_row words same_as k s l (get_or_default (settled shards) k s d l);
        }
