-- Rows of distinct indices whose coefficients are known: how many are distinct, and that the cells are the values of the polynomials.
use Rattle.std.proofs.Common.{◌≡◌, ◌∙◌, ℕ, zero, suc, ◌+◌, ◌*◌, ◌<◌, ◌≤◌, ◌^◌, ◌==◌, ◌||◌, List, [], ◌∷◌, Bool, true, false, length, map, get_or, refl, sym, ap, arith}
use Rattle.std.specs.List.{All, Contains, count_by, flat_map, range_with_len}
use Rattle.std.proofs.lemmas.Bool.{eq-eqb, ne_eqb}
use Rattle.std.proofs.lemmas.List.{get_or-map, get_or_default, length-map}
use Rattle.std.proofs.lemmas.List.Elements.{All-contains, All-head, All-map, All-tail}
use Rattle.std.proofs.lemmas.List.Folds.{list_any_at, list_any_none}
use Rattle.std.proofs.lemmas.List.FromFn.{get_or-range_with_len, length-range_with_len}
use Rattle.std.proofs.lemmas.List.Sums.{sum_by-cons}
use Rattle.math_fields.specs.declared.goldilocks.F.{F}
use Rattle.math_fields.specs.Elements.{number, same}
use Rattle.math_transforms.specs.DomainValues.{matrix_of}
use Rattle.math_transforms.specs.Matrices.{IsOfSize, MatrixOf, column_of}
use Rattle.math_shards.specs.Fitting.{HasValuesOf, distinct_among}
use Rattle.math_restoring.specs.Restored.{AreDistinct, HaveCellsAsValues}
use Rattle.math_splitting.specs.Shards.{value_at_index}
use Rattle.math_shards.specs.Weights.{AreChosen}
use Rattle.math_shards.proofs.PutCoefficients.{column_in}
use Rattle.math_shards.proofs.ChosenRows.{below-kept, cell-at, chosen_among, count-kept, distinct-kept, distinct-most, is_one_of}
use Rattle.math_shards.proofs.CountedIndices.{weight, weight_kept}
use Rattle.math_shards.proofs.OnlyCoefficients.{coefficients_once}
use Rattle.math_splitting.proofs.SameCells.{nought}

-- items that pass a test are fewer than those that pass another, where each that passes the one passes the other, and item k passes the other alone
count-more : {X : Type 0} (p q : X → Bool) (xs : List X) (k : ℕ) (d : X) → k < length xs → ((x : X) → p x ≡ true → q x ≡ true) → p (get_or xs k d) ≡ false → q (get_or xs k d) ≡ true
    → count_by p xs + 1 ≤ count_by q xs
count-more p q [] k d l h f t = absurd (omega (arith, l))
count-more p q (x ∷ xs) zero d l h f t =
    let none : weight (p x) ≡ 0 = ap weight f in
    let one : weight (q x) ≡ 1 = ap weight t in
    omega (arith, sum_by-cons (λ y. weight (p y)) x xs, sum_by-cons (λ y. weight (q y)) x xs, none, one, count-kept p q xs h)
count-more p q (x ∷ xs) (suc k) d l h f t =
    omega (
      arith,
      sum_by-cons (λ y. weight (p y)) x xs,
      sum_by-cons (λ y. weight (q y)) x xs,
      weight_kept (p x) (q x) (h x),
      count-more p q xs k d (omega (arith, l)) h f t,
    )

-- one of some numbers is one of these and a further one
one-of-more : (x : ℕ) (xs : List ℕ) (i : ℕ) → is_one_of xs i ≡ true → is_one_of (x ∷ xs) i ≡ true
one-of-more x xs i there = grind arith

-- of distinct numbers below n as many are distinct as there are
pub distinct-count : (n : ℕ) (numbers : List ℕ) → AreDistinct numbers → All (λ i. i < n) numbers → length numbers ≤ distinct_among n numbers
distinct-count n [] distinct below = omega arith
distinct-count n (x ∷ xs) distinct below =
    let rest : length xs ≤ distinct_among n xs =
    distinct-count n xs (λ i j a b. distinct (suc i) (suc j) (omega (arith, a)) (omega (arith, b))) (All-tail (λ (i : ℕ). i < n) x xs below) in
    let inside : x < n = All-head (λ (i : ℕ). i < n) x xs below in
    let at : get_or (range_with_len 0 n) x 0 ≡ x = get_or-range_with_len 0 n x 0 inside ∙ (let e : 0 + x ≡ x = omega arith in e) in
    let none : is_one_of xs x ≡ false =
    list_any_none (λ (m : ℕ). m == x) xs
    (λ k d b. ne_eqb (get_or xs k d) x (λ e. distinct 0 (suc k) (omega arith) (omega (arith, b)) (sym e ∙ get_or_default xs k d 0 b))) in
    let here : is_one_of (x ∷ xs) x ≡ true = list_any_at (λ (m : ℕ). m == x) (x ∷ xs) 0 0 (omega arith) (eq-eqb x x refl) in
    omega (
      arith,
      rest,
      count-more (is_one_of xs) (is_one_of (x ∷ xs)) (range_with_len 0 n) x 0 (omega (arith, inside, length-range_with_len 0 n)) (one-of-more x xs)
          (ap (is_one_of xs) at ∙ none) (ap (is_one_of (x ∷ xs)) at ∙ here),
    )

-- rows among whose indices are so many distinct ones have so many distinct indices
pub enough_distinct : (min total : ℕ) (indices others : List ℕ) → length indices ≡ min → AreDistinct indices → All (λ i. i < total) indices → All (Contains others) indices
    → min ≤ distinct_among total others
enough_distinct min total indices others many distinct below among = omega (arith, many, distinct-count total indices distinct below, distinct-kept total indices others among)

-- where there are just so many rows, polynomials that have the chosen cells as their values have the cells of each row
pub values_of_rows : {R : Type 0} (index : R → ℕ) (cells : R → List F) (min width lg : ℕ) (rows : List R) (indices : List ℕ) (old new : List F) → length indices ≡ min
    → All (λ row. length (cells row) ≡ width) rows → AreChosen index cells rows indices old → HaveCellsAsValues lg indices width old new → length rows ≡ min
    → All (λ row. HasValuesOf lg (matrix_of min width new) (index row) (cells row)) rows
values_of_rows {R} index cells min width lg rows indices old new many wide chosen have all t d b k l =
    let picked : chosen.picked ≡ rows = chosen.whole (omega (arith, many, all, ap length chosen.keys, length-map chosen.picked index)) in
    let row : R = get_or rows t d in
    let at : get_or indices t 0 ≡ index row = ap (λ xs. get_or xs t 0) (chosen.keys ∙ ap (map index) picked) ∙ get_or-map index rows t d 0 b in
    let cell : get_or old (t * width + k) nought ≡ get_or (cells row) k nought =
    ap (λ xs. get_or xs (t * width + k) nought) (chosen.held ∙ ap (flat_map cells) picked) ∙ cell-at index cells width rows wide t k d b l in
    sym (ap number cell) ∙ sym (have t k (omega (arith, b, all, many)) l) ∙ ap (λ i. number (value_at_index lg (column_in (length indices) width new k) i)) at
    ∙ ap (λ n. number (value_at_index lg (column_in n width new k) (index row))) many

-- polynomials of no more coefficients that have the cells of all rows as their values are those that were found
pub only_of_rows : {R : Type 0} (index : R → ℕ) (cells : R → List F) (min width lg : ℕ) (rows : List R) (indices : List ℕ) (old new : List F) (m : MatrixOf F) → lg ≤ 32 → length indices ≡ min
    → All (λ row. length (cells row) ≡ width) rows → All (λ row. index row < 2 ^ lg) rows → AreChosen index cells rows indices old → length new ≡ min * width
    → HaveCellsAsValues lg indices width old new → IsOfSize m min width → All (λ row. HasValuesOf lg m (index row) (cells row)) rows → new ≡ m.cells
only_of_rows {R} index cells min width lg rows indices old new m small many wide below chosen long have size values =
    coefficients_once lg width indices old new m small chosen.distinct (below-kept index (2 ^ lg) rows indices below (chosen_among index cells rows indices old chosen))
    (long ∙ ap (λ n. n * width) (sym many)) have (size.0 ∙ sym many, size.1, size.2 ∙ ap (λ n. n * width) (sym many))
    (λ t k a b. of_some t k a b chosen.picked refl)
  where
    count : length indices ≡ length chosen.picked
    count = ap length chosen.keys ∙ length-map chosen.picked index

    wide_picked : All (λ row. length (cells row) ≡ width) chosen.picked
    wide_picked i d l = All-contains (λ r. length (cells r) ≡ width) rows (get_or chosen.picked i d) wide (chosen.among i d l)

    of_some : (t k : ℕ) → t < length indices → k < width → (all : List R) → chosen.picked ≡ all
        → same (get_or old (t * width + k) nought) (value_at_index lg (column_of nought m k) (get_or indices t 0))
    of_some t k a b [] e = absurd (omega (arith, a, count, ap length e))
    of_some t k a b (r ∷ rest) e =
        let there : t < length chosen.picked = omega (arith, a, count) in
        let row : R = get_or chosen.picked t r in
        let at : get_or indices t 0 ≡ index row = ap (λ xs. get_or xs t 0) chosen.keys ∙ get_or-map index chosen.picked t r 0 there in
        let cell : get_or old (t * width + k) nought ≡ get_or (cells row) k nought =
        ap (λ xs. get_or xs (t * width + k) nought) chosen.held ∙ cell-at index cells width chosen.picked wide_picked t k r there b in
        ap number cell ∙ All-contains (λ r. HasValuesOf lg m (index r) (cells r)) rows row values (chosen.among t r there) k (omega (arith, b, size.1))
        ∙ ap (λ i. number (value_at_index lg (column_of nought m k) i)) (sym at)

-- where fewer rows are chosen than were wanted, so that the index of each is one of theirs, fewer indices are distinct
pub few_distinct : {R : Type 0} (index : R → ℕ) (min total : ℕ) (rows : List R) (indices : List ℕ) → length indices < min → All (λ row. Contains indices (index row)) rows
    → distinct_among total (map index rows) < min
few_distinct index min total rows indices few all =
    omega (arith, few, distinct-most total indices, distinct-kept total (map index rows) indices (All-map (Contains indices) index rows all))
