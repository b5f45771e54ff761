-- Rows of distinct indices that are chosen one by one, and how many indices are distinct.
use Rattle.std.proofs.Common.{◌≡◌, ◌∙◌, ◌⊎◌, inl, inr, ℕ, ◌+◌, ◌*◌, ◌<◌, ◌≤◌, ◌==◌, ◌||◌, List, [], ◌∷◌, ◌++◌, Bool, true, false, length, map, take, get_or, refl, sym, ap, ap₂, subst, true≢false, arith}
use Rattle.std.specs.List.{All, Contains, count_by, flat_map, list_any, range_with_len}
use Rattle.std.proofs.Math.Seq.{get_or-append_seam}
use Rattle.std.proofs.Math.Bool.{or-false}
use Rattle.std.proofs.Math.ListN.{set}
use Rattle.std.proofs.lemmas.Bool.{cases_eq, cases_lt, eq-eqb, eqb-true, ne_eqb}
use Rattle.std.proofs.lemmas.Grind.{get_or-set_at}
use Rattle.std.proofs.lemmas.List.{flat_map_more, get_or-map, get_or-set_other, get_or_append_left, get_or_default, length-append, length-map, length-set, length-take-le, length_push, map-append, take_more}
use Rattle.std.proofs.lemmas.List.Concat.{get_or-flat_map}
use Rattle.std.proofs.lemmas.List.Elements.{All-contains, All-head, All-map, All-push, All-tail, All-take, All-weaker, Contains-append_left, Contains-push}
use Rattle.std.proofs.lemmas.List.Folds.{Any-from_list_any, list_any-append, list_any_at}
use Rattle.std.proofs.lemmas.List.Sums.{sum_by-cons, sum_by-le-sum_by}
use Rattle.math_fields.specs.declared.goldilocks.F.{F}
use Rattle.math_restoring.specs.Restored.{AreDistinct}
use Rattle.math_shards.specs.Fitting.{distinct_among}
use Rattle.math_shards.specs.Weights.{AreChosen}
use Rattle.math_splitting.proofs.SameCells.{nought}
use Rattle.math_shards.proofs.CountedIndices.{few_lost, weight, weight_kept}

-- whether the number is one of these
abbrev pub is_one_of : List ℕ → ℕ → Bool
is_one_of numbers x = list_any (λ n. n == x) numbers

-- then it is among them
pub contains-one_of : (numbers : List ℕ) (x : ℕ) → is_one_of numbers x ≡ true → Contains numbers x
contains-one_of numbers x there = grind (arith, Any-from_list_any, get_or_default, eqb-true)

-- with a number that is none of them, distinct numbers are distinct
distinct-push : (numbers : List ℕ) (x : ℕ) → is_one_of numbers x ≡ false → AreDistinct numbers → AreDistinct (numbers ++ x ∷ [])
distinct-push numbers x none h i j before l e = elim (cases_lt j (length numbers)) as (λ _. ⊥) [
  | inl b ↦
      h i j before b (sym (get_or_append_left numbers (x ∷ []) 0 i (omega (arith, before, b))) ∙ e ∙ get_or_append_left numbers (x ∷ []) 0 j b)
  | inr b ↦
      let last : j ≡ length numbers = omega (arith, l, b, length_push numbers x) in
      let inside : i < length numbers = omega (arith, before, last) in
      let is : get_or numbers i 0 ≡ x =
      sym (get_or_append_left numbers (x ∷ []) 0 i inside) ∙ e ∙ ap (λ k. get_or (numbers ++ x ∷ []) k 0) last ∙ get_or-append_seam numbers x [] 0 in
      true≢false (sym (list_any_at (λ n. n == x) numbers i 0 inside (eq-eqb (get_or numbers i 0) x is)) ∙ none)
]

-- there are n points, and those are filled that are among the numbers
pub record AreMarked (n : ℕ) (numbers : List ℕ) (points : List Bool) : Type 0 where
  pub size : length points ≡ n
  pub marks : (i : ℕ) → i < n → get_or points i false ≡ is_one_of numbers i

-- one number more
pub marked-more : (n x : ℕ) (numbers : List ℕ) (points : List Bool) → x < n → AreMarked n numbers points → AreMarked n (numbers ++ x ∷ []) (set points x true)
marked-more n x numbers points l h = grind (arith, length-set, list_any-append, cases_eq, get_or-append_seam, get_or-set_at, list_any_at, length_push, eq-eqb, ne_eqb, get_or-set_other, or-false)

module _ {R : Type 0} (index : R → ℕ) (cells : R → List F) where
  -- a row that is passed over
  chosen-passed : (rows : List R) (row : R) (indices : List ℕ) (found : List F) → AreChosen index cells rows indices found → AreChosen index cells (rows ++ row ∷ []) indices found
  chosen-passed rows row indices found h = grind (arith, length_push, All-weaker, Contains-append_left)

  -- a row that is taken: its index is none of those that are chosen
  chosen-taken : (rows : List R) (row : R) (indices : List ℕ) (found : List F) → is_one_of indices (index row) ≡ false
      → AreChosen index cells rows indices found → AreChosen index cells (rows ++ row ∷ []) (indices ++ index row ∷ []) (found ++ cells row)
  chosen-taken rows row indices found none h = record {
    picked = h.picked ++ row ∷ [];
    few = omega (arith, length_push rows row, length_push h.picked row, h.few);
    among = All-push (Contains (rows ++ row ∷ [])) h.picked row
        (All-weaker (Contains rows) (Contains (rows ++ row ∷ [])) (λ r c. Contains-append_left rows (row ∷ []) r c) h.picked h.among) (Contains-push rows row);
    whole = λ e. ap (λ xs. xs ++ row ∷ []) (h.whole (omega (arith, e, length_push rows row, length_push h.picked row)));
    keys = ap (λ xs. xs ++ index row ∷ []) h.keys ∙ sym (map-append index h.picked (row ∷ []));
    distinct = distinct-push indices (index row) none h.distinct;
    held = ap (λ xs. xs ++ cells row) h.held ∙ flat_map_more cells [] h.picked row;
  }

  -- row i is passed over
  pub chosen-passed_at : (rows : List R) (i : ℕ) (row : R) (indices : List ℕ) (found : List F) → i < length rows → AreChosen index cells (take i rows) indices found
      → AreChosen index cells (take (i + 1) rows) indices found
  chosen-passed_at rows i row indices found l h =
      subst (λ (xs : List R). AreChosen index cells xs indices found) (sym (take_more rows i row l)) (chosen-passed (take i rows) (get_or rows i row) indices found h)

  -- row i is taken
  pub chosen-taken_at : (rows : List R) (i : ℕ) (row : R) (indices : List ℕ) (found : List F) → i < length rows → row ≡ get_or rows i row
      → is_one_of indices (index row) ≡ false → AreChosen index cells (take i rows) indices found
      → AreChosen index cells (take (i + 1) rows) (indices ++ index row ∷ []) (found ++ cells row)
  chosen-taken_at rows i row indices found l is none h =
      let more : take (i + 1) rows ≡ take i rows ++ row ∷ [] = take_more rows i row l ∙ ap (λ (r : R). take i rows ++ r ∷ []) (sym is) in
      subst (λ (xs : List R). AreChosen index cells xs (indices ++ index row ∷ []) (found ++ cells row)) (sym more) (chosen-taken (take i rows) row indices found none h)

  -- where few are chosen, the indices of the first rows are among them, and with one that is, or that comes to them, those of one row more
  pub all-more : (rows : List R) (i : ℕ) (row : R) (indices more : List ℕ) → i < length rows → row ≡ get_or rows i row → All (λ r. Contains indices (index r)) (take i rows)
      → ((x : ℕ) → Contains indices x → Contains more x) → Contains more (index row) → All (λ r. Contains more (index r)) (take (i + 1) rows)
  all-more rows i row indices more l is before kept here =
      subst (All (λ r. Contains more (index r))) (sym (take_more rows i row l ∙ ap (λ (r : R). take i rows ++ r ∷ []) (sym is)))
      (All-push (λ r. Contains more (index r)) (take i rows) row (All-weaker (λ r. Contains indices (index r)) (λ r. Contains more (index r)) (λ r. kept (index r)) (take i rows) before) here)

  -- the indices that are chosen are those of rows
  pub chosen_among : (rows : List R) (indices : List ℕ) (found : List F) → AreChosen index cells rows indices found → All (Contains (map index rows)) indices
  chosen_among rows indices found h =
      subst (All (Contains (map index rows))) (sym h.keys)
      (All-map (Contains (map index rows)) index h.picked
      (All-weaker (Contains rows) (λ r. Contains (map index rows) (index r))
      (λ r c. (c.0, omega (arith, c.1, length-map rows index), get_or-map index rows c.0 r (index r) c.1 ∙ ap index (get_or_default rows c.0 r r c.1 ∙ c.2))) h.picked h.among))

module _ {R : Type 0} (index : R → ℕ) (cells : R → List F) (width : ℕ) where
  -- rows of one width have as many cells
  cells-count : (rows : List R) → All (λ row. length (cells row) ≡ width) rows → length (flat_map cells rows) ≡ length rows * width
  cells-count [] h = omega arith
  cells-count (row ∷ rows) h =
      let n = length rows in
      let one_more : width + n * width ≡ (n + 1) * width = omega arith in
      let count : n + 1 ≡ length (row ∷ rows) = omega arith in
      length-append (cells row) (flat_map cells rows)
      ∙ ap₂ (λ (a b : ℕ). a + b) (All-head (λ r. length (cells r) ≡ width) row rows h) (cells-count rows (All-tail (λ r. length (cells r) ≡ width) row rows h))
      ∙ one_more ∙ ap (λ m. m * width) count

  -- cell k of row i stands at place k of the row
  pub cell-at : (rows : List R) → All (λ row. length (cells row) ≡ width) rows → (i k : ℕ) (d : R) → i < length rows → k < width
      → get_or (flat_map cells rows) (i * width + k) nought ≡ get_or (cells (get_or rows i d)) k nought
  cell-at rows wide i k d l b =
      let before : length (flat_map cells (take i rows)) ≡ i * width =
      cells-count (take i rows) (All-take (λ r. length (cells r) ≡ width) i rows wide) ∙ ap (λ m. m * width) (length-take-le i rows (omega (arith, l))) in
      ap (λ m. get_or (flat_map cells rows) (m + k) nought) (sym before) ∙ get_or-flat_map cells rows i k d nought l (omega (arith, b, wide i d l))

  -- as many cells are found as the indices say
  pub chosen_count : (rows : List R) (indices : List ℕ) (found : List F) → All (λ row. length (cells row) ≡ width) rows → AreChosen index cells rows indices found
      → length found ≡ length indices * width
  chosen_count rows indices found wide h =
      ap length h.held ∙ cells-count h.picked (λ k d l. All-contains (λ r. length (cells r) ≡ width) rows (get_or h.picked k d) wide (h.among k d l))
      ∙ ap (λ n. n * width) (sym (ap length h.keys ∙ length-map h.picked index))

-- items that pass a test are no more than those that pass another, where each that passes the one passes the other
pub count-kept : {X : Type 0} (p q : X → Bool) (xs : List X) → ((x : X) → p x ≡ true → q x ≡ true) → count_by p xs ≤ count_by q xs
count-kept p q xs h = sum_by-le-sum_by (λ x. weight (p x)) (λ x. weight (q x)) xs (λ x. weight_kept (p x) (q x) (h x))

-- where all of some numbers are among others, no more of them are distinct
pub distinct-kept : (n : ℕ) (numbers others : List ℕ) → All (Contains others) numbers → distinct_among n numbers ≤ distinct_among n others
distinct-kept n numbers others h =
    count-kept (is_one_of numbers) (is_one_of others) (range_with_len 0 n)
    (λ i there.
    let found = Any-from_list_any (λ (m : ℕ). m == i) numbers there in
    let at : Contains others found.1 = subst (Contains others) found.3 (h found.0 found.1 found.2) in
    list_any_at (λ (m : ℕ). m == i) others at.0 i at.1
    (eq-eqb (get_or others at.0 i) i (get_or_default others at.0 i found.1 at.1 ∙ at.2 ∙ eqb-true found.1 i found.4)))

-- no more numbers are distinct than there are
pub distinct-most : (n : ℕ) (numbers : List ℕ) → distinct_among n numbers ≤ length numbers
distinct-most n [] = omega (arith, distinct-none n)
  where
    none_counted : (xs : List ℕ) → count_by (λ _. false) xs ≡ 0
    none_counted [] = refl
    none_counted (x ∷ xs) = omega (arith, sum_by-cons (λ _. weight false) x xs, none_counted xs)

    distinct-none : (n : ℕ) → distinct_among n [] ≡ 0
    distinct-none n = none_counted (range_with_len 0 n)
distinct-most n (x ∷ xs) =
    let one : distinct_among n (x ∷ xs) ≤ distinct_among n xs + 1 =
    (few_lost n x (is_one_of (x ∷ xs)) (is_one_of xs) (λ i there.
    elim (cases_eq x i) as (λ _. (is_one_of xs i ≡ true) ⊎ (x ≡ i)) [
      | inl here ↦ inr here
      | inr other ↦ inl (sym (ap (λ b. b || is_one_of xs i) (ne_eqb x i other)) ∙ there)
    ])).1 in
    omega (arith, one, distinct-most n xs)

-- numbers that are among others are below what these are below
pub below-kept : {R : Type 0} (index : R → ℕ) (n : ℕ) (rows : List R) (numbers : List ℕ) → All (λ row. index row < n) rows → All (Contains (map index rows)) numbers → All (λ i. i < n) numbers
below-kept index n rows numbers below among k d l = All-contains (λ i. i < n) (map index rows) (get_or numbers k d) (All-map (λ i. i < n) index rows below) (among k d l)
