-- Rows that belong to one codeword.
use Rattle.std.proofs.Common.{◌≡◌, ◌∙◌, ℕ, ◌+◌, ◌<◌, ◌≤◌, ◌^◌, List, [], ◌∷◌, length, map, take, drop, get_or, sym, ap, subst, arith}
use Rattle.std.specs.List.{All, Contains}
use Rattle.std.specs.List.Sorted.{IsStrictlyIncreasing}
use Rattle.std.proofs.lemmas.List.{get_or-drop, get_or-map, get_or-take, get_or_default, length-drop, length-map, length-take, length-take-le, take-append-drop, take-map}
use Rattle.std.proofs.lemmas.List.Elements.{All-append}
use Rattle.math_fields.specs.declared.goldilocks.F.{F}
use Rattle.math_fields.specs.Elements.{number, same}
use Rattle.math_restoring.specs.Restored.{item}
use Rattle.systematic_shards.specs.declared.rows.Row.{Row}
use Rattle.systematic_shards.specs.declared.split.Split.{Split}
use Rattle.systematic_shards.specs.Held.{AreIndexed}
use Rattle.systematic_shards.specs.Made.{AreSourcesFor}
use Rattle.systematic_shards.specs.Refusals.{AreElements, HaveCodewordOf}
use Rattle.systematic_shards.specs.Shards.{BelongTo, IsRowOf, column_of_rows}
use Rattle.math_transforms.specs.RootWeights.{AreRising}
use Rattle.row_interpolation.proofs.RisingIndices.{rising-before, rising-distinct}
use Rattle.systematic_shards.proofs.Codewords.{codeword}
use Rattle.systematic_shards.proofs.Elements.{item-column, same-from_word, word-from_same}

-- an item of a list that has one
pub some_item : {X : Type 0} (xs : List X) (t : ℕ) → t < length xs → X
some_item [] t l = absurd (omega (arith, l))
some_item (x ∷ xs) t l = x

-- the first of rising indices rise
pub rising-take : (n total : ℕ) (xs : List ℕ) → n ≤ length xs → AreRising total xs → AreRising total (take n xs)
rising-take n total xs within h = (
  λ k l.
      let b : k + 1 < n = omega (arith, l, length-take-le n xs within) in
      let less : get_or xs k 0 < get_or xs (k + 1) 0 = h.0 k (omega (arith, b, within)) in
      omega (arith, less, get_or-take n xs k 0 (omega (arith, b)), get_or-take n xs (k + 1) 0 b),
  λ k d l.
      let b : k < n = omega (arith, l, length-take-le n xs within) in
      let less : get_or xs k d < total = h.1 k d (omega (arith, b, within)) in
      omega (arith, less, get_or-take n xs k d b),
)

-- what is among the first items of a list is among all
pub contains-take : (n i : ℕ) (xs : List ℕ) → Contains (take n xs) i → Contains xs i
contains-take n i xs (t, l, e) =
    let b : t < n = omega (arith, l, length-take n xs) in
    (t, omega (arith, l, length-take n xs), sym (get_or-take n xs t i b) ∙ e)

-- later items of a rising list are not among the first ones
pub rising-apart : (n m : ℕ) (xs : List ℕ) → IsStrictlyIncreasing xs → All (λ i. ¬ (Contains (take n xs) i)) (take m (drop n xs))
rising-apart n m xs h k d l (t, b, e) =
    let i : ℕ = get_or (take m (drop n xs)) k d in
    let c : t < n = omega (arith, b, length-take n xs) in
    let inside : n + k < length xs = omega (arith, l, length-take m (drop n xs), length-drop n xs) in
    let near : k < m = omega (arith, l, length-take m (drop n xs)) in
    let is : i ≡ get_or xs (n + k) 0 = get_or-take m (drop n xs) k d near ∙ get_or-drop n xs k d ∙ get_or_default xs (n + k) d 0 inside in
    let there : get_or xs t 0 ≡ i = get_or_default xs t 0 i (omega (arith, c, inside)) ∙ sym (get_or-take n xs t i c) ∙ e in
    let less : get_or xs t 0 < get_or xs (n + k) 0 = rising-before xs t (n + k) h (omega (arith, c)) inside in
    omega (arith, less, is, there)

module _ {M : Type 0} (word : List M → ℕ → ℕ) (split : Split) (mask : ℕ) (short : mask < 2 ^ 32) where
  -- the items of a column of rows that belong to a are those of a
  pub items-cells : (rows : List (Row M)) (indices : List ℕ) (a : ℕ → ℕ → F) → indices ≡ map (λ row. row.index) rows → BelongTo word split mask rows a
      → (t k : ℕ) → t < length rows → k < split.width → same (item (column_of_rows word split.min mask rows k) t) (a (get_or indices t 0) k)
  items-cells rows indices a are belong t k l m =
      let d : Row M = some_item rows t l in
      let row : Row M = get_or rows t d in
      let index : row.index ≡ get_or indices t 0 = sym (ap (λ xs. get_or xs t 0) are ∙ get_or-map (λ row. row.index) rows t d 0 l) in
      ap number (item-column word split.min mask rows k t d l)
      ∙ same-from_word split.min mask row.index (word row.cells.now k) (a row.index k) short (belong t d l k m)
      ∙ ap (λ i. number (a i k)) index

  -- through rows of `min` rising indices goes a codeword
  pub through-rows : (rows : List (Row M)) (indices : List ℕ) → indices ≡ map (λ row. row.index) rows → AreRising split.total indices → length rows ≡ split.min
      → AreElements word split mask rows
      → HaveCodewordOf word split mask rows
  through-rows rows indices are rising count elements =
      let many : length indices ≡ length rows = ap length are ∙ length-map rows (λ row. row.index) in
      let (a, of_code, agree) = codeword split.min split.total split.width indices (λ t k. item (column_of_rows word split.min mask rows k) t) (omega (arith, split.some, split.within)) split.short (rising-distinct indices rising.0, rising.1) (omega (arith, many, count)) in (
        a,
        of_code,
        λ t d l k m.
            let row : Row M = get_or rows t d in
            let index : row.index ≡ get_or indices t 0 = sym (ap (λ xs. get_or xs t 0) are ∙ get_or-map (λ row. row.index) rows t d 0 l) in
            word-from_same split.min mask row.index (word row.cells.now k) (a row.index k) short (elements t d l k m)
            (sym (ap number (item-column word split.min mask rows k t d l)) ∙ sym (agree t k (omega (arith, l, many)) m) ∙ ap (λ i. number (a i k)) (sym index)),
      )

  -- so through those from which others are made
  pub through-sources : (rows : List (Row M)) (indices targets : List ℕ) → AreSourcesFor split rows indices targets → AreElements word split mask rows → HaveCodewordOf word split mask rows
  through-sources rows indices targets for elements = through-rows rows indices for.are for.rising for.count elements

  -- rows belong to a codeword where the first n of them do, and the others
  pub belong-parts : (n : ℕ) (rows : List (Row M)) (a : ℕ → ℕ → F) → BelongTo word split mask (take n rows) a → BelongTo word split mask (drop n rows) a → BelongTo word split mask rows a
  belong-parts n rows a first others =
      subst (λ xs. BelongTo word split mask xs a) (take-append-drop n rows)
      (All-append (λ (row : Row M). IsRowOf split mask a row.index (word row.cells.now)) (take n rows) (drop n rows) first others)

-- from the first `min` of rows in hand others can be made
pub first-sources : {M : Type 0} (split : Split) (rows : List (Row M)) (indices targets : List ℕ) → AreIndexed split indices rows → All (λ i. i < split.total) targets
    → All (λ i. ¬ (Contains (take split.min indices) i)) targets → AreSourcesFor split (take split.min rows) (take split.min indices) targets
first-sources split rows indices targets h below missing = record {
  are = ap (take split.min) h.are ∙ take-map (λ row. row.index) split.min rows;
  count = length-take-le split.min rows h.enough;
  rising = rising-take split.min split.total indices (omega (arith, h.enough, ap length h.are ∙ length-map rows (λ row. row.index))) h.rising;
  below = below;
  missing = missing;
}
