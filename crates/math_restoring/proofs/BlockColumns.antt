-- Values of columns whose coefficients are sums of multiples, and blocks of rows of which one is added to another.
use Rattle.std.proofs.Common.{◌≡◌, ◌∙◌, ℕ, suc, ◌+◌, ◌-◌, ◌*◌, ◌<◌, ◌≤◌, ◌^◌, List, [], ◌∷◌, ◌++◌, length, take, drop, refl, sym, ap, pow-add, arith}
use Rattle.std.proofs.lemmas.List.{ext_get_or, get_or-drop, get_or-take, get_or_append_left, length-append, length-take-le, length-drop}
use Rattle.std.proofs.lemmas.Nat.{mul-add-lt, mul-le}
use borrow.Rule.Slice.PartMut.{put_mid}
use Rattle.math_theory.proofs.rings.Normal.{ring, ◌⊕◌, ◌⊗◌, 𝟙, v0, v1, v2, v3, v4}
use Rattle.math_theory.proofs.transforms.EvenOddItems.{value-append}
use Rattle.math_fields.specs.declared.goldilocks.F.{F}
use Rattle.math_fields.specs.Elements.{number, product, residue, same, sum}
use Rattle.math_fields.proofs.ElementNumbers.{same_number}
use Rattle.math_transforms.specs.DomainValues.{matrix_of}
use Rattle.math_transforms.proofs.ColumnHalves.{column-halves}
use Rattle.math_transforms.proofs.DomainSteps.{column-cell}
use Rattle.math_transforms.proofs.MatrixRows.{length-column}
use Rattle.math_transforms.proofs.PowersOfTwo.{power_of_two-rises}
use Rattle.math_transforms.proofs.WrittenRows.{part-read, put-before, put-within}
use Rattle.math_restoring.specs.CosetDivisions.{raised}
use Rattle.math_restoring.specs.Restored.{item}
use Rattle.math_restoring.proofs.CombinedColumns.{at, column, columns-equal, combined, combined-item, combined-length, combined-value, nought}
use Rattle.math_values.proofs.ElementRing.{elements}

-- where each coefficient is a sum of multiples, the value is that of the values
at-total : (x u v : F) (p q s : List F) → length q ≡ length p → length s ≡ length p → ((i : ℕ) → i < length p → same (item s i) (sum (product (item p i) u) (product (item q i) v)))
    → at x s ≡ sum (product (at x p) u) (product (at x q) v)
at-total x u v p q s second third sums =
    ap (at x)
    (ext_get_or nought s (combined u v p q) (third ∙ sym (combined-length u v p q second))
    (λ i b. same_number _ _ (sums i (omega (arith, b, third))) ∙ sym (combined-item u v p q i)))
    ∙ combined-value u v x p q

-- where each coefficient is a sum with a multiple, the value is that of the values
pub at-multiple : (x r : F) (p q s : List F) → length q ≡ length p → length s ≡ length p → ((i : ℕ) → i < length p → same (item s i) (sum (item p i) (product (item q i) r)))
    → at x s ≡ sum (at x p) (product (at x q) r)
at-multiple x r p q s second third sums =
    at-total x (residue 1) r p q s second third
    (λ i b. sums i b ∙ ap number (ring elements (item p i ∷ item q i ∷ r ∷ []) (v0 ⊕ (v1 ⊗ v2)) ((v0 ⊗ 𝟙) ⊕ (v1 ⊗ v2)) refl))
    ∙ ring elements (at x p ∷ at x q ∷ r ∷ []) ((v0 ⊗ 𝟙) ⊕ (v1 ⊗ v2)) (v0 ⊕ (v1 ⊗ v2)) refl

-- where each coefficient is a sum, the value is that of the values
pub at-sum : (x : F) (p q s : List F) → length q ≡ length p → length s ≡ length p → ((i : ℕ) → i < length p → same (item s i) (sum (item p i) (item q i))) → at x s ≡ sum (at x p) (at x q)
at-sum x p q s second third sums =
    at-multiple x (residue 1) p q s second third
    (λ i b. sums i b ∙ ap number (ring elements (item p i ∷ item q i ∷ []) (v0 ⊕ v1) (v0 ⊕ (v1 ⊗ 𝟙)) refl))
    ∙ ring elements (at x p ∷ at x q ∷ []) (v0 ⊕ (v1 ⊗ 𝟙)) (v0 ⊕ v1) refl

module _ (a m c k : ℕ) (x step : F) (old new : List F) (l : k < c) (before : (j : ℕ) → j < a * c → item new j ≡ item old j)
    (sums : (j : ℕ) → j < m * c → same (item new (a * c + j)) (sum (item old (a * c + j)) (product (item old (a * c + (m * c + j))) step))) (power : same (raised x m) step) where
  -- the columns of the rows before the two blocks, of the first block and of the second one, and of the sums
  abbrev first : List F
  first = column a c k (take (a * c) old)

  abbrev block : List F
  block = column m c k (take (m * c) (drop (a * c) old))

  abbrev behind : List F
  behind = column m c k (drop (m * c) (drop (a * c) old))

  abbrev added : List F
  added = column m c k (drop (a * c) new)

  place : (i : ℕ) → i < m → i * c + k < m * c
  place i b = let h : i * c + k < c * m = mul-add-lt i c k m b l in omega (arith, h)

  added-item : (i : ℕ) → i < m → same (item added i) (sum (item block i) (product (item behind i) step))
  added-item i b =
      let p = i * c + k in
      rw (
        column-cell nought m c k i (drop (a * c) new) b l,
        get_or-drop (a * c) new p nought,
        column-cell nought m c k i (take (m * c) (drop (a * c) old)) b l,
        get_or-take (m * c) (drop (a * c) old) p nought (place i b),
        get_or-drop (a * c) old p nought,
        column-cell nought m c k i (drop (m * c) (drop (a * c) old)) b l,
        get_or-drop (m * c) (drop (a * c) old) p nought,
        get_or-drop (a * c) old (m * c + p) nought,
      ) (sums p (place i b))

  value-added : at x added ≡ sum (at x block) (product (at x behind) step)
  value-added =
      let long : length block ≡ m = length-column nought (matrix_of m c (take (m * c) (drop (a * c) old))) k in
      at-multiple x step block behind added (length-column nought (matrix_of m c (drop (m * c) (drop (a * c) old))) k ∙ sym long) (length-column nought (matrix_of m c (drop (a * c) new)) k ∙ sym long)
      (λ i b. added-item i (omega (arith, b, long)))

  first-new : column a c k (take (a * c) new) ≡ first
  first-new =
      columns-equal a c k (take (a * c) new) (take (a * c) old) l
      (λ j b. get_or-take (a * c) new j nought b ∙ before j b ∙ sym (get_or-take (a * c) old j nought b))

  value-new : at x (column (a + m) c k new) ≡ sum (at x first) (product (raised x (length first)) (sum (at x block) (product (at x behind) step)))
  value-new =
      ap (at x) (column-halves nought a m c k new ∙ ap (λ p. p ++ added) first-new) ∙ value-append elements x first added
      ∙ ap (λ y. sum (at x first) (product (raised x (length first)) y)) value-added

  value-old : at x (column (a + (m + m)) c k old) ≡ sum (at x first) (product (raised x (length first)) (sum (at x block) (product step (at x behind))))
  value-old =
      let long : length block ≡ m = length-column nought (matrix_of m c (take (m * c) (drop (a * c) old))) k in
      let turn : raised x (length block) ≡ step = ap (raised x) long ∙ same_number (raised x m) step power in
      ap (at x) (column-halves nought a (m + m) c k old ∙ ap (λ p. first ++ p) (column-halves nought m m c k (drop (a * c) old)))
      ∙ value-append elements x first (block ++ behind)
      ∙ ap (λ y. sum (at x first) (product (raised x (length first)) y)) (value-append elements x block behind ∙ ap (λ w. sum (at x block) (product w (at x behind))) turn)

  -- a block of rows, times the step, added to the one before it
  pub block-added : same (at x (column (a + m) c k new)) (at x (column (a + (m + m)) c k old))
  block-added =
      rw (value-new, value-old)
      (ap number (ring elements (at x first ∷ raised x (length first) ∷ at x block ∷ at x behind ∷ step ∷ []) (v0 ⊕ (v1 ⊗ (v2 ⊕ (v3 ⊗ v4)))) (v0 ⊕ (v1 ⊗ (v2 ⊕ (v4 ⊗ v3)))) refl))

-- the last block of those that are left, times the step, added to the one before it, and dropped
pub block-folded : (left n m c k : ℕ) (x step : F) (cells front back sums : List F) → 1 < left → k < c → n ≡ m → same (raised x m) step
    → front ≡ take ((left - 1) * (n * c)) cells → length front ≡ (left - 1) * (n * c) → back ≡ drop ((left - 1) * (n * c)) cells
    → length sums ≡ n * c
    → ((j : ℕ) → j < n * c → same (item sums j) (sum (item (take (length front - (left - 1 - 1) * (n * c)) (drop ((left - 1 - 1) * (n * c)) front)) j) (product (item (take (n * c) back) j) step)))
    → same (at x (column ((left - 1) * m) c k (put_mid ((left - 1 - 1) * (n * c)) (length front - (left - 1 - 1) * (n * c)) front sums ++ back))) (at x (column (left * m) c k cells))
block-folded left n m c k x step cells front back sums some l e power front_is front_long back_is long adds =
    let from = (left - 1 - 1) * (n * c) in
    let size = length front - from in
    let put = put_mid from size front sums in
    let new = put ++ back in
    let next : (left - 1) * (n * c) ≡ from + n * c = let q : left - 1 ≡ suc (left - 1 - 1) = omega arith in ap (λ r. r * (n * c)) q ∙ omega arith in
    let size_is : size ≡ n * c = omega (arith, front_long, next) in
    let within : from + size ≤ length front = omega (arith, front_long, next) in
    let sums_long : length sums ≡ size = long ∙ sym size_is in
    let a = (left - 1 - 1) * m in
    let rows : a * c ≡ from = ap (λ p. (left - 1 - 1) * p * c) (sym e) ∙ grind arith in
    let count : m * c ≡ n * c = ap (λ p. p * c) (sym e) in
    let fewer : (left - 1) * m ≡ a + m = let q : left - 1 ≡ suc (left - 1 - 1) = omega arith in ap (λ r. r * m) q ∙ omega arith in
    let all : left * m ≡ a + (m + m) = let q : left ≡ suc (suc (left - 1 - 1)) = omega arith in ap (λ r. r * m) q ∙ omega arith in
    let put_long : length put ≡ from + n * c =
    length-append (take from front) (sums ++ drop size (drop from front))
    ∙ omega (arith, length-take-le from front (omega (arith, within)), length-append sums (drop size (drop from front)), length-drop size (drop from front), length-drop from front, size_is, sums_long, front_long, next) in
    let front-item : (j : ℕ) → j < from + n * c → item front j ≡ item cells j =
    λ j b. ap (λ xs. item xs j) front_is ∙ get_or-take ((left - 1) * (n * c)) cells j nought (omega (arith, b, next)) in
    let before : (j : ℕ) → j < from → item new j ≡ item cells j =
    λ j b. get_or_append_left put back nought j (omega (arith, b, put_long)) ∙ put-before nought front sums from size within sums_long j b ∙ front-item j (omega (arith, b)) in
    let here : (j : ℕ) → j < n * c → item new (from + j) ≡ item sums j =
    λ j b. get_or_append_left put back nought (from + j) (omega (arith, b, put_long)) ∙ put-within nought front sums from size within sums_long j (omega (arith, b, size_is)) in
    let first : (j : ℕ) → j < n * c → item (take size (drop from front)) j ≡ item cells (from + j) =
    λ j b. part-read nought front from size j (omega (arith, b, size_is)) ∙ front-item (from + j) (omega (arith, b)) in
    let second : (j : ℕ) → j < n * c → item (take (n * c) back) j ≡ item cells (from + (n * c + j)) =
    λ j b. get_or-take (n * c) back j nought b ∙ ap (λ xs. item xs j) back_is ∙ get_or-drop ((left - 1) * (n * c)) cells j nought
    ∙ ap (λ p. item cells p) (let q : (left - 1) * (n * c) + j ≡ from + (n * c + j) = omega (arith, next) in q) in
    rw (fewer, all)
    (block-added a m c k x step cells new l (λ j b. before j (omega (arith, b, rows)))
    (λ j b. let inside : j < n * c = omega (arith, b, count) in
    rw (rows, count, here j inside, ← first j inside, ← second j inside) (adds j inside)) power)

-- all blocks are all rows
pub blocks-all : (lg part : ℕ) → part ≤ lg → 2 ^ (lg - part) * 2 ^ part ≡ 2 ^ lg
blocks-all lg part within = let whole : lg - part + part ≡ lg = omega (arith, within) in sym (pow-add 2 (lg - part) part) ∙ ap (λ p. 2 ^ p) whole

-- some blocks of rows are within all of them
pub blocks-within : (lg part left n c size : ℕ) → part ≤ lg → n ≡ 2 ^ part → left ≤ 2 ^ (lg - part) → size ≡ 2 ^ lg * c → left * (n * c) ≤ size
blocks-within lg part left n c size within e few all =
    let up : left * (n * c) ≤ 2 ^ (lg - part) * (n * c) = mul-le left (n * c) (2 ^ (lg - part)) (n * c) few (omega arith) in
    let same_cells : 2 ^ (lg - part) * (n * c) ≡ 2 ^ lg * c = ap (λ p. 2 ^ (lg - part) * (p * c)) e ∙ grind arith ∙ ap (λ p. p * c) (blocks-all lg part within) in
    omega (arith, up, same_cells, all)

-- fewer rows are within more
pub rows-within : (part lg n c size : ℕ) → part ≤ lg → n ≡ 2 ^ part → size ≡ 2 ^ lg * c → n * c ≤ size
rows-within part lg n c size l e all = let up : 2 ^ part * c ≤ 2 ^ lg * c = mul-le (2 ^ part) c (2 ^ lg) c (power_of_two-rises part lg l) (omega arith) in rw e (omega (arith, up, all))

-- a column reads no cell behind its rows
pub column-taken : (n c k : ℕ) (cells : List F) → k < c → column n c k (take (n * c) cells) ≡ column n c k cells
column-taken n c k cells l = columns-equal n c k (take (n * c) cells) cells l (λ j b. get_or-take (n * c) cells j nought b)

-- nor one that is put behind them
pub column-before : (n c k : ℕ) (cells rest : List F) → k < c → n * c ≤ length cells → column n c k (cells ++ rest) ≡ column n c k cells
column-before n c k cells rest l long = columns-equal n c k (cells ++ rest) cells l (λ j b. get_or_append_left cells rest nought j (omega (arith, b, long)))
