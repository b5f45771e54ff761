-- Sums by weights are values of the polynomials through columns.
use Rattle.std.proofs.Common.{◌≡◌, ◌∙◌, inl, inr, ℕ, ◌+◌, ◌-◌, ◌*◌, ◌<◌, ◌≤◌, ◌^◌, List, ◌++◌, length, map, take, drop, get_or, sym, ap, subst, arith}
use Rattle.std.specs.Int.{IsNextPowerOfTwo}
use Rattle.std.specs.List.{range_with_len}
use Rattle.std.proofs.Math.Seq.{drop-append_seam}
use Rattle.std.proofs.lemmas.Bool.{cases_lt}
use Rattle.std.proofs.lemmas.List.{drop-append-le, ext_get_or, get_or-map, length-append, length-drop, length-map, length-take-le, take-append-le, take_all}
use Rattle.std.proofs.lemmas.List.FromFn.{get_or-map-range_with_len, length-map-range_with_len}
use Rattle.std.proofs.lemmas.Nat.{row_fits}
use Rattle.math_theory.specs.Sums.{weighted_sum}
use Rattle.math_fields.specs.declared.goldilocks.F.{F}
use Rattle.math_fields.specs.Elements.{number, residue, sum, product, root_of, goldilocks}
use Rattle.math_base.specs.Polynomials.{value_in_ring}
use Rattle.math_fields.proofs.ElementNumbers.{same_number}
use Rattle.math_restoring.specs.Restored.{item}
use Rattle.math_transforms.specs.RootWeights.{powers_at}
use Rattle.math_transforms.proofs.WrittenRows.{part-read}
use Rattle.row_interpolation.specs.RowValues.{AreMade, IsValueThrough}
use Rattle.row_interpolation.specs.Sums.{AreGathered, AreRead, AreRowSums, AreSums}
use Rattle.row_interpolation.specs.Weights.{AreWeightRows, AreWeightsFor, part_of}
use Rattle.row_interpolation.proofs.IndexPoints.{point}

-- there are as many weights as indices
pub weights-count : (lg index : ℕ) (indices : List ℕ) (weights : List F) → AreWeightsFor lg indices index weights → length weights ≡ length indices
weights-count lg index indices weights W = sym W.lengths ∙ length-map indices (point lg)

-- the sum of a column by the weights for an index is the value at the index
pub sum-value : (lg index : ℕ) (indices : List ℕ) (column weights : List F) → length column ≡ length indices → AreWeightsFor lg indices index weights
    → IsValueThrough lg indices (item column) index (weighted_sum (residue 0) sum product column weights)
sum-value lg index indices column weights size W p through =
    let points = powers_at goldilocks (root_of lg) indices in
    let value_of : F → F = λ x. value_in_ring goldilocks p x in
    let held : length points ≡ length indices = length-map indices (point lg) in
    let is : column ≡ map value_of points =
    ext_get_or (residue 0) column (map value_of points) (size ∙ sym held ∙ sym (length-map points value_of))
    (λ t b.
    let c : t < length indices = omega (arith, b, size) in
    same_number _ _ (through.values t c)
    ∙ ap value_of (sym (get_or-map (point lg) indices t 0 (residue 0) c))
    ∙ sym (get_or-map value_of points t (residue 0) (residue 0) (omega (arith, c, held)))) in
    ap number (ap (λ xs. weighted_sum (residue 0) sum product xs weights) is)
    ∙ W.give p (omega (arith, through.few, held))

-- no row of weights so far
pub weights-none : (total : ℕ) (indices wanted : List ℕ) (weights : List F) → length weights ≡ 0 → AreWeightRows total indices wanted 0 weights
weights-none total indices wanted weights none = record { size = omega (arith, none); each = λ lg j next b. absurd (omega (arith, b)) }

-- one row of weights more
pub weights-more : (total least n : ℕ) (indices wanted : List ℕ) (weights row : List F) → IsNextPowerOfTwo total (2 ^ least)
    → ((lg : ℕ) → IsNextPowerOfTwo total (2 ^ lg) → AreWeightsFor lg indices (get_or wanted n 0) row)
    → AreWeightRows total indices wanted n weights → AreWeightRows total indices wanted (n + 1) (weights ++ row)
weights-more total least n indices wanted weights row domain W h =
    let m : ℕ = length indices in
    let count : length row ≡ m = weights-count least (get_or wanted n 0) indices row (W least domain) in
    let turn : (n + 1) * m ≡ n * m + m = grind arith in
    record {
      size = omega (arith, length-append weights row, count, h.size, turn);
      each = λ lg j next b.
          elim (cases_lt j n) as (λ _. AreWeightsFor lg indices (get_or wanted j 0) (take m (drop (j * m) (weights ++ row)))) [
            | inl before ↦
                let fits : j * m + m ≤ length weights = omega (arith, row_fits j m n m before (omega arith), h.size) in
                subst (AreWeightsFor lg indices (get_or wanted j 0))
                (sym (ap (take m) (drop-append-le (j * m) weights row (omega (arith, fits)))
                ∙ take-append-le m (drop (j * m) weights) row (omega (arith, fits, length-drop (j * m) weights))))
                (h.each lg j next before)
            | inr after ↦
                let is : n ≡ j = omega (arith, after, b) in
                subst (λ i. AreWeightsFor lg indices (get_or wanted i 0) (take m (drop (i * m) (weights ++ row)))) is
                (subst (AreWeightsFor lg indices (get_or wanted n 0))
                (sym (ap (λ k. take m (drop k (weights ++ row))) (sym h.size) ∙ ap (take m) (drop-append_seam weights row) ∙ take_all m row (omega (arith, count))))
                (W lg next))
          ];
    }

-- from place j * n to place (j + 1) * n there are n
pub turn : (j n : ℕ) → (j + 1) * n - j * n ≡ n
turn j n = grind arith

-- a part of n items has n
pub length-part : (n i count : ℕ) (items : List F) → i < count → count * n ≤ length items → length (part_of n items i) ≡ n
length-part n i count items l room = length-take-le n (drop (i * n) items) (omega (arith, row_fits i n count n l (omega arith), room, length-drop (i * n) items))

-- the part of the room for a target
pub part-long : (cols j m q : ℕ) (out : List F) → q ≡ cols → j < m → m * cols ≤ length out → length (take q (drop (j * cols) out)) ≡ q
part-long cols j m q out e l room = length-take-le q (drop (j * cols) out) (omega (arith, e, row_fits j cols m cols l (omega arith), room, length-drop (j * cols) out))

-- its weights
pub row_at : (n k j m : ℕ) (weights : List F) → k ≡ n → j < m → length weights ≡ m * n
    → (take ((j + 1) * k - j * k) (drop (j * k) weights) ≡ part_of n weights j) × (length (take ((j + 1) * k - j * k) (drop (j * k) weights)) ≡ n)
row_at n k j m weights many l size =
    let are : take ((j + 1) * k - j * k) (drop (j * k) weights) ≡ part_of n weights j = ap (λ i. take i (drop (j * k) weights)) (turn j k) ∙ ap (λ i. part_of i weights j) many in
    (are, ap length are ∙ length-part n j m weights l (omega (arith, size)))

-- sums of gathered columns by weights are values of the polynomials through these
pub made-by_weights : (element : ℕ → ℕ → F) (total from cols n : ℕ) (indices targets : List ℕ) (weights columns out : List F) → n ≡ length indices
    → AreWeightRows total indices targets (length targets) weights → cols * n ≤ length columns → AreGathered element n from cols n columns
    → AreSums n cols columns weights (length targets) out → AreMade element total indices targets from cols out
made-by_weights element total from cols n indices targets weights columns out many W room gathered sums lg next j c l m p through =
    let column : List F = part_of n columns c in
    let target : ℕ = get_or targets j 0 in
    let row : List F = part_of (length indices) weights j in
    let is : item out (j * cols + c) ≡ weighted_sum (residue 0) sum product column row =
    sums j c l m ∙ ap (λ i. weighted_sum (residue 0) sum product column (part_of i weights j)) many in
    ap number is
    ∙ sum-value lg target indices column row (length-part n c cols columns m room ∙ many) (W.each lg j next l) p
    (record {
      few = through.few;
      values = λ t b. let d : t < n = omega (arith, b, many) in ap number (part-read (residue 0) columns (c * n) n t d ∙ gathered c t m d) ∙ through.values t b;
    })

-- and so are sums of the columns of rows that are read
pub made-by_rows : (element : ℕ → ℕ → F) (total from cols n : ℕ) (indices targets : List ℕ) (weights strip out : List F) → n ≡ length indices
    → AreWeightRows total indices targets (length targets) weights → AreRead element from cols n strip → AreRowSums n cols strip weights (length targets) out
    → AreMade element total indices targets from cols out
made-by_rows element total from cols n indices targets weights strip out many W read sums lg next j c l m p through =
    let cell : ℕ → F = λ t. item strip (t * cols + c) in
    let column : List F = map cell (range_with_len 0 n) in
    let long : length column ≡ n = length-map-range_with_len cell 0 n in
    let at : (t : ℕ) → t < n → item column t ≡ cell t = λ t b. get_or-map-range_with_len cell 0 n t t (residue 0) b (omega arith) in
    ap number (sums j c l m column long (λ t b. at t (omega (arith, b, long))) ∙ ap (λ i. weighted_sum (residue 0) sum product column (part_of i weights j)) many)
    ∙ sum-value lg (get_or targets j 0) indices column (part_of (length indices) weights j) (long ∙ many) (W.each lg j next l) p
    (record {
      few = through.few;
      values = λ t b. let d : t < n = omega (arith, b, many) in ap number (at t d ∙ read t c d m) ∙ through.values t b;
    })
