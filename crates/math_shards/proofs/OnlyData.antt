-- Shards join to one list of data at most.
use Rattle.std.proofs.Common.{◌≡◌, ℕ, ◌*◌, ◌<◌, ◌≤◌, ◌^◌, List, [], ◌∷◌, ◌++◌, Bool, false, length, map, take, drop, get_or, refl, sym, ◌∙◌, ap, ap₂, subst, arith}
use Rattle.std.proofs.Math.Seq.{take-append_seam}
use Rattle.std.specs.Int.{IsNextPowerOfTwo}
use Rattle.std.specs.List.{All, range_with_len}
use Rattle.std.proofs.lemmas.List.{take_all}
use Rattle.std.proofs.lemmas.List.Elements.{All-head, All-weaker}
use Rattle.std.proofs.lemmas.List.FromFn.{get_or-map-range_with_len, length-map-range_with_len}
use Rattle.math_theory.specs.Recovery.{count_true}
use Rattle.math_fields.specs.declared.goldilocks.F.{F}
use Rattle.math_fields.specs.Elements.{number, same}
use Rattle.math_fields.specs.Packing.{words_of}
use Rattle.math_ntt.specs.MatrixPlaces.{IsFull}
use Rattle.math_transforms.specs.Matrices.{column_of}
use Rattle.math_ntt.specs.PolynomialRows.{HaveSamePolynomials}
use Rattle.math_ntt.proofs.MatrixPlaces.{columns_are_full}
use Rattle.math_splitting.specs.declared.shards.Shard.{Shard}
use Rattle.math_splitting.specs.Shards.{IsShardOf, JoinTo, counted, distinct_indices, has_index, rows_for, value_at_index, width_for}
use Rattle.math_shards.proofs.FilledShards.{count_marks}
use Rattle.math_shards.proofs.JoinedShards.{joined_first, joined_numbers, joined_some}
use Rattle.math_splitting.proofs.LeastDomains.{domain_of}
use Rattle.math_shards.proofs.PackedData.{data_stand}
use Rattle.math_shards.proofs.RecoveredShards.{fits_shards, same_fits}
use Rattle.math_splitting.proofs.SameCells.{nought}
use Rattle.math_shards.proofs.ShardRows.{cells_of_recovered}
use Rattle.math_splitting.proofs.LaidOutData.{rows_are_whole}

-- where enough shards are of two lists of data, the columns of both are the same polynomials
same_columns : (lg min total : ℕ) (words others : List ℕ) (shards : List Shard) → lg ≤ 32 → IsNextPowerOfTwo total (2 ^ lg) → min ≤ distinct_indices total shards
    → All (IsShardOf words min total) shards → All (IsShardOf others min total) shards → width_for min words ≡ width_for min others
    → HaveSamePolynomials same nought (rows_for min words) (rows_for min others)
same_columns lg min total words others shards small next enough h g widths k c =
    let b : k < width_for min words = omega (arith, c, widths) in
    let n = 2 ^ lg in
    let p = column_of nought (rows_for min words) k in
    let q = column_of nought (rows_for min others) k in
    let cells : List F = map (value_at_index lg p) (range_with_len 0 n) in
    let filled : List Bool = map (has_index shards) (range_with_len 0 n) in
    let long : length cells ≡ n = length-map-range_with_len (value_at_index lg p) 0 n in
    let count : count_true filled ≡ distinct_indices total shards =
    count_marks n total shards (All-weaker (IsShardOf words min total) (λ (s : Shard). s.index < total) (λ s of. of.index) shards h) next.1 in
    let marks : (i : ℕ) → i < length cells → get_or filled i false ≡ has_index shards i = λ i l. get_or-map-range_with_len (has_index shards) 0 n i i false (omega (arith, l, long)) (omega arith) in
    let first : (s : Shard) (j : ℕ) → j < length shards → get_or shards j s ≡ s → IsShardOf words min total s = λ s j l is. subst (IsShardOf words min total) is (h j s l) in
    let second : (s : Shard) (j : ℕ) → j < length shards → get_or shards j s ≡ s → IsShardOf others min total s = λ s j l is. subst (IsShardOf others min total) is (g j s l) in
    let at : (s : Shard) → IsShardOf words min total s → same (value_at_index lg p s.index) (get_or cells s.index nought) =
    λ s of. sym (ap number (get_or-map-range_with_len (value_at_index lg p) 0 n s.index s.index nought (omega (arith, of.index, next.1)) (omega arith))) in
    same_fits lg small cells filled long (length-map-range_with_len (has_index shards) 0 n) p q
    (fits_shards lg shards cells filled p (omega (arith, columns_are_full (rows_for min words) k nought, count, enough)) marks (λ s j l is. at s (first s j l is)))
    (fits_shards lg shards cells filled q (omega (arith, columns_are_full (rows_for min others) k nought, count, enough)) marks
    (λ s j l is. sym ((second s j l is).values lg k next c) ∙ (first s j l is).values lg k next b ∙ at s (first s j l is)))

-- and so are the cells of the rows of both
same_rows : (min : ℕ) (words others : List ℕ) → 1 ≤ min → width_for min words ≡ width_for min others → HaveSamePolynomials same nought (rows_for min words) (rows_for min others)
    → (rows_for min words).cells ≡ (rows_for min others).cells
same_rows min words others some widths columns =
    let m = rows_for min words in
    let whole : IsFull m = rows_are_whole min words some in
    sym (take_all (min * m.cols) m.cells (omega (arith, whole))) ∙ cells_of_recovered others min min m.cols m some (omega arith) (refl, refl, whole) (widths, columns)

-- the number of the data and the data, whatever follows, are those of one list of data
data_once : (words others rest more : List ℕ) → counted words ++ rest ≡ counted others ++ more → words ≡ others
data_once words others rest more e =
    let count : length words ≡ length others = ap (λ xs. get_or xs 0 0) e in
    sym (take-append_seam words rest) ∙ ap₂ (λ n xs. take n xs) count (ap (drop 1) e) ∙ take-append_seam others more

-- shards join to one list of data
pub only_data : (words others : List ℕ) (shards : List Shard) → JoinTo words shards → JoinTo others shards → words ≡ others
only_data words others [] j k = absurd (omega (arith, joined_some words [] j))
only_data words others (first ∷ rest) j k =
    let shards = first ∷ rest in
    let min = j.min in
    let f = joined_first words first rest j in
    let g = joined_first others first rest k in
    let each = joined_numbers others shards k min j.total (sym g.least ∙ f.least) (sym g.most ∙ f.most) in
    let head : IsShardOf others min j.total first = All-head (IsShardOf others min j.total) first rest each in
    let widths : width_for min words ≡ width_for min others = sym f.count ∙ head.count in
    let domain = domain_of j.total (omega (arith, j.some, j.within)) j.short in
    let columns = same_columns domain.0 min j.total words others shards domain.2 domain.1 j.enough j.each each widths in
    let a = data_stand (min * width_for min words) words j.each_word j.few in
    let b = data_stand (min * width_for min others) others k.each_word k.few in
    data_once words others a.0 b.0 (sym a.1 ∙ ap words_of (same_rows min words others j.some widths columns) ∙ b.1)
