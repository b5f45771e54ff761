-- Rows of elements that are cut into shards.
use Rattle.std.proofs.Common.{◌≡◌, ◌∙◌, ℕ, suc, ◌+◌, ◌*◌, ◌<◌, ◌≤◌, ◌^◌, List, [], ◌∷◌, ◌++◌, length, map, drop, get_or, refl, sym, ap, ap₂, arith}
use Rattle.std.specs.Int.{IsNextPowerOfTwo}
use Rattle.std.specs.List.{All, range_with_len}
use Rattle.std.proofs.Math.ListN.{get_or-map}
use Rattle.std.proofs.lemmas.List.{length-drop, length-take-le, length_push}
use Rattle.std.proofs.lemmas.List.FromFn.{get_or-range_with_len, length-range_with_len}
use Rattle.math_fields.specs.declared.goldilocks.F.{F}
use Rattle.math_fields.specs.Elements.{number}
use Rattle.math_base.proofs.PlaceByPlace.{each_place_next}
use Rattle.math_transforms.specs.Matrices.{column_of}
use Rattle.math_transforms.proofs.PresentIndices.{lg-only}
use Rattle.math_transforms.proofs.WrittenCells.{row-within}
use Rattle.math_transforms.proofs.WrittenRows.{part-read}
use Rattle.math_splitting.specs.declared.shards.Shard.{Shard}
use Rattle.math_splitting.specs.Shards.{AreShardsAt, rows_for, value_at_index, width_for}
use Rattle.math_splitting.specs.ShardRows.{AreCut, HaveColumns, IsCutAt}
use Rattle.math_splitting.proofs.SameCells.{nought}

-- the indices of all shards are below their number
pub all_below : (total : ℕ) → All (λ i. i < total) (range_with_len 0 total)
all_below total = grind (arith, length-range_with_len, get_or-range_with_len)

-- one shard more
pub cut-more : (min total width : ℕ) (indices : List ℕ) (cells : List F) (n : ℕ) (shards : List Shard) (s : Shard) → AreCut min total width indices cells n shards
    → IsCutAt min total width indices cells n s → AreCut min total width indices cells (n + 1) (shards ++ s ∷ [])
cut-more min total width indices cells n shards s cut here = record {
  count = length_push shards s ∙ ap (λ m. m + 1) cut.count;
  each = λ t d l. each_place_next d (IsCutAt min total width indices cells) shards n s cut.count (λ k b. cut.each k d b) here t l;
}

indices_of : (indices : List ℕ) (shards : List Shard) → length shards ≡ length indices → ((i : ℕ) (d : Shard) → i < length shards → (get_or shards i d).index ≡ get_or indices i 0)
    → map (λ (s : Shard). s.index) shards ≡ indices
indices_of [] [] e h = refl
indices_of (k ∷ indices) [] e h = absurd (omega (arith, e))
indices_of [] (s ∷ shards) e h = absurd (omega (arith, e))
indices_of (k ∷ indices) (s ∷ shards) e h =
    ap₂ (λ i is. i ∷ is) (h 0 s (omega arith)) (indices_of indices shards (omega (arith, e)) (λ i d l. h (suc i) d (omega arith)))

-- where the rows have all columns, the shards are those of the data
pub shards_of_cut : (words : List ℕ) (min total lg width : ℕ) (indices : List ℕ) (cells : List F) (shards : List Shard) → IsNextPowerOfTwo total (2 ^ lg) → All (λ i. i < total) indices
    → width ≡ width_for min words → length cells ≡ length indices * width → HaveColumns words min lg width indices width (map number cells)
    → AreCut min total width indices cells (length indices) shards → AreShardsAt words min total indices shards
shards_of_cut words min total lg width indices cells shards next below wide whole have cut = record {
  indices = indices_of indices shards cut.count (λ t d l. (cut.each t d (omega (arith, l, cut.count))).index);
  each = λ t d l.
      let inside : t < length indices = omega (arith, l, cut.count) in
      let one = cut.each t d inside in
      let there : get_or indices t 0 < total = below t 0 inside in
      let fits : t * width + width ≤ length cells = omega (arith, row-within t (length indices) width inside, whole) in
      record {
        index = omega (arith, one.index, there);
        least = one.least;
        most = one.most;
        count = ap length one.row ∙ length-take-le width (drop (t * width) cells) (omega (arith, fits, length-drop (t * width) cells)) ∙ wide;
        values = λ m k domain b.
            let column : k < width = omega (arith, b, wide) in
            let once : lg ≡ m = lg-only total lg m (omega (arith, there)) next domain in
            ap (λ (xs : List F). number (get_or xs k nought)) one.row ∙ ap number (part-read nought cells (t * width) width k column)
            ∙ sym (get_or-map number cells (t * width + k) nought) ∙ have t k inside column
            ∙ ap₂ (λ (p q : ℕ). number (value_at_index p (column_of nought (rows_for min words) k) q)) once (sym one.index);
      };
}
