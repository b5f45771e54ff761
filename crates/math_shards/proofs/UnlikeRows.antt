-- Shards that differ from the rows of their indices, where these are the values of the data's polynomials: they are not shards of the data.
use Rattle.std.proofs.Common.{◌≡◌, ℕ, ◌*◌, ◌<◌, ◌^◌, List, length, get_or, sym, ◌∙◌, ap, ap₂, subst, arith}
use Rattle.std.specs.List.{All}
use Rattle.std.proofs.lemmas.List.{get_or_default}
use Rattle.math_fields.specs.declared.goldilocks.F.{F}
use Rattle.math_fields.specs.Elements.{number, root_of, goldilocks}
use Rattle.math_decoding.proofs.WrongPlaces.{AreGathered}
use Rattle.math_transforms.specs.Matrices.{IsOfSize, MatrixOf, column_of, row_of}
use Rattle.math_ntt.specs.CorrectedRows.{IsCorrected}
use Rattle.math_ntt.specs.Evaluations.{EvaluationsOf}
use Rattle.math_ntt.specs.MatrixPlaces.{IsFull}
use Rattle.math_ntt.proofs.MatrixPlaces.{rows_are_full, rows_hold_cells}
use Rattle.math_splitting.specs.declared.shards.Shard.{Shard}
use Rattle.math_shards.specs.Correcting.{AreCorrected, ArePositionsWithout, AreSettledRows, CorrectTo, IsRowOf}
use Rattle.math_shards.specs.Joining.{ArePolynomialsOf, IsSound}
use Rattle.math_splitting.specs.Shards.{IsShardOf, rows_for}
use Rattle.math_shards.proofs.CorrectedShards.{data_of_corrected, least_of, rows_are_domain, size_of_corrected, total_of}
use Rattle.math_values.proofs.ElementRing.{same_are_equal}
use Rattle.math_splitting.proofs.SameCells.{nought, same_by_items}
use Rattle.math_values.proofs.ElementValues.{same_values}
use Rattle.math_shards.proofs.SplitShards.{HoldsValues, shard_of_row}

-- P holds of the shard at position i
abbrev pub HoldsAtPosition : (Shard → Type 0) → List Shard → ℕ → Type 0
HoldsAtPosition P shards i = (s : Shard) → get_or shards i s ≡ s → P s

-- it is enough that it holds of the shard there by one name
pub holds_at : (P : Shard → Type 0) (shards : List Shard) (i : ℕ) (s : Shard) → i < length shards → s ≡ get_or shards i s → P s → HoldsAtPosition P shards i
holds_at P shards i s l is p t at = subst P (is ∙ get_or_default shards i s t l ∙ at) p

-- all positions at which it does not hold
pub positions_gathered : (P : Shard → Type 0) (shards : List Shard) (n : ℕ) (positions : List ℕ) → n ≡ length shards → AreGathered (HoldsAtPosition P shards) n positions
    → ArePositionsWithout P shards positions
positions_gathered P shards n positions all h = record {
  rising = h.rising;
  below = λ k d l. omega (arith, all, h.below k d l);
  differ = λ k d l s is p. h.differ k d l (holds_at P shards (get_or positions k d) s (omega (arith, all, h.below k d l)) (sym is) p);
  agree = λ i s l is n. h.agree i (omega (arith, all, l)) n s is;
}

-- what holds of the same shards has the same positions
positions_alike : (P Q : Shard → Type 0) (shards : List Shard) (positions : List ℕ) → ((i : ℕ) (s : Shard) → i < length shards → get_or shards i s ≡ s → (P s → Q s) × (Q s → P s))
    → ArePositionsWithout P shards positions → ArePositionsWithout Q shards positions
positions_alike P Q shards positions both h = grind arith

module _ (lg : ℕ) (first : Shard) (shards : List Shard) (e : EvaluationsOf F) (r : AreSettledRows lg first shards e) (q : MatrixOf F) (wrong : List ℕ)
    (h : IsCorrected goldilocks (root_of lg) e first.min q wrong) (words : List ℕ) (same_as : ArePolynomialsOf words first.min q) (v : MatrixOf F) (size : IsOfSize v q.rows q.cols)
    (values : HoldsValues q v) where
  -- a shard whose cells are the row of its index is one of the data, and the other way round
  row_is_shard : (s : Shard) → IsSound first s → (IsRowOf v s → IsShardOf words first.min first.total s) × (IsShardOf words first.min first.total s → IsRowOf v s)
  row_is_shard s sound =
      let next = rows_are_domain lg first shards e r q wrong h in
      let index : s.index < first.total = omega (arith, sound.1, sound.0.most) in
      let inside : s.index < q.rows = omega (arith, index, next.1) in
      let width : q.cols ≡ length first.cells.items = (size_of_corrected lg first shards e r q wrong h).1 in
      let full : IsFull v = size.2 ∙ sym (ap₂ (λ x y. x * y) size.0 size.1) in
      let domain : q.rows ≡ 2 ^ lg = h.size.0 ∙ r.holds.size.0 in (
        λ row. shard_of_row words first.min first.total q v next same_as.0 same_as.1 size values s index sound.0.least sound.0.most (sym (same_are_equal (row_of v s.index) s.cells.items row)),
        λ of.
            same_by_items (length first.cells.items) (row_of v s.index) s.cells.items (rows_are_full v s.index full (omega (arith, inside, size.0)) ∙ size.1 ∙ width) sound.0.count
            (λ k l.
            let column : k < q.cols = omega (arith, l, width) in
            ap number (rows_hold_cells v s.index k nought (omega (arith, column, size.1)))
            ∙ values lg domain s.index k inside column
            ∙ same_values _ (column_of nought q k) (column_of nought (rows_for first.min words) k) (same_as.1 k (omega (arith, column, same_as.0)))
            ∙ sym (of.values lg k r.next (omega (arith, column, same_as.0)))),
      )

  -- so the data, and the positions of the shards that differ from their rows, are those that are meant
  pub corrected_with_positions : All (λ word. word < 2 ^ 64) words → length words < 2 ^ 64 → (positions : List ℕ) → ArePositionsWithout (IsRowOf v) shards positions
      → AreCorrected words positions shards
  corrected_with_positions each_word few positions unlike =
      let c : CorrectTo words shards = data_of_corrected lg first shards e r q wrong h words each_word few same_as in
      let left : ArePositionsWithout (IsShardOf words first.min first.total) shards positions =
      positions_alike (IsRowOf v) (IsShardOf words first.min first.total) shards positions (λ i s l is. row_is_shard s (subst (IsSound first) is (r.sound i s l))) unlike in (
        c,
        subst (λ n. ArePositionsWithout (IsShardOf words n c.total) shards positions) (sym (least_of lg first shards e r words c))
            (subst (λ t. ArePositionsWithout (IsShardOf words first.min t) shards positions) (sym (total_of lg first shards e r words c)) left),
      )
