-- The sum of the rows of a matrix, each scaled by a cell of a row: in each place it is the sum of the products of that row and a column.
use Rattle.std.proofs.Common.{◌≡◌, ℕ, ◌+◌, ◌<◌, List, ◌∷◌, length, drop, get_or, refl, arith}
use Rattle.std.proofs.lemmas.List.{drop_more}
use Rattle.math_theory.specs.Laws.{IsEquality, IsGroup, IsProduct}
use Rattle.math_theory.specs.Sums.{weighted_sum}
use Rattle.math_base.proofs.WeightedSums.{weighted_sum-start, weighted_sum-step}
use Rattle.math_transforms.specs.Matrices.{MatrixOf, row_of, column_of}
use Rattle.math_transforms.proofs.MatrixRows.{length-column, column-at}

module _ {A : Type 0} {same : A → A → Type 0} {zero_of : A} {sum : A → A → A} {negative : A → A} {product : A → A → A}
    (E : IsEquality same) (G : IsGroup same zero_of sum negative) (P : IsProduct same product) where
  abbrev left : (a b x : A) → same a b → same (product a x) (product b x)
  left a b x h = P.respects a b x x h (E.reflexive x)

  -- the sums so far, and what the places of the row from j on give, make up the whole
  abbrev pub Makes : MatrixOf A → List A → List A → ℕ → ℕ → Type 0
  Makes m row sums j k =
      same (sum (get_or sums k zero_of) (weighted_sum zero_of sum product (drop j row) (drop j (column_of zero_of m k)))) (weighted_sum zero_of sum product row (column_of zero_of m k))

  -- zeros alone
  pub makes-none : (m : MatrixOf A) (row sums : List A) (k : ℕ) → same (get_or sums k zero_of) zero_of → Makes m row sums 0 k
  makes-none m row sums k h = weighted_sum-start E G left _ refl refl h

  -- with the multiple of row j
  pub makes-more : (m : MatrixOf A) (row sums new : List A) (j k : ℕ) (factor : A) → j < length row → length row ≡ m.rows → factor ≡ get_or row j factor
      → same (get_or new k zero_of) (sum (get_or sums k zero_of) (product factor (get_or (row_of m j) k zero_of))) → Makes m row sums j k → Makes m row new (j + 1) k
  makes-more m row sums new j k factor l e f h w =
      let points : drop j row ≡ factor ∷ drop (j + 1) row = rw (← f) at (drop_more row j factor l) in
      let below : j < m.rows = omega arith in
      let column = column_of zero_of m k in
      let scalars : drop j column ≡ get_or (row_of m j) k zero_of ∷ drop (j + 1) column
      = rw (column-at zero_of m k j zero_of below) at (drop_more column j zero_of (rw (length-column zero_of m k) below)) in
      weighted_sum-step E G left _ points scalars (E.reflexive factor) (E.reflexive _) h w
