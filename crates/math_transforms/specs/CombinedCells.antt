-- Two rows of cells that are combined, and rows in bit-reversed order.
use Rattle.std.specs.Prelude.{◌≡◌, ℕ, ◌+◌, ◌<◌, ◌^◌, Bool, List, slice_index_or}
use Rattle.math_theory.specs.BitReversal.{bit_reversed}
use Rattle.math_base.specs.Members.{RingOf}
use Rattle.math_base.specs.Columns.{IsCombined}
use Rattle.math_transforms.specs.Matrices.{MatrixOf, cell_of}

module _ {A : Type 0} (R : RingOf A) where
  -- the pair of cells in column p of two rows of c cells is combined
  abbrev pub IsCombinedAt : Bool → A → ℕ → ℕ → List A → List A → Type 0
  IsCombinedAt forward w c p old new =
      IsCombined R forward w (slice_index_or old p R.zero) (slice_index_or old (c + p) R.zero) (slice_index_or new p R.zero) (slice_index_or new (c + p) R.zero)

  -- two rows of c cells are combined, column by column
  pub record AreCombined (forward : Bool) (w : A) (c : ℕ) (old new : List A) : Type 0 where
    pub combined : (p : ℕ) → p < c → IsCombinedAt forward w c p old new

-- row i of v is row j of m, where j has the lg bits of i in the opposite order; d stands for a cell that is not there
abbrev pub AreRowsReversed : {A : Type 0} → A → ℕ → MatrixOf A → MatrixOf A → Type 0
AreRowsReversed d lg m v = (i k : ℕ) → i < 2 ^ lg → k < m.cols → cell_of d v i k ≡ cell_of d m (bit_reversed lg i) k
