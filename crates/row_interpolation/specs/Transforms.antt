-- What evaluates the polynomials through columns of rows of some indices, by transforms.
use Rattle.std.specs.Prelude.{◌≡◌, ℕ, ◌+◌, ◌*◌, ◌<◌, ◌^◌, List}
use Rattle.std.specs.Int.{IsNextPowerOfTwo}
use Rattle.math_theory.specs.BitReversal.{bit_reversed}
use Rattle.math_fields.specs.declared.goldilocks.F.{F}
use Rattle.math_restoring.specs.Restored.{item}
use Rattle.math_restoring.specs.Restorers.{indices_of}
use Rattle.row_interpolation.specs.declared.by_transforms.Transforms.{Transforms}
use Rattle.row_interpolation.specs.RowValues.{IsValueThrough}

-- the domain is the least of `total` points, and columns are restored from rows of these indices
pub record AreTransformsFor (total : ℕ) (indices : List ℕ) (t : Transforms) : Type 0 where
  pub domain : IsNextPowerOfTwo total (2 ^ t.lg)
  pub sources : indices_of t.restorer ≡ indices

-- each row of the strip has, at the index that stands there in the order of the tree, the values of the polynomials through `cols` columns of the rows in hand, from column `from` on
abbrev pub AreValuesThrough : (ℕ → ℕ → F) → Transforms → ℕ → ℕ → List F → Type 0
AreValuesThrough element t from cols strip =
    (i k : ℕ) → i < 2 ^ t.lg → k < cols → IsValueThrough t.lg (indices_of t.restorer) (λ s. element s (from + k)) i (item strip (bit_reversed t.lg i * cols + k))
