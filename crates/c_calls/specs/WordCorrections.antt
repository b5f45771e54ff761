-- Rows of words of which some filled ones are wrong, and the polynomials that are recovered from the others.
use Rattle.std.specs.Prelude.{◌≡◌, ℕ, ◌≤◌, ◌^◌, List, length, All}
use Rattle.math_fields.specs.declared.goldilocks.F.{F}
use Rattle.math_fields.specs.Elements.{root_of}
use Rattle.math_ntt.specs.CorrectedRows.{AreWithinRadius, IsCorrected}
use Rattle.c_calls.specs.WordElements.{AreElements, goldilocks}
use Rattle.c_calls.specs.WordEncodings.{StandInFront}
use Rattle.c_calls.specs.WordRows.{AreFilledElements, HasRowsFor, word_evaluations, word_matrix}

-- polynomials of at most `count` coefficients are within the radius of the rows whose byte is 1
abbrev pub HaveNearRows : ℕ → ℕ → List ℕ → List ℕ → Type 0
HaveNearRows cols count cells bytes =
    (lg : ℕ) × (length bytes ≡ 2 ^ lg) × (a : ℕ → List F) × AreWithinRadius goldilocks (root_of lg) (word_evaluations cols cells bytes) count a

-- column by column the coefficients are the only polynomials within the radius of the rows whose byte is 1, and the first n items of
-- `wrong` are the rows at which they differ from these
pub record AreCorrectedWords (cols count : ℕ) (cells bytes coefficients wrong wrong' : List ℕ) (n : ℕ) : Type 0 where
  pub shape : HasRowsFor (length cells) cols (length bytes)
  pub marks : All (λ b. b ≤ 1) bytes
  pub cells_below : AreFilledElements cols cells bytes
  pub number : length coefficients ≡ length cells
  pub coefficients_below : AreElements coefficients
  pub rows : List ℕ
  pub count_rows : n ≡ length rows
  pub stand : StandInFront rows wrong wrong'
  pub corrected : (lg : ℕ) → length bytes ≡ 2 ^ lg
      → IsCorrected goldilocks (root_of lg) (word_evaluations cols cells bytes) count (word_matrix (length bytes) cols coefficients) rows
