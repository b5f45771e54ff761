-- Shares while they are dealt, each beside the powers of its point.
use Rattle.std.specs.List.{AllZip, range_with_len}
use Rattle.std.specs.Prelude.{◌≡◌, ◌++◌, ℕ, List, [], ◌∷◌}
use Rattle.rand_core.specs.Stream.{Stream}
use Rattle.math_fields.specs.declared.goldilocks.F.{F}
use Rattle.math_fields.specs.Elements.{number, goldilocks}
use Rattle.math_base.specs.Polynomials.{value_in_ring}
use Rattle.math_values.specs.Tables as Tables
use Rattle.secret_bytes.specs.Deals.{AreSampled}
use Rattle.secret_bytes.specs.declared.dealing.Row.{Row}

-- the share has one value more, the value of the polynomial at the row's point, and all else is as it was
pub record IsGrown (p : List F) (old new : Row) : Type 0 where
  pub table : new.table ≡ old.table
  pub threshold : new.share.threshold ≡ old.share.threshold
  pub index : new.share.index ≡ old.share.index
  pub deal : new.share.deal ≡ old.share.deal
  pub values : new.share.values.items ≡ old.share.values.items ++ (value_in_ring goldilocks p (Tables.point old.table) ∷ [])

-- the share of this index has the values of the polynomials at the row's point, which is the point of the index
pub record IsRow (t : ℕ) (identity : F) (polynomials : List (List F)) (place : ℕ) (row : Row) : Type 0 where
  pub point : number (Tables.point row.table) ≡ place
  pub threshold : row.share.threshold ≡ t
  pub index : row.share.index ≡ place
  pub deal : row.share.deal ≡ identity
  pub values : AllZip (λ p value. value ≡ value_in_ring goldilocks p (Tables.point row.table)) polynomials row.share.values.items

-- there is a row for each of the indices 1 to n
abbrev pub AreRows : ℕ → F → ℕ → List (List F) → List Row → Type 0
AreRows t identity n polynomials rows = AllZip (IsRow t identity polynomials) (range_with_len 1 n) rows

-- rows that had no values have the values of a polynomial for each element, whose other coefficients a source gives from `before` to
-- `after`
pub record AreDealtRows (t : ℕ) (before after : Stream) (elements : List F) (old new : List Row) : Type 0 where
  pub polynomials : List (List F)
  pub sampled : AreSampled t before after elements polynomials
  pub rows : (identity : F) (n : ℕ) → AreRows t identity n [] old → AreRows t identity n polynomials new
