-- Words as the coefficients of an encoded polynomial.
use Rattle.std.specs.Prelude.{◌≡◌, ℕ, ◌<◌, ◌-◌, ◌^◌, List, length, Result}
use Rattle.std.specs.Int.{to_be_bytes, w64}
use Rattle.math_codec.specs.Faults.{Fault, scan_exactly}
use Rattle.math_codec.specs.Lists.{list_spelling, scan_list}
use Rattle.math_fields.specs.ElementEncoding.{scan_element}
pub use Rattle.math_shards.specs.WordShards.{StandInFront}
use Rattle.c_calls.specs.WordElements.{AreElements}

-- a polynomial may have n coefficients
abbrev pub IsCoefficientCount : ℕ → Type 0
IsCoefficientCount n = (0 < n) × (n < 2 ^ 32)

-- the encoding of the polynomial with these coefficients: their number as a length, and each as a word
abbrev pub polynomial_spelling : List ℕ → List ℕ
polynomial_spelling coefficients = list_spelling (to_be_bytes w64) coefficients

-- the bytes are the encoding of the polynomial with these coefficients
pub record IsEncodedBy (coefficients bytes : List ℕ) : Type 0 where
  pub count : IsCoefficientCount (length coefficients)
  pub below : AreElements coefficients
  pub spelled : bytes ≡ polynomial_spelling coefficients

-- what reading the polynomial and nothing more meets: no fault, or the first one
abbrev pub scan_polynomial : List ℕ → Result (Unit {0}) Fault
scan_polynomial bytes = scan_exactly (scan_list (record { low = 1; high = 2 ^ 32 - 1 }) scan_element) bytes
