-- The command `eval POINT`: its words, the encoding that its bytes have to be, and its answer.
use Rattle.std.specs.Prelude.{◌≡◌, ℕ, ◌-◌, ◌<◌, ◌^◌, List, [], ◌∷◌, ◌++◌, length, codes, Result}
use Rattle.std.specs.Fmt.{decimal}
use Rattle.std.specs.Int.{to_be_bytes, w64}
use Rattle.math_theory.specs.Values.{value_over}
use Rattle.math_codec.specs.declared.codec.range.LengthRange.{LengthRange}
use Rattle.math_codec.specs.Faults.{Fault, scan_exactly}
use Rattle.math_codec.specs.Lists.{list_spelling, scan_list, ListGrows}
use Rattle.math_fields.specs.declared.goldilocks.F.{F}
use Rattle.math_fields.specs.Elements.{number, residue, sum, product}
use Rattle.math_fields.specs.ElementEncoding.{scan_element}
use Rattle.goldmath_commands.specs.Lines.{line_end}
use Rattle.goldmath_commands.specs.Numerals.{WritesPoint}

-- the words are `eval` and one that writes the point
abbrev pub AreEvalWords : List (List ℕ) → ℕ → Type 0
AreEvalWords words point = (text : List ℕ) × (words ≡ codes "eval" ∷ text ∷ []) × WritesPoint text point

-- the bytes are the encoding of the polynomial with these coefficients
pub record IsEncodedPolynomial (bytes : List ℕ) (coefficients : List F) : Type 0 where
  pub some : 0 < length coefficients
  pub few : length coefficients < 2 ^ 32
  pub spelled : bytes ≡ list_spelling (λ a. to_be_bytes w64 (number a)) coefficients

-- the numbers of coefficients that a polynomial may have
abbrev pub any_length : LengthRange
any_length = record { low = 1; high = 2 ^ 32 - 1 }

-- what reading the polynomial and nothing more meets: no fault, or the first one
abbrev pub scan_polynomial : List ℕ → Result (Unit {0}) Fault
scan_polynomial bytes = scan_exactly (scan_list any_length scan_element) bytes

-- reading the polynomial takes memory
abbrev pub PolynomialGrows : List ℕ → Type 0
PolynomialGrows bytes = ListGrows any_length scan_element (λ _. ⊥) bytes

-- the value in decimal, and a line end
abbrev pub eval_line : List F → ℕ → List ℕ
eval_line coefficients point = decimal (number (value_over (residue 0) sum product (residue 1) product (residue point) coefficients)) ++ line_end
