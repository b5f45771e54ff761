-- Words as points and as values of which some are wrong, and as what is decoded from them.
use Rattle.std.specs.Prelude.{◌≡◌, ℕ, ◌+◌, ◌*◌, ◌≤◌, List, length}
use Rattle.math_theory.specs.Interpolation.{AreApart}
use Rattle.math_fields.specs.declared.goldilocks.F.{F}
use Rattle.math_fields.specs.Elements.{same}
use Rattle.math_decoding.specs.Decodings.{IsDecoded, IsWithinRadius}
use Rattle.c_calls.specs.WordElements.{AreElements, elements, goldilocks}
use Rattle.c_calls.specs.WordEncodings.{StandInFront}

-- there are as many values as points, no more coefficients than these, and room for half of the others
pub record HasDecodingSizes (points values coefficients wrong : ℕ) : Type 0 where
  pub values_as_points : values ≡ points
  pub few : coefficients ≤ points
  pub room : points ≤ coefficients + 2 * wrong + 1

-- a polynomial of at most `count` coefficients is within the radius of the values at the points
abbrev pub HasNearWords : List ℕ → List ℕ → ℕ → Type 0
HasNearWords points values count = (a : List F) × IsWithinRadius goldilocks (elements points) (elements values) count a

-- the points are distinct; the coefficients are the only polynomial within the radius of the values, and the first `count` items of `wrong`
-- are the places at which it differs from them
pub record AreDecodedWords (points values coefficients wrong wrong' : List ℕ) (count : ℕ) : Type 0 where
  pub points_below : AreElements points
  pub values_below : AreElements values
  pub apart : AreApart same (elements points)
  pub coefficients_below : AreElements coefficients
  pub places : List ℕ
  pub count_places : count ≡ length places
  pub stand : StandInFront places wrong wrong'
  pub decoded : IsDecoded goldilocks (elements points) (elements values) (length coefficients) (elements coefficients) places
