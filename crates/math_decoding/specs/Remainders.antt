-- Two remainders of Euclid's algorithm in turn, each with its factor.
use Rattle.std.specs.Prelude.{◌≡◌, ◌+◌, ◌-◌, ◌<◌, List, length}
use Rattle.math_theory.specs.Decoding.{IsKept}
use Rattle.math_theory.specs.Division.{HasExactDegree}
use Rattle.math_base.specs.Members.{RingOf}
use Rattle.math_decoding.specs.declared.euclid.Remainder.{Remainder}

-- Two remainders r and r' in turn of Euclid's algorithm, with their factors v and v': at each point the value of r is the value of v times
-- the value given, and the value of r' the value of v' times it. r' has fewer coefficients than r, and v than v'; the degrees of r, of r'
-- and of v' are as great as their lengths let them, and the degrees of r and of v' have the number of points as their sum.
pub record AreRemainders {A : Type 0} (same : A → A → Type 0) (zero : A) (sum : A → A → A) (product : A → A → A) (one : A)
    (points values r v r' v' : List A) : Type 0 where
  pub kept : IsKept same zero sum product one points values r v
  pub kept' : IsKept same zero sum product one points values r' v'
  pub degree : HasExactDegree same zero r (length r - 1)
  pub degree' : 0 < length r' → HasExactDegree same zero r' (length r' - 1)
  pub factor : HasExactDegree same zero v' (length v' - 1)
  pub shorter : length r' < length r
  pub longer : length v < length v'
  pub degrees : length v' + length r ≡ length points + 2

-- two remainders in turn with their factors, over the ring of a trait
abbrev pub AreInTurn : {A : Type 0} → RingOf A → List A → List A → Remainder A → Remainder A → Type 0
AreInTurn R points values before last =
    AreRemainders R.same R.zero R.sum R.product R.one points values before.coefficients.items before.factor.items last.coefficients.items last.factor.items
