-- Shares of which some are wrong, and the secret of all others.
use Rattle.std.specs.Prelude.{ℕ, List}
use Rattle.math_base.specs.Members.{RingOf}
use Rattle.math_base.specs.Polynomials.{value_in_ring}
use Rattle.math_decoding.specs.Decodings.{IsDecoded, IsWithinRadius}
use Rattle.shared_secret.specs.declared.shares.Share.{Share}
use Rattle.shared_secret.specs.Shares.{points, values}

-- p has at most t coefficients, and all of the n shares but some e are its values, where 2 e + t is at most n
abbrev pub AreSharesWithinRadius : {A : Type 0} → RingOf A → ℕ → List A → List (Share A) → Type 0
AreSharesWithinRadius R t p shares = IsWithinRadius R (points R shares) (values shares) t p

-- the secret is the value at zero of the only polynomial within the radius of the shares, and the places are the places of the shares that
-- are not its values
pub record IsCorrectedSecret {A : Type 0} (R : RingOf A) (t : ℕ) (shares : List (Share A)) (secret : A) (wrong : List ℕ) : Type 0 where
  pub polynomial : List A
  pub decoded : IsDecoded R (points R shares) (values shares) t polynomial wrong
  pub constant : R.same secret (value_in_ring R polynomial R.zero)
