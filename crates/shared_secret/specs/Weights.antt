-- Weights that are made once for shares of some indices.
use Rattle.std.specs.List.{AllZip}
use Rattle.std.specs.Prelude.{◌≡◌, ℕ, List, take, drop}
use Rattle.math_base.specs.Members.{RingOf}
use Rattle.math_base.specs.Polynomials.{AreWeightsAt}
use Rattle.shared_secret.specs.declared.shares.Share.{Share}
use Rattle.shared_secret.specs.declared.weighing.Weights.{Weights}
use Rattle.shared_secret.specs.Shares.{AreCombinable, points, values}

-- weights of the first t points for the value at zero, and for the value at each further point
pub record AreWeightsAtPoints {A : Type 0} (R : RingOf A) (t : ℕ) (points : List A) (weights : Weights A) : Type 0 where
  pub secret : AreWeightsAt R R.zero (take t points) weights.secret.items
  pub further : AllZip (λ x w. AreWeightsAt R x (take t points) w.items) (drop t points) weights.further.items

-- the shares are combinable, and the weights are weights of the points of the first t
pub record AreWeightsOfShares {A : Type 0} (R : RingOf A) (t : ℕ) (shares : List (Share A)) (weights : Weights A) : Type 0 where
  pub combinable : AreCombinable R t shares
  pub at_points : AreWeightsAtPoints R t (points R shares) weights

-- P holds of every t and all shares whose weights and values these are
abbrev pub HoldsOfWeighed : {A : Type 0} → RingOf A → Weights A → List A → (ℕ → List (Share A) → Type 0) → Type 0
HoldsOfWeighed R weights given P = (t : ℕ) (shares : List (Share _)) → AreWeightsOfShares R t shares weights → given ≡ values shares → P t shares
