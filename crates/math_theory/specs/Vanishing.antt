-- Polynomials that vanish at given points, and at the missing points of a domain.
use Rattle.std.specs.Prelude.{◌≡◌, ◌<◌, ℕ, List, Bool, length, slice_index_or}
use Rattle.math_theory.specs.Powers.{power, powers}
use Rattle.math_theory.specs.Recovery.{missing_items}
use Rattle.math_theory.specs.RootProducts.{root_product}

-- the powers of w at the places that are false
abbrev pub missing_points : {A : Type 0} → A → (A → A → A) → A → List Bool → List A
missing_points one product w filled = missing_items (powers one product w (length filled)) filled

-- the product of r - w ^ j over the places j that are false
abbrev pub missing_product : {A : Type 0} → (A → A → A) → (A → A) → (A → A → A) → A → A → A → List Bool → A
missing_product sum negative product one r w filled = root_product sum negative product one r (missing_points one product w filled)

-- up to one factor that is not zero, v gives at each r the product of r - x over the roots x
pub record VanishesAt {A : Type 0} (same : A → A → Type 0) (zero : A) (sum : A → A → A) (negative : A → A) (product : A → A → A) (one : A)
    (roots : List A) (v : A → A) : Type 0 where
  pub factor : A
  pub factor_is_not_zero : same factor zero → ⊥
  pub gives : (r : A) → same (v r) (product factor (root_product sum negative product one r roots))

-- at zero and at the powers of w these are, up to one factor that is not zero, the values of the product of r - w ^ j over the places j that are false
pub record IsVanishing {A : Type 0} (same : A → A → Type 0) (zero : A) (sum : A → A → A) (negative : A → A) (product : A → A → A) (one : A)
    (w : A) (filled : List Bool) (at_zero : A) (values : List A) : Type 0 where
  pub factor : A
  pub factor_is_not_zero : same factor zero → ⊥
  pub lengths : length values ≡ length filled
  pub value_at_zero : same at_zero (product factor (missing_product sum negative product one zero w filled))
  pub value_at_power : (i : ℕ) → i < length filled
      → same (slice_index_or values i zero) (product factor (missing_product sum negative product one (power one product w i) w filled))
