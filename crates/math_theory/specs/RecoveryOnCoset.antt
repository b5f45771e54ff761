-- The steps that recover a polynomial from some of its values on a domain of n points, the powers of w, by division on a coset of the domain.
use Rattle.std.specs.Prelude.{◌*◌, ◌<◌, ◌≤◌, ℕ, List, Bool, length, slice_index_or}
use Rattle.math_theory.specs.Interpolation.{AreApart}
use Rattle.math_theory.specs.Powers.{power, powers}
use Rattle.math_theory.specs.Recovery.{missing_items}
use Rattle.math_theory.specs.RootProducts.{root_product}
use Rattle.math_theory.specs.Values.{value}

-- no two of the first n powers of w are same, and none of them is same as s times one of them
pub record HasCoset {A : Type 0} (same : A → A → Type 0) (zero : A) (product : A → A → A) (one : A) (w s : A) (n : ℕ) : Type 0 where
  pub distinct : AreApart same (powers one product w n)
  pub shift_nonzero : ¬ (same s zero)
  pub apart : (i j : ℕ) → i < n → j < n → ¬ (same (product s (power one product w i)) (power one product w j))

-- v has at most n coefficients, and its values on the domain are u times the product of the differences from the missing points, where u is not zero
pub record VanishesAtMissing {A : Type 0} (same : A → A → Type 0) (zero : A) (sum : A → A → A) (negative : A → A) (product : A → A → A) (one : A)
    (w : A) (n : ℕ) (filled : List Bool) (u : A) (v : List A) : Type 0 where
  pub short : length v ≤ n
  pub factor_nonzero : ¬ (same u zero)
  pub values : (i : ℕ) → i < n
      → let x = power one product w i in
      same (value zero sum product one x v) (product u (root_product sum negative product one x (missing_items (powers one product w n) filled)))

-- g has at most n coefficients, and its values on the domain are the cells times the values of v
pub record HasProductValues {A : Type 0} (same : A → A → Type 0) (zero : A) (sum : A → A → A) (product : A → A → A) (one : A)
    (w : A) (n : ℕ) (cells v g : List A) : Type 0 where
  pub short : length g ≤ n
  pub values : (i : ℕ) → i < n
      → let x = power one product w i in
      same (value zero sum product one x g) (product (slice_index_or cells i zero) (value zero sum product one x v))

-- q has at most m coefficients, and its values at s times the powers 0, d, 2 d and so on of w, m of them, times the values of v there are
-- the values of g
pub record DividesOnCoset {A : Type 0} (same : A → A → Type 0) (zero : A) (sum : A → A → A) (product : A → A → A) (one : A)
    (w s : A) (d m : ℕ) (v g q : List A) : Type 0 where
  pub short : length q ≤ m
  pub values : (i : ℕ) → i < m
      → let x = product s (power one product w (d * i)) in
      same (product (value zero sum product one x q) (value zero sum product one x v)) (value zero sum product one x g)
