-- Spaces over a commutative ring: modules, whose laws are plain equations and whose elements the ring scales from the right.
use Rattle.std.specs.Prelude.{◌≡◌, List}
use Rattle.math_theory.specs.Rings.{CommutativeRing}
use Rattle.math_theory.specs.Sums.{weighted_sum}
use Rattle.math_theory.specs.Values.{value_over}

-- a space over the ring R
pub record Space {A : Type 0} (R : CommutativeRing A) (Carrier : Type 0) : Type 0 where
  pub is_set : IsSet Carrier
  pub zero : Carrier
  pub sum : Carrier → Carrier → Carrier
  pub negative : Carrier → Carrier
  pub scaling : Carrier → A → Carrier
  pub sum_comm : (a b : Carrier) → sum a b ≡ sum b a
  pub sum_assoc : (a b c : Carrier) → sum (sum a b) c ≡ sum a (sum b c)
  pub sum_zero : (a : Carrier) → sum zero a ≡ a
  pub sum_negative : (a : Carrier) → sum a (negative a) ≡ zero
  pub scaling_points : (a b : Carrier) (x : A) → scaling (sum a b) x ≡ sum (scaling a x) (scaling b x)
  pub scaling_scalars : (a : Carrier) (x y : A) → scaling a (R.sum x y) ≡ sum (scaling a x) (scaling a y)
  pub scaling_product : (a : Carrier) (x y : A) → scaling (scaling a x) y ≡ scaling a (R.product x y)
  pub scaling_one : (a : Carrier) → scaling a R.one ≡ a

module _ {A B : Type 0} {R : CommutativeRing A} (M : Space R B) where
  -- the value at r of a polynomial with coefficients in the space
  abbrev pub value_in : A → List B → B
  value_in r a = value_over M.zero M.sum M.scaling R.one R.product r a

  -- the sum of point i scaled by scalar i
  abbrev pub weighted_sum_in : List B → List A → B
  weighted_sum_in points scalars = weighted_sum M.zero M.sum M.scaling points scalars
