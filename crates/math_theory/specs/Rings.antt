-- Commutative rings and fields, whose laws are plain equations.
use Rattle.std.specs.Prelude.{◌≡◌, ◌≢◌}

-- a commutative ring with one
pub record CommutativeRing (Carrier : Type 0) : Type 0 where
  pub is_set : IsSet Carrier
  pub zero : Carrier
  pub sum : Carrier → Carrier → Carrier
  pub negative : Carrier → Carrier
  pub product : Carrier → Carrier → Carrier
  pub one : Carrier
  pub sum_comm : (a b : Carrier) → sum a b ≡ sum b a
  pub sum_assoc : (a b c : Carrier) → sum (sum a b) c ≡ sum a (sum b c)
  pub sum_zero : (a : Carrier) → sum zero a ≡ a
  pub sum_negative : (a : Carrier) → sum a (negative a) ≡ zero
  pub product_comm : (a b : Carrier) → product a b ≡ product b a
  pub product_assoc : (a b c : Carrier) → product (product a b) c ≡ product a (product b c)
  pub product_one : (a : Carrier) → product one a ≡ a
  pub distributive : (a b c : Carrier) → product (sum a b) c ≡ sum (product a c) (product b c)

-- a commutative ring in which one is not zero and every element but zero has an inverse
pub record Field (Carrier : Type 0) : Type 0 where
  pub ring : CommutativeRing Carrier
  pub open ring use *
  pub inverse : Carrier → Carrier
  pub one_apart : one ≢ zero
  pub product_inverse : (a : Carrier) → a ≢ zero → product a (inverse a) ≡ one
