-- The laws of algebra over explicit operations, each up to a type's own equality `same`.

-- `same` has at most one proof, and is an equivalence
pub record IsEquality {A : Type 0} (same : A → A → Type 0) : Type 0 where
  pub prop : (a b : A) → IsProp (same a b)
  pub reflexive : (a : A) → same a a
  pub symmetric : (a b : A) → same a b → same b a
  pub transitive : (a b c : A) → same a b → same b c → same a c

-- a commutative monoid
pub record IsMonoid {A : Type 0} (same : A → A → Type 0) (one : A) (product : A → A → A) : Type 0 where
  pub respects : (a b c d : A) → same a b → same c d → same (product a c) (product b d)
  pub commutative : (a b : A) → same (product a b) (product b a)
  pub associative : (a b c : A) → same (product (product a b) c) (product a (product b c))
  pub identity : (a : A) → same (product one a) a

-- a commutative group under sum
pub record IsGroup {A : Type 0} (same : A → A → Type 0) (zero : A) (sum : A → A → A) (negative : A → A) : Type 0 where
  pub respects_sum : (a b c d : A) → same a b → same c d → same (sum a c) (sum b d)
  pub respects_negative : (a b : A) → same a b → same (negative a) (negative b)
  pub commutative : (a b : A) → same (sum a b) (sum b a)
  pub associative : (a b c : A) → same (sum (sum a b) c) (sum a (sum b c))
  pub identity : (a : A) → same (sum zero a) a
  pub inverse : (a : A) → same (sum a (negative a)) zero

-- a commutative and associative product
pub record IsProduct {A : Type 0} (same : A → A → Type 0) (product : A → A → A) : Type 0 where
  pub respects : (a b c d : A) → same a b → same c d → same (product a c) (product b d)
  pub commutative : (a b : A) → same (product a b) (product b a)
  pub associative : (a b c : A) → same (product (product a b) c) (product a (product b c))

-- one is the identity of the product, and the product distributes over sums
pub record IsRing {A : Type 0} (same : A → A → Type 0) (sum : A → A → A) (product : A → A → A) (one : A) : Type 0 where
  pub identity : (a : A) → same (product one a) a
  pub distributive : (a b c : A) → same (product (sum a b) c) (sum (product a c) (product b c))

-- a module over a ring, whose elements the ring scales from the right
pub record IsModule {A B : Type 0} (same : A → A → Type 0) (zero : A) (sum : A → A → A) (scaling : A → B → A)
    (same_scalar : B → B → Type 0) (zero_scalar : B) (sum_scalar : B → B → B) (product : B → B → B) (one : B) : Type 0 where
  pub respects_points : (a b : A) (x : B) → same a b → same (scaling a x) (scaling b x)
  pub respects_scalars : (a : A) (x y : B) → same_scalar x y → same (scaling a x) (scaling a y)
  pub sum_of_points : (a b : A) (x : B) → same (scaling (sum a b) x) (sum (scaling a x) (scaling b x))
  pub sum_of_scalars : (a : A) (x y : B) → same (scaling a (sum_scalar x y)) (sum (scaling a x) (scaling a y))
  pub product_of_scalars : (a : A) (x y : B) → same (scaling (scaling a x) y) (scaling a (product x y))
  pub identity : (a : A) → same (scaling a one) a
  pub annihilation : (a : A) → same (scaling a zero_scalar) zero

-- one is not zero, the inverse of zero is zero, and every other element times its inverse is one
pub record IsField {A : Type 0} (same : A → A → Type 0) (zero : A) (product : A → A → A) (one : A) (inverse : A → A) : Type 0 where
  pub distinct : same one zero → ⊥
  pub respects : (a b : A) → same a b → same (inverse a) (inverse b)
  pub inverse_of_zero : same (inverse zero) zero
  pub inverts : (a : A) → (same a zero → ⊥) → same (product a (inverse a)) one
