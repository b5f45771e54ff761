-- Powers and multiples over explicit operations.
use Rattle.std.specs.List.{range_with_len}
use Rattle.std.specs.Prelude.{◌≡◌, ℕ, zero, suc, List, map, refl}

-- the n-fold product of a
unfoldable pub power : {A : Type 0} → A → (A → A → A) → A → ℕ → A
power one product a zero = one
power one product a (suc n) = product (power one product a n) a

pub power-zero : {A : Type 0} (one : A) (product : A → A → A) (a : A) → power one product a 0 ≡ one
unfolding power
power-zero one product a = refl

pub power-suc : {A : Type 0} (one : A) (product : A → A → A) (a : A) (n : ℕ) → power one product a (suc n) ≡ product (power one product a n) a
unfolding power
power-suc one product a n = refl

-- the n powers of a from the i-th on
abbrev pub powers_from : {A : Type 0} → A → (A → A → A) → A → ℕ → ℕ → List A
powers_from one product a i n = map (λ j. power one product a j) (range_with_len i n)

-- the first n powers of a, from the 0-th on
abbrev pub powers : {A : Type 0} → A → (A → A → A) → A → ℕ → List A
powers one product a n = powers_from one product a 0 n

-- the n-fold sum of a, which is its power in the monoid of sums
abbrev pub multiple : {A : Type 0} → A → (A → A → A) → A → ℕ → A
multiple zero_of sum a n = power zero_of sum a n
