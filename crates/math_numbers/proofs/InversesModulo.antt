-- Inverses modulo a prime.
use Rattle.std.proofs.Common.{◌≡◌, ◌≢◌, ◌⊎◌, ℕ, zero, suc, ◌+◌, ◌-◌, ◌*◌, ◌/◌, ◌%◌, ◌<◌, ◌≤◌, inl, inr, sym, ap, ◌∙◌, arith, one-mul, mul_comm, mul_assoc, mul-le-mul}
use Rattle.std.proofs.Math.Nat.{mod-lt, mod-eq_of_lt, div-add-mod, add-mul-mod_self_left}
use Rattle.std.proofs.lemmas.Nat.{mul-mod_first, mul-mod_second}
use Rattle.std.proofs.lemmas.Bool.{cases_eq}
use Rattle.math_numbers.specs.Primes.{IsPrime}
use Rattle.math_numbers.proofs.Orders.{cofactor_above_one}

remainder_of_multiple : (p a q r s : ℕ) → a * q + r ≡ p → s + q ≡ p → 0 < a → a * s ≡ r + p * (a - 1)
remainder_of_multiple p zero q r s e f h = omega arith
remainder_of_multiple p (suc c) q r s e f h =
    let z : suc c - 1 ≡ c = omega arith in
    rw (z, ← f) (omega arith)

-- p is a q + r, so that a times minus q is congruent to r
inverse_by_remainder : (p a q r b : ℕ) → a * q + r ≡ p → 0 < a → r * b % p ≡ 1 → a * ((p - q) * b) % p ≡ 1
inverse_by_remainder p a q r b e h k =
    let same : q ≤ q = omega arith in
    let l : 1 * q ≤ a * q = mul-le-mul h same in
    let m : a * (p - q) ≡ r + p * (a - 1) = remainder_of_multiple p a q r (p - q) e (omega arith) h in
    let n : a * ((p - q) * b) ≡ r * b + p * ((a - 1) * b) = sym (mul_assoc a (p - q) b) ∙ ap (λ t. t * b) m ∙ (omega arith) in
    ap (λ t. t % p) n ∙ add-mul-mod_self_left (r * b) p ((a - 1) * b) ∙ k

inverse_below : (fuel p a : ℕ) → IsPrime p → a < fuel → 0 < a → a < p → (b : ℕ) × (a * b % p ≡ 1)
inverse_below zero p a prime more pos small = absurd (omega arith)
inverse_below (suc fuel) p a prime more pos small =
    let whole : a * (p / a) + p % a ≡ p = div-add-mod p a in
    let below : p % a < a = mod-lt p pos in
    elim (cases_eq a 1) as (λ _. (b : ℕ) × (a * b % p ≡ 1)) [
      | inl one ↦ (1, ap (λ t. t * 1 % p) one ∙ mod-eq_of_lt prime.above_one)
      | inr many ↦ elim (cases_eq (p % a) 0) as (λ _. (b : ℕ) × (a * b % p ≡ 1)) [
        | inl z ↦ absurd (prime.no_factors a (p / a) (omega arith) (omega arith) (cofactor_above_one a (p / a) p (omega arith) small))
        | inr nz ↦
            let r = inverse_below fuel p (p % a) prime (omega arith) (omega arith) (omega arith) in
            ((p - p / a) * r.0, inverse_by_remainder p a (p / a) (p % a) r.0 whole pos r.1)
      ]
    ]

-- modulo a prime, each number that is not congruent to zero has an inverse
pub inverse_exists : (p a : ℕ) → IsPrime p → a % p ≢ 0 → (b : ℕ) × (a * b % p ≡ 1)
inverse_exists p a prime h =
    let above : 1 < p = prime.above_one in
    let r = inverse_below (suc (a % p)) p (a % p) prime (omega arith) (omega arith) (mod-lt a (omega arith)) in
    (r.0, sym (mul-mod_first a r.0 p) ∙ r.1)

-- a factor with an inverse may be left out on both sides
pub cancel_invertible : (n a b x y : ℕ) → a * b % n ≡ 1 → a * x % n ≡ a * y % n → x % n ≡ y % n
cancel_invertible n a b x y h e = sym (back x) ∙ ap (λ t. b * t % n) e ∙ back y
  where
    back : (z : ℕ) → b * (a * z % n) % n ≡ z % n
    back z =
        mul-mod_second b (a * z) n ∙ ap (λ t. t % n) (sym (mul_assoc b a z) ∙ ap (λ t. t * z) (mul_comm b a))
        ∙ sym (mul-mod_first (a * b) z n) ∙ ap (λ t. t * z % n) h ∙ ap (λ t. t % n) (one-mul z)

pub cancel_factor : (p a x y : ℕ) → IsPrime p → a % p ≢ 0 → a * x % p ≡ a * y % p → x % p ≡ y % p
cancel_factor p a x y prime h e =
    let r = inverse_exists p a prime h in
    cancel_invertible p a r.0 x y r.1 e

-- a prime that divides a product divides a factor
pub prime_divides_product : (p a b : ℕ) → IsPrime p → a * b % p ≡ 0 → (a % p ≡ 0) ⊎ (b % p ≡ 0)
prime_divides_product p a b prime h =
    elim (cases_eq (a % p) 0) as (λ _. (a % p ≡ 0) ⊎ (b % p ≡ 0)) [
      | inl z ↦ inl z
      | inr nz ↦ inr (
          let none : a * 0 % p ≡ 0 = omega arith in
          let e : b % p ≡ 0 % p = cancel_factor p a b 0 prime nz (h ∙ sym none) in
          omega arith)
    ]

-- modulo a prime no product of two numbers from 1 to p - 1 is zero
pub product_mod-positive : (p a b : ℕ) → IsPrime p → 0 < a → a < p → 0 < b → b < p → 0 < a * b % p
product_mod-positive p a b prime a_positive a_below b_positive b_below =
    let e : a % p ≡ a = mod-eq_of_lt a_below in
    let f : b % p ≡ b = mod-eq_of_lt b_below in
    elim (cases_eq (a * b % p) 0) as (λ _. 0 < a * b % p) [
      | inl z ↦ elim (prime_divides_product p a b prime z) as (λ _. 0 < a * b % p) [
        | inl x ↦ absurd (omega arith)
        | inr x ↦ absurd (omega arith)
      ]
      | inr nz ↦ omega arith
    ]
