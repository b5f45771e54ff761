-- The order of a number modulo another.
use Rattle.std.proofs.Common.{◌≡◌, ◌≢◌, ℕ, zero, suc, ◌+◌, ◌-◌, ◌*◌, ◌/◌, ◌%◌, ◌<◌, ◌≤◌, ◌^◌, inl, inr, sym, ap, ◌∙◌, subst, arith, one-mul, pow-suc, pow_pos, mul_comm}
use Rattle.std.proofs.Math.Nat.{mod-lt, mod-eq_of_lt, div-add-mod, add-mul-mod_self_left}
use Rattle.std.proofs.lemmas.Nat.{mul-mod_first}
use Rattle.std.proofs.lemmas.Bool.{cases_eq, cases_lt}
use Rattle.math_numbers.specs.PowersModulo.{power_mod, power_mod-suc, HasOrder}
use Rattle.math_numbers.specs.Primes.{IsPrime}
use Rattle.math_numbers.proofs.PowersModulo.{power_mod-mod, power_mod-of_mod, power_mod-one, power_mod-add, power_mod-mul, one-power_mod}
use Rattle.math_numbers.proofs.Pigeonhole.{pigeonhole}

-- a power that is one may be left out of a product
power_mod-add_one : (n x a b : ℕ) → power_mod n x a ≡ 1 % n → power_mod n x (a + b) ≡ power_mod n x b
power_mod-add_one n x a b e =
    power_mod-add n x a b ∙ ap (λ t. t * power_mod n x b % n) e ∙ mul-mod_first 1 (power_mod n x b) n
    ∙ ap (λ t. t % n) (one-mul (power_mod n x b)) ∙ power_mod-mod n x b

-- a multiple of an exponent at which the power is one
pub power_mod-multiple_one : (n x a k : ℕ) → power_mod n x a ≡ 1 % n → power_mod n x (a * k) ≡ 1 % n
power_mod-multiple_one n x a k e = power_mod-mul n x a k ∙ ap (λ t. power_mod n t k) e ∙ one-power_mod n k

-- where the power t of x is one, and that of s is not, s is no power of x
pub is_no_power : (n x s t m : ℕ) → power_mod n x t ≡ 1 % n → power_mod n s t ≢ 1 % n → power_mod n x m ≢ s % n
is_no_power n x s t m h apart e =
    apart (sym (power_mod-of_mod n s t) ∙ ap (λ r. power_mod n r t) (sym e) ∙ sym (power_mod-mul n x m t) ∙ ap (power_mod n x) (mul_comm m t) ∙ power_mod-multiple_one n x t m h)

-- the remainder of an exponent by one at which the power is one
pub power_mod-remainder_one : (n x a m : ℕ) → power_mod n x a ≡ 1 % n → power_mod n x (m % a) ≡ power_mod n x m
power_mod-remainder_one n x a m e =
    sym (power_mod-add_one n x (a * (m / a)) (m % a) (power_mod-multiple_one n x a (m / a) e)) ∙ ap (power_mod n x) (div-add-mod m a)

-- the order divides each exponent at which the power is one
pub order_divides : (n x t m : ℕ) → HasOrder n x t → power_mod n x m ≡ 1 % n → m % t ≡ 0
order_divides n x t m o e =
    elim (cases_eq (m % t) 0) as (λ _. m % t ≡ 0) [
      | inl z ↦ z
      | inr h ↦ absurd (o.least (m % t) (omega arith) (mod-lt m o.positive) (power_mod-remainder_one n x t m o.power_is_one ∙ e))
    ]

-- the powers below the order are distinct
pub powers_distinct : (n x t i j : ℕ) → HasOrder n x t → i < j → j < t → power_mod n x i ≢ power_mod n x j
powers_distinct n x t i j o h k = λ e.
    let left : power_mod n x ((t - i) + j) ≡ power_mod n x (j - i)
    = ap (power_mod n x) (omega arith) ∙ power_mod-add_one n x t (j - i) o.power_is_one in
    let right : power_mod n x ((t - i) + i) ≡ 1 % n = ap (power_mod n x) (omega arith) ∙ o.power_is_one in
    o.least (j - i) (omega arith) (omega arith)
    (sym left ∙ power_mod-add n x (t - i) j ∙ ap (λ v. power_mod n x (t - i) * v % n) (sym e) ∙ sym (power_mod-add n x (t - i) i) ∙ right)

power_nonzero : (n x t i : ℕ) → 1 < n → HasOrder n x t → i ≤ t → power_mod n x i ≢ 0
power_nonzero n x t i big o h = λ e.
    let one : 1 % n ≡ 1 = mod-eq_of_lt big in
    let whole : power_mod n x (i + (t - i)) ≡ 1 % n = ap (power_mod n x) (omega arith) ∙ o.power_is_one in
    let none : power_mod n x (i + (t - i)) ≡ 0 * power_mod n x (t - i) % n
    = power_mod-add n x i (t - i) ∙ ap (λ v. v * power_mod n x (t - i) % n) e in
    let z : 0 * power_mod n x (t - i) % n ≡ 0 = omega arith in
    omega (arith, whole, none, z, one)

pub power_mod-below : (n x i : ℕ) → 0 < n → power_mod n x i < n
power_mod-below n x i h = subst (λ v. v < n) (power_mod-mod n x i) (mod-lt (power_mod n x i) h)

-- the order is below the modulus, since zero is no power
pub order_lt : (n x t : ℕ) → 1 < n → HasOrder n x t → t < n
order_lt n x t big o =
    elim (cases_lt t n) as (λ _. t < n) [
      | inl h ↦ h
      | inr h ↦ absurd (pigeonhole n (n - 1) (λ i. power_mod n x i - 1) (omega arith)
          (λ i k. let a : power_mod n x i < n = power_mod-below n x i (omega arith) in omega arith)
          (λ i j p q. λ e.
          let a : power_mod n x i ≢ 0 = power_nonzero n x t i big o (omega arith) in
          let b : power_mod n x j ≢ 0 = power_nonzero n x t j big o (omega arith) in
          powers_distinct n x t i j o p (omega arith) (omega arith)))
    ]

-- powers of minus one
predecessor_square : (n : ℕ) → 1 < n → (n - 1) * (n - 1) ≡ 1 + n * (n - 2)
predecessor_square zero h = omega arith
predecessor_square (suc zero) h = omega arith
predecessor_square (suc (suc k)) h =
    let e : suc (suc k) - 1 ≡ k + 1 = omega arith in
    let f : suc (suc k) - 2 ≡ k = omega arith in
    rw (e, f) (omega arith)

minus_one-square : (n : ℕ) → 1 < n → power_mod n (n - 1) 2 ≡ 1 % n
minus_one-square n h =
    power_mod-suc n (n - 1) 1 ∙ ap (λ t. t * (n - 1) % n) (power_mod-one n (n - 1)) ∙ mul-mod_first (n - 1) (n - 1) n
    ∙ ap (λ t. t % n) (predecessor_square n h) ∙ add-mul-mod_self_left 1 n (n - 2)

minus_one-odd : (n m : ℕ) → 1 < n → m % 2 ≡ 1 → power_mod n (n - 1) m ≡ n - 1
minus_one-odd n m h odd =
    let e : m ≡ 2 * (m / 2) + 1 = omega arith in
    ap (power_mod n (n - 1)) e ∙ power_mod-add_one n (n - 1) (2 * (m / 2)) 1 (power_mod-multiple_one n (n - 1) 2 (m / 2) (minus_one-square n h))
    ∙ power_mod-one n (n - 1) ∙ mod-eq_of_lt (omega arith)

-- where a power is minus one, no odd power is one
odd_power : (n x a m : ℕ) → 2 < n → power_mod n x a ≡ n - 1 → m % 2 ≡ 1 → power_mod n x m ≢ 1 % n
odd_power n x a m big e odd = λ h.
    let one : 1 % n ≡ 1 = mod-eq_of_lt (omega arith) in
    let up : power_mod n x (m * a) ≡ 1 % n = power_mod-multiple_one n x m a h in
    let down : power_mod n x (a * m) ≡ n - 1
    = power_mod-mul n x a m ∙ ap (λ t. power_mod n t m) e ∙ minus_one-odd n m (omega arith) odd in
    let c : a * m ≡ m * a = mul_comm a m in
    let both : n - 1 ≡ 1 % n = sym down ∙ ap (power_mod n x) c ∙ up in
    omega arith

two_power_least : (s n x m : ℕ) → 2 < n → power_mod n x (2 ^ s) ≡ n - 1 → 0 < m → m < 2 ^ suc s → power_mod n x m ≢ 1 % n
two_power_least zero n x m big e pos small = odd_power n x 1 m big e (omega arith)
two_power_least (suc s) n x m big e pos small =
    let double : 2 ^ suc s ≡ 2 * 2 ^ s = pow-suc 2 s ∙ mul_comm (2 ^ s) 2 in
    let double_again : 2 ^ suc (suc s) ≡ 2 ^ suc s * 2 = pow-suc 2 (suc s) in
    elim (cases_eq (m % 2) 1) as (λ _. power_mod n x m ≢ 1 % n) [
      | inl odd ↦ odd_power n x (2 ^ suc s) m big e odd
      | inr even ↦ λ h. two_power_least s n (power_mod n x 2) (m / 2) big
          (sym (power_mod-mul n x 2 (2 ^ s)) ∙ ap (power_mod n x) (sym double) ∙ e) (omega arith) (omega (arith, double, double_again))
          (sym (power_mod-mul n x 2 (m / 2)) ∙ ap (power_mod n x) (omega arith) ∙ h)
    ]

-- where the power to a power of two is minus one, the order is twice that power of two
pub two_power_order : (s n x : ℕ) → 2 < n → power_mod n x (2 ^ s) ≡ n - 1 → HasOrder n x (2 ^ suc s)
two_power_order s n x big e = record {
  positive = pow_pos (suc s);
  power_is_one = ap (power_mod n x) (pow-suc 2 s) ∙ power_mod-mul n x (2 ^ s) 2 ∙ ap (λ t. power_mod n t 2) e ∙ minus_one-square n (omega arith);
  least = λ m pos small. two_power_least s n x m big e pos small;
}

pub cofactor_above_one : (a b c : ℕ) → a * b ≡ c → a < c → 1 < b
cofactor_above_one a zero c e h = omega arith
cofactor_above_one a (suc zero) c e h = omega arith
cofactor_above_one a (suc (suc b)) c e h = omega arith

prime_least : (fuel n x q m : ℕ) → IsPrime q → power_mod n x q ≡ 1 % n → x % n ≢ 1 % n → m < fuel → 0 < m → m < q → power_mod n x m ≢ 1 % n
prime_least zero n x q m p e d more pos small = omega arith
prime_least (suc fuel) n x q m p e d more pos small = λ h.
    let next : power_mod n x (q % m) ≡ 1 % n = power_mod-remainder_one n x m q h ∙ e in
    let below : q % m < m = mod-lt q pos in
    let whole : m * (q / m) + q % m ≡ q = div-add-mod q m in
    elim (cases_eq m 1) as (λ _. ⊥) [
      | inl one ↦ d (sym (power_mod-one n x) ∙ ap (power_mod n x) (sym one) ∙ h)
      | inr many ↦ elim (cases_eq (q % m) 0) as (λ _. ⊥) [
        | inl z ↦ p.no_factors m (q / m) (omega arith) (omega arith) (cofactor_above_one m (q / m) q (omega arith) small)
        | inr nz ↦ prime_least fuel n x q (q % m) p e d (omega arith) (omega arith) (omega arith) next
      ]
    ]

-- where the power to a prime is one, and x itself is not, the order is the prime
pub prime_order : (n x q : ℕ) → IsPrime q → power_mod n x q ≡ 1 % n → x % n ≢ 1 % n → HasOrder n x q
prime_order n x q p e d = record {
  positive = let h : 1 < q = p.above_one in omega arith;
  power_is_one = e;
  least = λ m pos small. prime_least (suc m) n x q m p e d (omega arith) pos small;
}
