-- Powers of two.
use Rattle.std.proofs.Common.{◌≡◌, ℕ, zero, suc, ◌+◌, ◌-◌, ◌^◌, ◌<◌, ◌≤◌, pow-suc, pow_pos, arith}

pub power_of_two-double : (n : ℕ) → 0 < n → 2 ^ n ≡ 2 ^ (n - 1) + 2 ^ (n - 1)
power_of_two-double zero h = absurd (omega arith)
power_of_two-double (suc n) h = let e : suc n - 1 ≡ n = omega arith in rw e (omega (arith, pow-suc 2 n))

rises-by : (m d : ℕ) → 2 ^ m ≤ 2 ^ (m + d)
rises-by m zero = let e : m + 0 ≡ m = omega arith in rw e (omega arith)
rises-by m (suc d) = let e : m + suc d ≡ suc (m + d) = omega arith in rw e (omega (arith, rises-by m d, pow-suc 2 (m + d)))

pub power_of_two-rises : (m n : ℕ) → m ≤ n → 2 ^ m ≤ 2 ^ n
power_of_two-rises m n h = let e : m + (n - m) ≡ n = omega arith in rw e at (rises-by m (n - m))

pub power_of_two-few : (n : ℕ) → n ≤ 8 → 2 ^ n ≤ 256
power_of_two-few n h = power_of_two-rises n 8 h

pub power_of_two-word : (n : ℕ) → n < 64 → 2 ^ n ≤ 2 ^ 63
power_of_two-word n h = power_of_two-rises n 63 (omega arith)

-- equal powers have equal exponents
pub power_of_two-same : (m n : ℕ) → 2 ^ m ≡ 2 ^ n → m ≡ n
power_of_two-same m n e =
    let no_less : ¬ (m < n) = λ l. let up : 2 ^ suc m ≤ 2 ^ n = power_of_two-rises (suc m) n (omega arith) in omega (arith, pow-suc 2 m, pow_pos m) in
    let no_more : ¬ (n < m) = λ l. let up : 2 ^ suc n ≤ 2 ^ m = power_of_two-rises (suc n) m (omega arith) in omega (arith, pow-suc 2 n, pow_pos n) in
    omega (arith, no_less, no_more)
