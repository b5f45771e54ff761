-- Powers modulo a number, and their computation by repeated squaring.
use Rattle.std.proofs.Common.{◌≡◌, ℕ, zero, suc, ◌+◌, ◌*◌, ◌/◌, ◌%◌, ◌<◌, ◌^◌, sym, ap, ◌∙◌, arith, mul_assoc, mul-one, one-mul, add-suc, add-zero, mul-suc, mul-zero, pow-suc}
use Rattle.std.proofs.Math.Nat.{mod-mod, mod-mod_of_dvd, pow-zero}
use Rattle.std.proofs.lemmas.Nat.{mul-mod_first, mul-mod_second}
use Rattle.std.specs.Int.{◌∣◌}
use Rattle.math_numbers.specs.PowersModulo.{power_mod, power_mod-zero, power_mod-suc}

pub power_mod-mod : (n x k : ℕ) → power_mod n x k % n ≡ power_mod n x k
power_mod-mod n x zero = rw (power_mod-zero n x) (mod-mod 1 n)
power_mod-mod n x (suc k) = rw (power_mod-suc n x k) (mod-mod (power_mod n x k * x) n)

-- a power modulo n is the remainder of the power
pub power_mod-is_pow : (n x k : ℕ) → power_mod n x k ≡ x ^ k % n
power_mod-is_pow n x zero = power_mod-zero n x ∙ ap (λ t. t % n) (sym (pow-zero x))
power_mod-is_pow n x (suc k) =
    power_mod-suc n x k ∙ ap (λ t. t * x % n) (power_mod-is_pow n x k) ∙ mul-mod_first (x ^ k) x n ∙ ap (λ t. t % n) (sym (pow-suc x k))

-- it depends on the remainder of x alone
pub power_mod-of_mod : (n x k : ℕ) → power_mod n (x % n) k ≡ power_mod n x k
power_mod-of_mod n x zero = power_mod-zero n (x % n) ∙ sym (power_mod-zero n x)
power_mod-of_mod n x (suc k) =
    power_mod-suc n (x % n) k ∙ mul-mod_second (power_mod n (x % n) k) x n ∙ ap (λ t. t * x % n) (power_mod-of_mod n x k) ∙ sym (power_mod-suc n x k)

pub power_mod-one : (n x : ℕ) → power_mod n x 1 ≡ x % n
power_mod-one n x =
    power_mod-suc n x 0 ∙ ap (λ t. t * x % n) (power_mod-zero n x) ∙ mul-mod_first 1 x n ∙ ap (λ t. t % n) (one-mul x)

pub power_mod-add : (n x a b : ℕ) → power_mod n x (a + b) ≡ power_mod n x a * power_mod n x b % n
power_mod-add n x a zero =
    let e : power_mod n x a * (1 % n) % n ≡ power_mod n x a = mul-mod_second (power_mod n x a) 1 n ∙ ap (λ t. t % n) (mul-one (power_mod n x a)) ∙ power_mod-mod n x a in
    ap (power_mod n x) (add-zero a) ∙ sym e ∙ ap (λ t. power_mod n x a * t % n) (sym (power_mod-zero n x))
power_mod-add n x a (suc b) =
    ap (power_mod n x) (add-suc a b) ∙ power_mod-suc n x (a + b) ∙ ap (λ t. t * x % n) (power_mod-add n x a b)
    ∙ mul-mod_first (power_mod n x a * power_mod n x b) x n ∙ ap (λ t. t % n) (mul_assoc (power_mod n x a) (power_mod n x b) x)
    ∙ sym (mul-mod_second (power_mod n x a) (power_mod n x b * x) n) ∙ ap (λ t. power_mod n x a * t % n) (sym (power_mod-suc n x b))

pub power_mod-mul : (n x a b : ℕ) → power_mod n x (a * b) ≡ power_mod n (power_mod n x a) b
power_mod-mul n x a zero = ap (power_mod n x) (mul-zero a) ∙ power_mod-zero n x ∙ sym (power_mod-zero n (power_mod n x a))
power_mod-mul n x a (suc b) =
    ap (power_mod n x) (mul-suc a b) ∙ power_mod-add n x (a * b) a ∙ ap (λ t. t * power_mod n x a % n) (power_mod-mul n x a b)
    ∙ sym (power_mod-suc n (power_mod n x a) b)

pub one-power_mod : (n k : ℕ) → power_mod n (1 % n) k ≡ 1 % n
one-power_mod n zero = power_mod-zero n (1 % n)
one-power_mod n (suc k) =
    power_mod-suc n (1 % n) k ∙ ap (λ t. t * (1 % n) % n) (one-power_mod n k) ∙ mul-mod_first 1 (1 % n) n ∙ ap (λ t. t % n) (one-mul (1 % n)) ∙ mod-mod 1 n

-- the powers modulo a divisor
pub power_mod-divisor : (n d x k : ℕ) → d ∣ n → power_mod n x k % d ≡ power_mod d x k
power_mod-divisor n d x zero h = ap (λ t. t % d) (power_mod-zero n x) ∙ mod-mod_of_dvd d 1 h ∙ sym (power_mod-zero d x)
power_mod-divisor n d x (suc k) h =
    ap (λ t. t % d) (power_mod-suc n x k) ∙ mod-mod_of_dvd d (power_mod n x k * x) h ∙ sym (mul-mod_first (power_mod n x k) x d)
    ∙ ap (λ t. t * x % d) (power_mod-divisor n d x k h) ∙ sym (power_mod-suc d x k)

-- from half, the power of x to the half of an exponent with remainder r by 2, the power to that exponent
abbrev pub square_step : ℕ → ℕ → ℕ → ℕ → ℕ
square_step n x zero half = half * half % n
square_step n x (suc _) half = half * half % n * x % n

-- x to the power k modulo n by repeated squaring, for an exponent of so many bits
abbrev pub power_by_squaring : ℕ → ℕ → ℕ → ℕ → ℕ
power_by_squaring zero n x k = 1 % n
power_by_squaring (suc bits) n x k = square_step n x (k % 2) (power_by_squaring bits n x (k / 2))

square_step-is_power : (n x r h k : ℕ) → r < 2 → power_mod n x k ≡ h → power_mod n x (r + 2 * k) ≡ square_step n x r h
square_step-is_power n x zero h k s e =
    ap (power_mod n x) (let e : 0 + 2 * k ≡ k + k = omega arith in e) ∙ power_mod-add n x k k ∙ ap (λ t. t * t % n) e
square_step-is_power n x (suc r) h k s e =
    ap (power_mod n x) (let e : suc r + 2 * k ≡ suc (k + k) = omega arith in e) ∙ power_mod-suc n x (k + k) ∙ ap (λ t. t * x % n) (power_mod-add n x k k ∙ ap (λ t. t * t % n) e)

-- at numerals the right side computes, so that a power of a large exponent is known by `power_mod-by_squaring bits n x k (lit< tt)`
pub power_mod-by_squaring : (bits n x k : ℕ) → k < 2 ^ bits → power_mod n x k ≡ power_by_squaring bits n x k
power_mod-by_squaring zero n x k h = ap (power_mod n x) (let z : k ≡ 0 = omega arith in z) ∙ power_mod-zero n x
power_mod-by_squaring (suc bits) n x k h =
    let p : 2 ^ suc bits ≡ 2 ^ bits * 2 = pow-suc 2 bits in
    ap (power_mod n x) (let e : k ≡ k % 2 + 2 * (k / 2) = omega arith in e)
    ∙ square_step-is_power n x (k % 2) _ (k / 2) (omega arith) (power_mod-by_squaring bits n x (k / 2) (omega (arith, p)))
