-- Powers by squaring from the lowest bit of the exponent up: a product so far times a power of a base is the whole power.
use Rattle.std.proofs.Common.{◌≡◌, ℕ, ◌+◌, ◌*◌, ◌/◌, ◌%◌, ◌<◌, sym, ap, ◌∙◌, arith, mul_assoc, one-mul, mul-one}
use Rattle.std.proofs.Math.Nat.{mod-eq_of_lt}
use Rattle.std.proofs.lemmas.Nat.{mul-mod_first, mul-mod_second}
use Rattle.math_numbers.specs.PowersModulo.{power_mod, power_mod-zero, power_mod-suc}
use Rattle.math_numbers.proofs.PowersModulo.{power_mod-mod, power_mod-one, power_mod-add, power_mod-mul}

power_mod-two : (n x : ℕ) → power_mod n x 2 ≡ x * x % n
power_mod-two n x = power_mod-suc n x 1 ∙ ap (λ t. t * x % n) (power_mod-one n x) ∙ mul-mod_first x x n

even_part : (n x k : ℕ) → power_mod n x (2 * (k / 2)) ≡ power_mod n (x * x % n) (k / 2)
even_part n x k = power_mod-mul n x 2 (k / 2) ∙ ap (λ t. power_mod n t (k / 2)) (power_mod-two n x)

pub even_step : (n out x k : ℕ) → k % 2 ≡ 0 → out * power_mod n (x * x % n) (k / 2) % n ≡ out * power_mod n x k % n
even_step n out x k e = ap (λ t. out * t % n) (sym (even_part n x k) ∙ ap (power_mod n x) (omega arith))

pub odd_step : (n out x k : ℕ) → k % 2 ≡ 1 → out * x % n * power_mod n (x * x % n) (k / 2) % n ≡ out * power_mod n x k % n
odd_step n out x k e =
    let s : power_mod n x (1 + 2 * (k / 2)) ≡ x * power_mod n (x * x % n) (k / 2) % n
    = power_mod-add n x 1 (2 * (k / 2)) ∙ ap (λ t. t * power_mod n x (2 * (k / 2)) % n) (power_mod-one n x)
    ∙ mul-mod_first x (power_mod n x (2 * (k / 2))) n ∙ ap (λ t. x * t % n) (even_part n x k) in
    mul-mod_first (out * x) _ n ∙ ap (λ t. t % n) (mul_assoc out x _) ∙ sym (mul-mod_second out _ n) ∙ ap (λ t. out * t % n) (sym s)
    ∙ ap (λ t. out * power_mod n x t % n) (omega arith)

pub first_step : (n x k : ℕ) → 1 * power_mod n x k % n ≡ power_mod n x k
first_step n x k = ap (λ t. t % n) (one-mul (power_mod n x k)) ∙ power_mod-mod n x k

pub last_step : (n out x k : ℕ) → 1 < n → out < n → k ≡ 0 → out ≡ out * power_mod n x k % n
last_step n out x k big small z =
    sym (ap (λ t. out * power_mod n x t % n) z ∙ ap (λ t. out * t % n) (power_mod-zero n x ∙ mod-eq_of_lt big) ∙ ap (λ t. t % n) (mul-one out) ∙ mod-eq_of_lt small)
