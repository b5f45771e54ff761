-- The Goldilocks modulus is prime, and seven has the greatest order: P - 1 is 2 ^ 32 times 3, 5, 17, 257 and 65537.
use Rattle.std.proofs.Common.{◌≡◌, ◌≢◌, ℕ, ◌*◌, ◌-◌, ◌%◌, sym, ap, ◌∙◌, refl, arith, lit<, mul_comm}
use Rattle.math_numbers.specs.PowersModulo.{power_mod, HasOrder}
use Rattle.math_numbers.specs.Primes.{IsPrime}
use Rattle.math_numbers.specs.Goldilocks.{P}
use Rattle.math_numbers.proofs.PowersModulo.{power_mod-mul, power_mod-by_squaring}
use Rattle.math_numbers.proofs.Orders.{two_power_order, prime_order, order_divides, power_mod-multiple_one}
use Rattle.math_numbers.proofs.Primes.{proth}

prime_3 : IsPrime 3
prime_3 = proth 3 2 0 (omega arith) (omega arith) (power_mod-by_squaring 1 3 2 1 (lit< tt)) (lit< tt)

prime_5 : IsPrime 5
prime_5 = proth 5 2 1 (omega arith) (omega arith) (power_mod-by_squaring 2 5 2 2 (lit< tt)) (lit< tt)

prime_17 : IsPrime 17
prime_17 = proth 17 2 2 (omega arith) (omega arith) (power_mod-by_squaring 3 17 2 4 (lit< tt)) (lit< tt)

prime_257 : IsPrime 257
prime_257 = proth 257 2 3 (omega arith) (omega arith) (power_mod-by_squaring 4 257 2 8 (lit< tt)) (lit< tt)

prime_65537 : IsPrime 65537
prime_65537 = proth 65537 3 15 (omega arith) (omega arith) (power_mod-by_squaring 16 65537 3 32768 (lit< tt)) (lit< tt)

-- by Proth's test, since P - 1 is 2 ^ 32 times an odd number below 2 ^ 32
pub goldilocks_prime : IsPrime P
goldilocks_prime = proth P 0xee41f5320c4ea145 31 (omega arith) (omega arith) (power_mod-by_squaring 32 P 0xee41f5320c4ea145 2147483648 (lit< tt)) (lit< tt)

seven_power_is_one : power_mod P 7 18446744069414584320 ≡ 1
seven_power_is_one = power_mod-by_squaring 64 P 7 18446744069414584320 (lit< tt)

-- with q a prime factor of P - 1 and k its cofactor: where the power k of seven is not one, q divides each exponent at which the power of seven is one
prime_factor_divides : (q k m : ℕ) → IsPrime q → k * q ≡ 18446744069414584320 → power_mod P 7 k % P ≢ 1 → power_mod P 7 m ≡ 1 → m % q ≡ 0
prime_factor_divides q k m p e d h =
    let back : power_mod P (power_mod P 7 k) q ≡ 1 = sym (power_mod-mul P 7 k q) ∙ ap (power_mod P 7) e ∙ seven_power_is_one in
    let up : power_mod P 7 (m * k) ≡ 1 = power_mod-multiple_one P 7 m k h in
    order_divides P (power_mod P 7 k) q m (prime_order P (power_mod P 7 k) q p back d)
    (sym (power_mod-mul P 7 k m) ∙ ap (power_mod P 7) (mul_comm k m) ∙ up)

differs_from_one : (k r : ℕ) → power_mod P 7 k ≡ r → r % P ≢ 1 → power_mod P 7 k % P ≢ 1
differs_from_one k r e d = λ h. d (ap (λ t. t % P) (sym e) ∙ h)

-- each exponent at which the power of seven is one is a multiple of 2 ^ 32 and of the five primes, and so of P - 1
order_of_seven_divides : (m : ℕ) → power_mod P 7 m ≡ 1 → m % 18446744069414584320 ≡ 0
order_of_seven_divides m h =
    let two : power_mod P (power_mod P 7 4294967295) 2147483648 ≡ 18446744069414584320
    = sym (power_mod-mul P 7 4294967295 2147483648) ∙ power_mod-by_squaring 63 P 7 9223372034707292160 (lit< tt) in
    let up : power_mod P 7 (m * 4294967295) ≡ 1 = power_mod-multiple_one P 7 m 4294967295 h in
    let m2 : m % 4294967296 ≡ 0 = order_divides P (power_mod P 7 4294967295) 4294967296 m (two_power_order 31 P (power_mod P 7 4294967295) (lit< tt) two)
    (sym (power_mod-mul P 7 4294967295 m) ∙ ap (power_mod P 7) (mul_comm 4294967295 m) ∙ up) in
    let m3 : m % 3 ≡ 0 = prime_factor_divides 3 6148914689804861440 m prime_3 refl (differs_from_one _ _ (power_mod-by_squaring 63 P 7 6148914689804861440 (lit< tt)) (omega arith)) h in
    let m5 : m % 5 ≡ 0 = prime_factor_divides 5 3689348813882916864 m prime_5 refl (differs_from_one _ _ (power_mod-by_squaring 62 P 7 3689348813882916864 (lit< tt)) (omega arith)) h in
    let m17 : m % 17 ≡ 0 = prime_factor_divides 17 1085102592318504960 m prime_17 refl (differs_from_one _ _ (power_mod-by_squaring 60 P 7 1085102592318504960 (lit< tt)) (omega arith)) h in
    let m257 : m % 257 ≡ 0 = prime_factor_divides 257 71777214277877760 m prime_257 refl (differs_from_one _ _ (power_mod-by_squaring 56 P 7 71777214277877760 (lit< tt)) (omega arith)) h in
    let m65537 : m % 65537 ≡ 0 = prime_factor_divides 65537 281470681743360 m prime_65537 refl (differs_from_one _ _ (power_mod-by_squaring 48 P 7 281470681743360 (lit< tt)) (omega arith)) h in
    omega arith

pub order_of_seven : HasOrder P 7 (P - 1)
order_of_seven = record {
  positive = lit< tt;
  power_is_one = seven_power_is_one;
  least = λ m pos small h. let z : m % 18446744069414584320 ≡ 0 = order_of_seven_divides m h in omega arith;
}
