-- Fermat's little theorem: modulo a prime p, multiplication by a number that is not congruent to zero permutes the numbers from 1 to p - 1, so that its power p - 1 leaves their product as it is.
use Rattle.std.proofs.Common.{◌≡◌, ◌≢◌, ℕ, zero, suc, ◌-◌, ◌*◌, ◌%◌, ◌<◌, inl, inr, sym, ap, ◌∙◌, arith, mul-one, mul_comm}
use Rattle.std.proofs.Math.Nat.{mod-lt, mod-eq_of_lt}
use Rattle.std.proofs.lemmas.Nat.{mul-mod_first, mul-mod_second}
use Rattle.math_numbers.specs.PowersModulo.{power_mod, power_mod-zero, power_mod-suc}
use Rattle.math_numbers.specs.Pigeonhole.{MapsBelow, DistinctBelow}
use Rattle.math_numbers.specs.Primes.{IsPrime}
use Rattle.math_numbers.specs.Congruence.{inverse_mod}
use Rattle.math_numbers.proofs.PowersModulo.{power_mod-mod}
use Rattle.math_numbers.proofs.Pigeonhole.{product_below, product_below-ap, product_below-rearranged}
use Rattle.math_numbers.proofs.InversesModulo.{cancel_factor, prime_divides_product}

module _ (p a : ℕ) (prime : IsPrime p) (apart : a % p ≢ 0) where
  -- no number from 1 to p - 1 is congruent to zero, nor is its multiple by a, nor the product of the first of them
  multiple_nonzero : (i : ℕ) → i < p - 1 → a * suc i % p ≢ 0
  multiple_nonzero i h e = elim (prime_divides_product p a (suc i) prime e) as (λ _. ⊥) [
    | inl z ↦ apart z
    | inr z ↦ let k : suc i % p ≡ suc i = mod-eq_of_lt (omega arith) in omega arith
  ]

  factorial_nonzero : (m : ℕ) → m < p → product_below suc m % p ≢ 0
  factorial_nonzero zero h e = let k : 1 % p ≡ 1 = mod-eq_of_lt prime.above_one in omega arith
  factorial_nonzero (suc m) h e = elim (prime_divides_product p (product_below suc m) (suc m) prime e) as (λ _. ⊥) [
    | inl z ↦ factorial_nonzero m (omega arith) z
    | inr z ↦ let k : suc m % p ≡ suc m = mod-eq_of_lt h in omega arith
  ]

  -- the place that i takes
  abbrev place : ℕ → ℕ
  place i = a * suc i % p - 1

  place_below : MapsBelow place (p - 1) (p - 1)
  place_below i h = let above : 1 < p = prime.above_one in let l : a * suc i % p < p = mod-lt (a * suc i) (omega arith) in omega arith

  place_distinct : DistinctBelow place (p - 1)
  place_distinct i j h k e =
      let x : a * suc i % p ≢ 0 = multiple_nonzero i (omega arith) in
      let y : a * suc j % p ≢ 0 = multiple_nonzero j k in
      let same : suc i % p ≡ suc j % p = cancel_factor p a (suc i) (suc j) prime apart (omega arith) in
      let r : suc i % p ≡ suc i = mod-eq_of_lt (omega arith) in
      let s : suc j % p ≡ suc j = mod-eq_of_lt (omega arith) in
      omega arith

  product_of_multiples : (m : ℕ) → product_below (λ i. a * suc i % p) m % p ≡ power_mod p a m * product_below suc m % p
  product_of_multiples zero = sym (ap (λ t. t * 1 % p) (power_mod-zero p a) ∙ mul-mod_first 1 1 p)
  product_of_multiples (suc m) =
      let c = product_below suc m in
      let w = power_mod p a m in
      mul-mod_second (product_below (λ i. a * suc i % p) m) (a * suc m) p ∙ sym (mul-mod_first (product_below (λ i. a * suc i % p) m) (a * suc m) p)
      ∙ ap (λ t. t * (a * suc m) % p) (product_of_multiples m) ∙ mul-mod_first (w * c) (a * suc m) p
      ∙ ap (λ t. t % p) (let e : w * c * (a * suc m) ≡ w * a * (c * suc m) = omega arith in e)
      ∙ sym (mul-mod_first (w * a) (c * suc m) p) ∙ ap (λ t. t * (c * suc m) % p) (sym (power_mod-suc p a m))

  pub fermat : power_mod p a (p - 1) ≡ 1
  fermat =
      let above : 1 < p = prime.above_one in
      let c = product_below suc (p - 1) in
      let w = power_mod p a (p - 1) in
      let same : product_below (λ i. a * suc i % p) (p - 1) ≡ c =
      product_below-ap (λ i. a * suc i % p) (λ i. suc (place i)) (p - 1) (λ i h. let x : a * suc i % p ≢ 0 = multiple_nonzero i h in omega arith)
      ∙ product_below-rearranged (p - 1) suc place place_below place_distinct in
      let e : c * w % p ≡ c * 1 % p = ap (λ t. t % p) (mul_comm c w) ∙ sym (product_of_multiples (p - 1)) ∙ ap (λ t. t % p) (same ∙ sym (mul-one c)) in
      sym (power_mod-mod p a (p - 1)) ∙ cancel_factor p c w 1 prime (factorial_nonzero (p - 1) (omega arith)) e ∙ mod-eq_of_lt above

  -- the power p - 2 is inverse to a
  pub inverse_mod-inverts : a * inverse_mod p a % p ≡ 1
  inverse_mod-inverts =
      let above : 1 < p = prime.above_one in
      ap (λ t. t % p) (mul_comm a (power_mod p a (p - 2))) ∙ sym (power_mod-suc p a (p - 2)) ∙ ap (power_mod p a) (let e : suc (p - 2) ≡ p - 1 = omega arith in e) ∙ fermat
