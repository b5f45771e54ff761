-- The laws of congruence modulo n: the numbers with sum, product and negative are a commutative ring up to it, and a field where n is an odd prime.
use Rattle.std.proofs.Common.{◌≡◌, ℕ, zero, suc, ◌+◌, ◌-◌, ◌*◌, ◌%◌, ◌<◌, sym, ap, ◌∙◌, refl, arith, add_comm, add_assoc, mul_comm, mul_assoc, one-mul, add-mul}
use Rattle.std.proofs.Math.Nat.{mod-eq_of_lt, add-mod-mod, mod-add-mod, mod-lt, mod_self, zero-mod, zero-add, ℕ_set}
use Rattle.std.proofs.lemmas.Nat.{mul-mod_first, mul-mod_second}
use Rattle.math_theory.specs.Laws.{IsEquality, IsGroup, IsProduct, IsRing, IsField}
use Rattle.math_theory.specs.Powers.{power, power-zero, power-suc}
use Rattle.math_theory.specs.Domains.{HasExactOrder}
use Rattle.math_numbers.specs.PowersModulo.{power_mod, power_mod-zero, power_mod-suc, HasOrder}
use Rattle.math_numbers.specs.Primes.{IsPrime}
use Rattle.math_numbers.specs.Congruence.{congruent, negative_mod, inverse_mod}
use Rattle.math_numbers.proofs.PowersModulo.{power_mod-of_mod}
use Rattle.math_numbers.proofs.Fermat.{inverse_mod-inverts}

module _ (n : ℕ) where
  pub congruence : IsEquality (congruent n)
  congruence = record {
    prop = λ a b. hlevel ℕ_set;
    reflexive = λ a. refl;
    symmetric = λ a b e. sym e;
    transitive = λ a b c e f. e ∙ f;
  }

  pub congruence_group : 0 < n → IsGroup (congruent n) 0 (λ a b. a + b) (negative_mod n)
  congruence_group pos = record {
    respects_sum = λ a b c d e f. sym (mod-add-mod a n c) ∙ ap (λ t. (t + c) % n) e ∙ mod-add-mod b n c ∙ sym (add-mod-mod b c n) ∙ ap (λ t. (b + t) % n) f ∙ add-mod-mod b d n;
    respects_negative = λ a b e. ap (λ t. (n - t) % n) e;
    commutative = λ a b. ap (λ t. t % n) (add_comm a b);
    associative = λ a b c. ap (λ t. t % n) (add_assoc a b c);
    identity = λ a. ap (λ t. t % n) (zero-add a);
    inverse = λ a.
        let l : a % n < n = mod-lt a pos in
        sym (mod-add-mod a n (n - a % n)) ∙ ap (λ t. t % n) (let e : a % n + (n - a % n) ≡ n = omega arith in e) ∙ mod_self n ∙ sym (zero-mod n);
  }

  pub congruence_product : IsProduct (congruent n) (λ a b. a * b)
  congruence_product = record {
    respects = λ a b c d e f. sym (mul-mod_first a c n) ∙ ap (λ t. t * c % n) e ∙ mul-mod_first b c n ∙ sym (mul-mod_second b c n) ∙ ap (λ t. b * t % n) f ∙ mul-mod_second b d n;
    commutative = λ a b. ap (λ t. t % n) (mul_comm a b);
    associative = λ a b c. ap (λ t. t % n) (mul_assoc a b c);
  }

  pub congruence_ring : IsRing (congruent n) (λ a b. a + b) (λ a b. a * b) 1
  congruence_ring = record {
    identity = λ a. ap (λ t. t % n) (one-mul a);
    distributive = λ a b c. ap (λ t. t % n) (add-mul a b c);
  }

  pub congruence_field : IsPrime n → 2 < n → IsField (congruent n) 0 (λ a b. a * b) 1 (inverse_mod n)
  congruence_field prime odd = record {
    distinct = λ e. let k : 1 % n ≡ 1 = mod-eq_of_lt (omega arith) in omega arith;
    respects = λ a b e. ap (λ t. t % n) (sym (power_mod-of_mod n a (n - 2)) ∙ ap (λ t. power_mod n t (n - 2)) e ∙ power_mod-of_mod n b (n - 2));
    inverse_of_zero = ap (λ t. power_mod n 0 t % n) (let s : n - 2 ≡ suc (n - 3) = omega arith in s) ∙ ap (λ t. t % n) (power_mod-suc n 0 (n - 3)) ∙ (omega arith);
    inverts = λ a d. inverse_mod-inverts n a prime (λ z. d (omega arith)) ∙ sym (mod-eq_of_lt (omega arith));
  }

  -- the power over sum and product of numbers, modulo n
  pub congruence_power : (x k : ℕ) → power 1 (λ a b. a * b) x k % n ≡ power_mod n x k
  congruence_power x zero = ap (λ t. t % n) (power-zero 1 (λ a b. a * b) x) ∙ sym (power_mod-zero n x)
  congruence_power x (suc k) =
      ap (λ t. t % n) (power-suc 1 (λ a b. a * b) x k) ∙ sym (mul-mod_first (power 1 (λ a b. a * b) x k) x n) ∙ ap (λ t. t * x % n) (congruence_power x k) ∙ sym (power_mod-suc n x k)

  -- the order modulo n is the exact order up to congruence
  pub congruence_order : (x t : ℕ) → HasOrder n x t → HasExactOrder (congruent n) 1 (λ a b. a * b) x t
  congruence_order x t o = record {
    positive = o.positive;
    power_is_one = congruence_power x t ∙ o.power_is_one;
    least = λ m positive small e. o.least m positive small (sym (congruence_power x m) ∙ e);
  }
