-- The roots of unity modulo 97, a shift that is no power of any of them, and halves.
use Rattle.std.proofs.Common.{◌≡◌, ◌≢◌, ℕ, zero, suc, ◌+◌, ◌-◌, ◌*◌, ◌%◌, ◌<◌, ◌≤◌, ◌^◌, sym, ap, ◌∙◌, refl, arith, lit<, pow-add}
use Rattle.math_numbers.specs.Congruence.{congruent}
use Rattle.math_numbers.specs.PowersModulo.{power_mod, HasOrder}
use Rattle.math_theory.specs.RootLaws.{HasRootsOfUnity}
use Rattle.math_theory.proofs.rings.CongruenceLaws.{congruence_product, congruence_power, congruence_order}
use Rattle.math_numbers.proofs.Orders.{two_power_order, power_mod-multiple_one, is_no_power}
use Rattle.math_numbers.proofs.PowersModulo.{power_mod-one, power_by_squaring, power_mod-by_squaring}
use Rattle.math_samples.specs.Quotients.{root, shift}
use Rattle.math_samples.specs.declared.quotients.TheConstants.{MODULUS}

-- the product with the inverse of two
abbrev pub half_of_number : ℕ → ℕ
half_of_number a = a * 49

-- the power at half of the order is minus one
half_power : (lg : ℕ) → suc lg ≤ 5 → power_mod MODULUS (root (suc lg)) (2 ^ lg) ≡ 96
half_power zero h = power_mod-by_squaring 5 MODULUS 96 1 (lit< tt)
half_power (suc zero) h = power_mod-by_squaring 5 MODULUS 22 2 (lit< tt)
half_power (suc (suc zero)) h = power_mod-by_squaring 5 MODULUS 64 4 (lit< tt)
half_power (suc (suc (suc zero))) h = power_mod-by_squaring 5 MODULUS 8 8 (lit< tt)
half_power (suc (suc (suc (suc zero)))) h = power_mod-by_squaring 5 MODULUS 28 16 (lit< tt)
half_power (suc (suc (suc (suc (suc lg))))) h = absurd (omega arith)

order_of_root : (lg : ℕ) → lg ≤ 5 → HasOrder MODULUS (root lg) (2 ^ lg)
order_of_root zero h = record { positive = lit< tt; power_is_one = power_mod-one MODULUS 1; least = λ m low high. omega arith }
order_of_root (suc lg) h = two_power_order lg MODULUS (root (suc lg)) (lit< tt) (half_power lg h)

root-square : (lg : ℕ) → lg < 5 → root (suc lg) * root (suc lg) % MODULUS ≡ root lg % MODULUS
root-square zero h = refl
root-square (suc zero) h = refl
root-square (suc (suc zero)) h = refl
root-square (suc (suc (suc zero))) h = refl
root-square (suc (suc (suc (suc zero)))) h = refl
root-square (suc (suc (suc (suc (suc lg))))) h = absurd (omega arith)

-- the power 32 of each root is one, and that of the shift is not
greatest_power : (lg : ℕ) → lg ≤ 5 → power_mod MODULUS (root lg) 32 ≡ 1
greatest_power lg h =
    let e : 2 ^ lg * 2 ^ (5 - lg) ≡ 32 = sym (pow-add 2 lg (5 - lg)) ∙ ap (λ t. 2 ^ t) (let f : lg + (5 - lg) ≡ 5 = omega arith in f) in
    ap (power_mod MODULUS (root lg)) (sym e) ∙ power_mod-multiple_one MODULUS (root lg) (2 ^ lg) (2 ^ (5 - lg)) (order_of_root lg h).power_is_one

shift_power : power_mod MODULUS shift 32 ≢ 1
shift_power = λ e.
    let apart : power_by_squaring 6 MODULUS shift 32 ≢ 1 = omega arith in
    apart (sym (power_mod-by_squaring 6 MODULUS shift 32 (lit< tt)) ∙ e)

pub roots_modulo : HasRootsOfUnity (congruent MODULUS) 0 (λ a b. a + b) (λ a b. a * b) 1 5 root shift half_of_number
roots_modulo = record {
  order = λ lg h. congruence_order MODULUS (root lg) (2 ^ lg) (order_of_root lg h);
  square = root-square;
  shift_is_not_zero = λ e. let h : 5 ≡ 0 = e in omega arith;
  shift_is_no_power = λ lg h m e. is_no_power MODULUS (root lg) shift 32 m (greatest_power lg h) shift_power (sym (congruence_power MODULUS (root lg) m) ∙ sym e);
  respects_half = λ a b e. (congruence_product MODULUS).respects a b 49 49 e refl;
  half_twice = λ a. omega arith;
}
