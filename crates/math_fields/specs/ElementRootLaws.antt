-- The Goldilocks field is a field with roots of unity.
use Rattle.std.proofs.Common.{◌≡◌, ◌≢◌, ℕ, zero, suc, ◌+◌, ◌-◌, ◌*◌, ◌%◌, ◌≤◌, ◌^◌, sym, ap, ◌∙◌, refl, arith, lit<, mul_comm, pow-suc, pow-add}
use Rattle.std.proofs.Math.Nat.{mod-mod}
use Rattle.std.proofs.lemmas.Nat.{mul-mod_first, mul-mod_second}
use Rattle.math_theory.specs.Domains.{HasExactOrder}
use Rattle.math_numbers.specs.Goldilocks.{P}
use Rattle.math_theory.specs.Laws.{IsField}
use Rattle.math_theory.specs.Powers.{power}
use Rattle.math_numbers.specs.PowersModulo.{power_mod, HasOrder}
use Rattle.math_theory.specs.RootLaws.{HasRootsOfUnity}
use Rattle.math_numbers.proofs.GoldilocksPrime.{goldilocks_prime}
use Rattle.math_numbers.proofs.Orders.{two_power_order, power_mod-multiple_one}
use Rattle.math_numbers.proofs.PowersModulo.{power_mod-of_mod, power_mod-one, power_mod-mul, power_mod-add, power_by_squaring, power_mod-by_squaring}
use Rattle.math_theory.proofs.rings.ResidueLaws.{residues_field, residues_power}
use Rattle.math_fields.specs.Elements.{number, residue, same, sum, product, inverse, root_of, shift_of, half_of}
use Rattle.math_fields.specs.Roots.{squared, greatest_root, root, shift}

pub field : IsField same (residue 0) product (residue 1) inverse
field = residues_field P number residue (λ k. refl) (λ a. a.below) goldilocks_prime (lit< tt)

squared-power : (k : ℕ) → squared k greatest_root ≡ power_mod P greatest_root (2 ^ k)
squared-power zero = sym (power_mod-one P greatest_root)
squared-power (suc k) =
    ap (λ t. t * t % P) (squared-power k) ∙ sym (power_mod-add P greatest_root (2 ^ k) (2 ^ k)) ∙ ap (power_mod P greatest_root) (let h : 2 ^ suc k ≡ 2 ^ k * 2 = pow-suc 2 k in omega arith)

-- the power at half of the order is minus one
order_of_root : (lg : ℕ) → lg ≤ 32 → HasOrder P (root lg) (2 ^ lg)
order_of_root zero h = record { positive = omega arith; power_is_one = power_mod-one P 1; least = λ m low high. omega arith }
order_of_root (suc lg) h =
    let all : 32 - suc lg + lg ≡ 31 = omega arith in
    let e : 2 ^ (32 - suc lg) * 2 ^ lg ≡ 2 ^ 31 = sym (pow-add 2 (32 - suc lg) lg) ∙ ap (λ t. 2 ^ t) all in
    two_power_order lg P (root (suc lg)) (lit< tt)
    (ap (λ t. power_mod P t (2 ^ lg)) (squared-power (32 - suc lg)) ∙ sym (power_mod-mul P greatest_root (2 ^ (32 - suc lg)) (2 ^ lg)) ∙ ap (power_mod P greatest_root) e
    ∙ power_mod-by_squaring 32 P greatest_root 2147483648 (lit< tt))

power_of_root : (lg m : ℕ) → number (power (residue 1) product (root_of lg) m) ≡ power_mod P (root lg) m
power_of_root lg m = residues_power P number residue (λ k. refl) (λ a. a.below) (root_of lg) m ∙ power_mod-of_mod P (root lg) m

exact_order : (lg : ℕ) → lg ≤ 32 → HasExactOrder same (residue 1) product (root_of lg) (2 ^ lg)
exact_order lg h =
    let o = order_of_root lg h in
    record {
      positive = o.positive;
      power_is_one = power_of_root lg (2 ^ lg) ∙ o.power_is_one;
      least = λ m low high e. o.least m low high (sym (power_of_root lg m) ∙ e);
    }

-- the power 2^32 of each root is one, and that of the shift is not
greatest_power : (lg : ℕ) → lg ≤ 32 → power_mod P (root lg) 4294967296 ≡ 1
greatest_power lg h =
    ap (λ t. power_mod P t 4294967296) (squared-power (32 - lg)) ∙ sym (power_mod-mul P greatest_root (2 ^ (32 - lg)) 4294967296)
    ∙ ap (power_mod P greatest_root) (mul_comm (2 ^ (32 - lg)) 4294967296)
    ∙ power_mod-multiple_one P greatest_root 4294967296 (2 ^ (32 - lg)) (power_mod-by_squaring 33 P greatest_root 4294967296 (lit< tt))

shift_apart : (lg m : ℕ) → lg ≤ 32 → power_mod P (root lg) m ≢ shift
shift_apart lg m h = λ e.
    let up : power_mod P shift 4294967296 ≡ 1
    = ap (λ t. power_mod P t 4294967296) (sym e) ∙ sym (power_mod-mul P (root lg) m 4294967296) ∙ ap (power_mod P (root lg)) (mul_comm m 4294967296)
    ∙ power_mod-multiple_one P (root lg) 4294967296 m (greatest_power lg h) in
    let apart : power_by_squaring 33 P shift 4294967296 ≢ 1 = omega arith in
    apart (sym (power_mod-by_squaring 33 P shift 4294967296 (lit< tt)) ∙ up)

pub roots : HasRootsOfUnity same (residue 0) sum product (residue 1) 32 root_of shift_of half_of
roots = record {
  order = exact_order;
  square = λ lg h. let e : suc (32 - suc lg) ≡ 32 - lg = omega arith in let r = root (suc lg) in mul-mod_first r (r % P) P
      ∙ mul-mod_second r r P ∙ sym (mod-mod (r * r) P) ∙ ap (λ k. squared k greatest_root % P) e;
  shift_is_not_zero = λ e. let h : shift % P ≡ 0 = e in omega arith;
  shift_is_no_power = λ lg h m e. shift_apart lg m h (sym (power_of_root lg m) ∙ sym e);
  respects_half = λ a b e. ap (λ t. t * 9223372034707292161 % P) e;
  half_twice = λ a. omega (arith, a.below);
}
