-- Laws of powers in a commutative ring.
use Rattle.std.proofs.Common.{◌≡◌, ℕ, zero, suc, ◌+◌, ◌*◌, ◌<◌, sym, ◌∙◌, ap, ap₂, arith}
use Rattle.math_theory.specs.OverRing.{power}
use Rattle.math_theory.specs.Powers.{power-zero, power-suc}
use Rattle.math_theory.specs.Rings.{CommutativeRing}
use Rattle.math_theory.proofs.rings.RingLaws.{product-one_right, product-left_comm, product-zero}

module _ {A : Type 0} (R : CommutativeRing A) where
  open R use {product}

  pub power-one : (a : A) → power R a 1 ≡ a
  power-one a = power-suc R.one product a 0 ∙ ap (λ x. product x a) (power-zero R.one product a) ∙ R.product_one a

  pub power-of_one : (n : ℕ) → power R R.one n ≡ R.one
  power-of_one zero = power-zero R.one product R.one
  power-of_one (suc n) = power-suc R.one product R.one n ∙ ap (λ x. product x R.one) (power-of_one n) ∙ R.product_one R.one

  -- a positive power of zero is zero
  pub power-of_zero : (n : ℕ) → 0 < n → power R R.zero n ≡ R.zero
  power-of_zero zero l = absurd (omega arith)
  power-of_zero (suc n) l = power-suc R.one product R.zero n ∙ product-zero R (power R R.zero n)

  pub power-add : (a : A) (m n : ℕ) → power R a (m + n) ≡ product (power R a m) (power R a n)
  power-add a m zero = let e : m + 0 ≡ m = omega arith in ap (power R a) e ∙ sym (ap (product (power R a m)) (power-zero R.one product a) ∙ product-one_right R (power R a m))
  power-add a m (suc n) =
      let e : m + suc n ≡ suc (m + n) = omega arith in
      ap (power R a) e ∙ power-suc R.one product a (m + n) ∙ ap (λ x. product x a) (power-add a m n) ∙ R.product_assoc (power R a m) (power R a n) a
      ∙ sym (ap (product (power R a m)) (power-suc R.one product a n))

  pub power-mul : (a : A) (m n : ℕ) → power R a (m * n) ≡ power R (power R a m) n
  power-mul a m zero = let e : m * 0 ≡ 0 = omega arith in ap (power R a) e ∙ power-zero R.one product a ∙ sym (power-zero R.one product (power R a m))
  power-mul a m (suc n) =
      let e : m * suc n ≡ m * n + m = omega arith in
      ap (power R a) e ∙ power-add a (m * n) m ∙ ap (λ x. product x (power R a m)) (power-mul a m n) ∙ sym (power-suc R.one product (power R a m) n)

  pub power-product : (a b : A) (n : ℕ) → power R (product a b) n ≡ product (power R a n) (power R b n)
  power-product a b zero = power-zero R.one product (product a b) ∙ sym (ap₂ product (power-zero R.one product a) (power-zero R.one product b) ∙ R.product_one R.one)
  power-product a b (suc n) =
      power-suc R.one product (product a b) n ∙ ap (λ x. product x (product a b)) (power-product a b n)
      ∙ R.product_assoc (power R a n) (power R b n) (product a b) ∙ ap (product (power R a n)) (product-left_comm R (power R b n) a b) ∙ sym (R.product_assoc (power R a n) a (product (power R b n) b))
      ∙ sym (ap₂ product (power-suc R.one product a n) (power-suc R.one product b n))
