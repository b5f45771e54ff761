-- Weighted sums over a commutative ring: their order, and lists of weights that are all zero, or all but one.
use Rattle.std.proofs.Common.{◌≡◌, ◌≢◌, ℕ, zero, suc, ◌<◌, List, [], ◌∷◌, length, get_or, refl, ◌∙◌, ap, ap₂, arith}
use Rattle.math_theory.specs.OverRing.{weighted_sum}
use Rattle.math_theory.specs.Rings.{CommutativeRing}
use Rattle.math_theory.proofs.rings.RingLaws.{sum-zero_right, product-zero, product-one_right}

module _ {A : Type 0} (R : CommutativeRing A) where
  open R use {sum, product}

  pub weighted_sum-comm : (xs ws : List A) → weighted_sum R xs ws ≡ weighted_sum R ws xs
  weighted_sum-comm [] [] = refl
  weighted_sum-comm [] (w ∷ ws) = refl
  weighted_sum-comm (x ∷ xs) [] = refl
  weighted_sum-comm (x ∷ xs) (w ∷ ws) = ap₂ sum (R.product_comm x w) (weighted_sum-comm xs ws)

  -- weights that are all zero
  pub weighted_sum-all_zero : (xs ws : List A) → ((i : ℕ) → i < length ws → get_or ws i R.zero ≡ R.zero) → weighted_sum R xs ws ≡ R.zero
  weighted_sum-all_zero [] ws h = refl
  weighted_sum-all_zero (x ∷ xs) [] h = refl
  weighted_sum-all_zero (x ∷ xs) (w ∷ ws) h =
      ap₂ sum (ap (product x) (h 0 (omega arith)) ∙ product-zero R x) (weighted_sum-all_zero xs ws (λ i l. h (suc i) (omega arith))) ∙ R.sum_zero R.zero

  -- weight k is one and the others are zero
  pub weighted_sum-one_at : (k : ℕ) (xs ws : List A) → k < length ws → get_or ws k R.zero ≡ R.one → ((i : ℕ) → i < length ws → i ≢ k → get_or ws i R.zero ≡ R.zero)
      → weighted_sum R xs ws ≡ get_or xs k R.zero
  weighted_sum-one_at k [] ws l e h = refl
  weighted_sum-one_at k (x ∷ xs) [] l e h = absurd (omega arith)
  weighted_sum-one_at zero (x ∷ xs) (w ∷ ws) l e h =
      ap₂ sum (ap (product x) e ∙ product-one_right R x) (weighted_sum-all_zero xs ws (λ i m. h (suc i) (omega arith) (λ z. omega (arith, z)))) ∙ sum-zero_right R x
  weighted_sum-one_at (suc k) (x ∷ xs) (w ∷ ws) l e h =
      ap₂ sum (ap (product x) (h 0 (omega arith) (λ z. omega (arith, z))) ∙ product-zero R x)
      (weighted_sum-one_at k xs ws (omega arith) e (λ i m n. h (suc i) (omega arith) (λ z. n (omega (arith, z)))))
      ∙ R.sum_zero (get_or xs k R.zero)
