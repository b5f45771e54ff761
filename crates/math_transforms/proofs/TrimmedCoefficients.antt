-- Polynomials without the zeros at the end of their coefficients.
use Rattle.std.proofs.Common.{ℕ, ◌+◌, List, length, length-drop, take, drop, sym, subst, arith}
use Rattle.std.specs.List.{AllWithin}
use Rattle.std.proofs.lemmas.List.{get_or-drop, take-append-drop}
use Rattle.math_theory.specs.Laws.{IsEquality, IsGroup, IsProduct, IsRing}
use Rattle.math_theory.specs.Values.{value}
use Rattle.math_theory.proofs.polynomials.BuiltPolynomials.{value-zeros_after}

module _ {A : Type 0} {same : A → A → Type 0} {zero_of : A} {sum : A → A → A} {negative : A → A} {product : A → A → A} {one : A}
    (E : IsEquality same) (G : IsGroup same zero_of sum negative) (P : IsProduct same product) (R : IsRing same sum product one) where
  -- where the coefficients from place n on are zero, the first n have the same values
  pub value-trimmed : (r : A) (p : List A) (n : ℕ) → AllWithin (λ c. same c zero_of) p n (length p)
      → same (value zero_of sum product one r (take n p)) (value zero_of sum product one r p)
  value-trimmed r p n h =
      E.symmetric _ _
      (subst (λ q. same (value zero_of sum product one r q) (value zero_of sum product one r (take n p))) (take-append-drop n p)
      (value-zeros_after E G P R r (take n p) (drop n p) (λ k d l. subst (λ c. same c zero_of) (sym (get_or-drop n p k d)) (h (n + k) d (omega arith) (omega (arith, l, length-drop n p))))))
