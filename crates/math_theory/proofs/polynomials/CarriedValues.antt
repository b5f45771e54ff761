-- Values of polynomials over a ring, up to its own equality.
use Rattle.std.proofs.Common.{List, ◌∷◌}
use Rattle.math_theory.specs.Laws.{IsEquality, IsGroup, IsProduct, IsRing}
use Rattle.math_theory.specs.ModuleLaws.{ring_is_module}
use Rattle.math_theory.specs.Values.{value}
use Rattle.math_theory.proofs.polynomials.Horner.{value_over-cons}

module _ {A : Type 0} {same : A → A → Type 0} {zero : A} {sum : A → A → A} {negative : A → A} {product : A → A → A} {one : A}
    (E : IsEquality same) (G : IsGroup same zero sum negative) (P : IsProduct same product) (R : IsRing same sum product one) where
  -- the value of a ∷ p is a plus the value of p times r
  pub value-cons : (r a : A) (p : List A) → same (value zero sum product one r (a ∷ p)) (sum a (product (value zero sum product one r p) r))
  value-cons r a p = value_over-cons E G (ring_is_module E G P R) r a p
