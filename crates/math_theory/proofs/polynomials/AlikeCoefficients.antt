-- Polynomials with the same coefficients have the same values, up to a type's own equality, whatever the lengths of their lists.
use Rattle.std.proofs.Common.{List, map, sym, ◌∙◌}
use Rattle.math_theory.specs.Coefficients.{HaveSameCoefficients}
use Rattle.math_theory.specs.Laws.{IsEquality, IsGroup, IsProduct, IsRing}
use Rattle.math_theory.specs.Values.{value}
use Rattle.math_theory.proofs.classes.Classes.{class, same_class, ring_of_classes}
use Rattle.math_theory.proofs.classes.ClassesOfLists.{value-class}
use Rattle.math_theory.proofs.classes.ClassesOfProducts.{HaveSameCoefficients-classes}
use Rattle.math_theory.proofs.polynomials.Coefficients.{value-HaveSameCoefficients}

module _ {A : Type 0} {same : A → A → Type 0} {zero : A} {sum : A → A → A} {negative : A → A} {product : A → A → A} {one : A}
    (E : IsEquality same) (G : IsGroup same zero sum negative) (P : IsProduct same product) (R : IsRing same sum product one) where
  pub value-alike : (r : A) (p q : List A) → HaveSameCoefficients same zero p q → same (value zero sum product one r p) (value zero sum product one r q)
  value-alike r p q e =
      same_class E _ _
      (sym (value-class E G P R r p)
      ∙ value-HaveSameCoefficients (ring_of_classes E G P R) (class E r) (map (class E) p) (map (class E) q) (HaveSameCoefficients-classes E G P R p q e)
      ∙ value-class E G P R r q)
