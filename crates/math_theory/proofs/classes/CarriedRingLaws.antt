-- A law of rings, carried to a type's own equality as docs/THEORY.md works out.
use Rattle.math_theory.specs.Laws.{IsEquality, IsGroup, IsProduct, IsRing}
use Rattle.math_theory.proofs.classes.Classes.{class, class_same, same_class, ring_of_classes}
use Rattle.math_theory.proofs.rings.RingLaws.{difference-zero}

module _ {A : Type 0} {same : A → A → Type 0} {zero : A} {sum : A → A → A} {negative : A → A} {product : A → A → A} {one : A}
    (E : IsEquality same) (G : IsGroup same zero sum negative) (P : IsProduct same product) (R : IsRing same sum product one) where
  -- where the difference is same as zero, the two are same
  pub difference_zero-same : (a b : A) → same (sum a (negative b)) zero → same a b
  difference_zero-same a b h = same_class E a b (difference-zero (ring_of_classes E G P R) (class E a) (class E b) (class_same E (sum a (negative b)) zero h))
