-- Weights for the value at x are weights for the value at each point that is same as x.
use Rattle.std.proofs.Common.{List, [], ◌∷◌}
use Rattle.std.specs.List.{AllZip}
use Rattle.math_theory.specs.Interpolation.{AreWeightsAt}
use Rattle.math_theory.specs.Laws.{IsEquality, IsGroup, IsProduct, IsRing}
use Rattle.math_theory.specs.ModuleLaws.{ring_is_module}
use Rattle.math_theory.proofs.polynomials.ValuesRespect.{value_over-respects}

AllZip-reflexive : {A : Type 0} {same : A → A → Type 0} → IsEquality same → (xs : List A) → AllZip same xs xs
AllZip-reflexive E [] = tt
AllZip-reflexive E (x ∷ xs) = (E.reflexive x, AllZip-reflexive E xs)

module _ {A : Type 0} {same : A → A → Type 0} {zero_of : A} {sum : A → A → A} {negative : A → A} {product : A → A → A} {one : A}
    (E : IsEquality same) (G : IsGroup same zero_of sum negative) (P : IsProduct same product) (R : IsRing same sum product one) where
  pub weights_at-respects : (x y : A) → same x y → (points weights : List A) → AreWeightsAt same zero_of sum product one x points weights → AreWeightsAt same zero_of sum product one y points weights
  weights_at-respects x y h points weights W = record {
    lengths = W.lengths;
    give = λ a l. E.transitive _ _ _ (W.give a l) (value_over-respects E G (ring_is_module E G P R) E P x y h a a (AllZip-reflexive E a));
  }
