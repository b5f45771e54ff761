-- Weights of words: those of the elements whose numbers they are.
use Rattle.std.proofs.Common.{◌≡◌, ◌∙◌, ℕ, ◌<◌, ◌≤◌, ◌^◌, List, length, All, sym, ap, subst, arith}
use Rattle.std.specs.Int.{IsNextPowerOfTwo}
use Rattle.std.specs.Map.{keys_of, values_of}
use Rattle.std.proofs.lemmas.List.{length-map}
use Rattle.math_numbers.specs.Goldilocks.{P}
use Rattle.math_theory.specs.Interpolation.{AreApart, SomeAreSame, IsFirstPlace, IsOneAt}
use Rattle.math_fields.specs.declared.goldilocks.F.{F}
use Rattle.math_fields.specs.Elements.{number, product, residue, same, root_of}
use Rattle.math_base.specs.Polynomials.{AreWeightsAt}
use Rattle.math_theory.specs.Powers.{power}
use Rattle.math_transforms.specs.RootWeights.{AreRising, AreRootWeightsAt, powers_at}
use Rattle.math_transforms.proofs.PresentIndices.{lg-only}
use Rattle.math_shards.proofs.DistinctIndices.{are_distinct}
use Rattle.math_shards.proofs.OnlyCoefficients.{points_apart}
use Rattle.c_calls.specs.WordElements.{AreElements, elements, numbers, goldilocks}
use Rattle.c_calls.specs.WordWeights.{AreWordWeights, AreWordWeightsAtRoots}
use Rattle.c_calls.proofs.WordElements.{elements_of_numbers, numbers_below}

-- the numbers of the weights over points
pub weight_words : (x : ℕ) (points weights : List ℕ) (y : F) (p w : List F) → x < P → AreElements points → y ≡ residue x → p ≡ elements points → weights ≡ numbers w
    → length w ≡ length p → ((k : ℕ) → IsFirstPlace same y p k → IsOneAt same (residue 0) (residue 1) k w)
    → (All (λ v. ¬ (same v y)) p → SomeAreSame same p → All (λ v. same v (residue 0)) w) → (AreApart same p → AreWeightsAt goldilocks y p w) → AreWordWeights x points weights
weight_words x points weights y p w x_below below e f g count at_point repeated at_others =
    let back : elements weights ≡ w = ap elements g ∙ elements_of_numbers w in
    record {
      x_below = x_below;
      points_below = below;
      weights_below = subst AreElements (sym g) (numbers_below w);
      count = ap length g ∙ length-map w number ∙ count ∙ ap length f ∙ length-map points residue;
      at_point = λ k first.
          subst (IsOneAt same (residue 0) (residue 1) k) (sym back)
          (at_point k (subst (λ v. IsFirstPlace same v p k) (sym e) (subst (λ ps. IsFirstPlace same (residue x) ps k) (sym f) first)));
      repeated = λ others twice.
          subst (All (λ v. same v (residue 0))) (sym back)
          (repeated (subst (λ v. All (λ q. ¬ (same q v)) p) (sym e) (subst (All (λ q. ¬ (same q (residue x)))) (sym f) others)) (subst (SomeAreSame same) (sym f) twice));
      at_others = λ apart.
          subst (λ v. AreWeightsAt goldilocks v (elements points) (elements weights)) e
          (subst (λ ps. AreWeightsAt goldilocks y ps (elements weights)) f
          (subst (AreWeightsAt goldilocks y p) (sym back) (at_others (subst (AreApart same) (sym f) apart))));
    }

-- the numbers of the weights over powers of a root
pub root_weight_words : (x total : ℕ) (indices weights : List ℕ) (y : F) (pairs : List (ℕ × F)) → x < P → AreRising total indices → y ≡ residue x → keys_of pairs ≡ indices
    → weights ≡ numbers (values_of pairs) → AreRootWeightsAt goldilocks root_of total y pairs → AreWordWeightsAtRoots x total indices weights
root_weight_words x total indices weights y pairs x_below rising e keys g h = grind (arith, elements_of_numbers, numbers_below, length-map)

-- the numbers of the weights over points that are powers of a root
pub power_weight_words : (x total lg : ℕ) (indices weights : List ℕ) (y : F) (p w : List F) → x < P → AreRising total indices → 0 < total → lg ≤ 32 → IsNextPowerOfTwo total (2 ^ lg)
    → y ≡ residue x → p ≡ powers_at goldilocks (root_of lg) indices → weights ≡ numbers w → length w ≡ length p → (AreApart same p → AreWeightsAt goldilocks y p w)
    → AreWordWeightsAtRoots x total indices weights
power_weight_words x total lg indices weights y p w x_below rising some small next e f g count at_others =
    let point : ℕ → F = λ i. power (residue 1) product (root_of lg) i in
    let back : elements weights ≡ w = ap elements g ∙ elements_of_numbers w in
    let apart : AreApart same (powers_at goldilocks (root_of lg) indices) =
    points_apart lg indices small (are_distinct indices rising.0) (λ k d l. omega (arith, rising.1 k d l, next.1)) in
    let here : AreWeightsAt goldilocks (residue x) (powers_at goldilocks (root_of lg) indices) (elements weights) =
    subst (λ v. AreWeightsAt goldilocks v (powers_at goldilocks (root_of lg) indices) (elements weights)) e
    (subst (λ ps. AreWeightsAt goldilocks y ps (elements weights)) f (subst (AreWeightsAt goldilocks y p) (sym back) (at_others (subst (AreApart same) (sym f) apart)))) in
    record {
      x_below = x_below;
      rising = rising;
      weights_below = subst AreElements (sym g) (numbers_below w);
      count = ap length g ∙ length-map w number ∙ count ∙ ap length f ∙ length-map indices point;
      at_roots = λ m other.
          subst (λ l. AreWeightsAt goldilocks (residue x) (powers_at goldilocks (root_of l) indices) (elements weights)) (lg-only total lg m some next other) here;
    }
