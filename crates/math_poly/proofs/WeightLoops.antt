-- The weights that are made of one place, and of quotients.
use Rattle.std.proofs.Common.{◌≡◌, ℕ, ◌<◌, List, length, get_or, ◌∙◌, arith}
use Rattle.std.proofs.lemmas.List.{get_or_default}
use Rattle.std.specs.List.{All}
use Rattle.math_theory.specs.Interpolation.{AreApart, SomeAreSame, IsFirstPlace, IsOneAt, AreWeightsAt, weight_divisor}
use Rattle.math_theory.specs.Laws.{IsEquality, IsGroup, IsProduct, IsRing, IsField}
use Rattle.math_theory.specs.RootProducts.{root_product}
use Rattle.math_theory.proofs.interpolation.CarriedInterpolation.{weights_at_place, weights_by_quotients, divisors_nonzero, divisor_of_repeated}

module _ {A : Type 0} {same : A → A → Type 0} {zero_of : A} {sum : A → A → A} {negative : A → A} {product : A → A → A} {one : A} {inverse : A → A}
    (E : IsEquality same) (G : IsGroup same zero_of sum negative) (P : IsProduct same product) (R : IsRing same sum product one)
    (F : IsField same zero_of product one inverse) where
  -- one at the first place of x, and zero elsewhere
  pub place-weights : (x : A) (points ws : List A) (k : ℕ) → IsFirstPlace same x points k → length ws ≡ length points → IsOneAt same zero_of one k ws → AreApart same points
      → AreWeightsAt same zero_of sum product one x points ws
  place-weights x points ws k first n h d =
      let here : same (get_or points k zero_of) x = rw (get_or_default points k zero_of x first.0) first.1 in
      weights_at_place E G P R F x points ws k d first.0 here n h

  module _ (x : A) (points ds ws : List A) (numerator start : A) (count : length ds ≡ length points)
      (each : (k : ℕ) → k < length points → same (get_or ds k zero_of) (weight_divisor zero_of sum negative product one x points k))
      (unit : same start one) (whole : same numerator (product start (root_product sum negative product one x points)))
      (outside : All (λ p. ¬ (same p x)) points) where
    -- the numerator divided by each divisor
    pub quotients-weights : (All (λ d. ¬ (same d zero_of)) ds → (k : ℕ) → k < length ds → same (product (get_or ws k zero_of) (get_or ds k zero_of)) numerator)
        → length ws ≡ length ds → AreApart same points → AreWeightsAt same zero_of sum product one x points ws
    quotients-weights quotients m d =
        let nonzero : All (λ d. ¬ (same d zero_of)) ds =
        λ k e l z. let l' : k < length points = omega (arith, l, count) in
        let e' : get_or ds k e ≡ get_or ds k zero_of = get_or_default ds k e zero_of l in
        divisors_nonzero E G P R F x points d outside k l' (E.transitive _ _ _ (E.symmetric _ _ (each k l')) (rw e' at z)) in
        weights_by_quotients E G P R F x points ws d outside (m ∙ count)
        (λ k l. E.transitive _ _ _ (P.respects _ _ _ _ (E.reflexive (get_or ws k zero_of)) (E.symmetric _ _ (each k l)))
        (E.transitive _ _ _ (quotients nonzero k (omega (arith, l, count)))
        (E.transitive _ _ _ whole (E.transitive _ _ _ (P.respects _ _ _ _ unit (E.reflexive (root_product sum negative product one x points)))
        (R.identity (root_product sum negative product one x points))))))

    -- zeros, where two points are same
    pub quotients-repeated : ((k : ℕ) → k < length ds → same (get_or ds k zero_of) zero_of → All (λ v. same v zero_of) ws) → SomeAreSame same points → All (λ v. same v zero_of) ws
    quotients-repeated zeros repeated =
        let place : (k : ℕ) × (k < length points) × same (weight_divisor zero_of sum negative product one x points k) zero_of = divisor_of_repeated E G P R F x points repeated in
        zeros place.0 (omega (arith, place.1, count)) (E.transitive _ _ _ (each place.0 place.1) place.2)
