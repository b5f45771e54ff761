-- Keyed weights: they respect the point that they are for.
use Rattle.std.proofs.Common.{◌≡◌, ℕ, ◌∙◌, ap, sym, ◌<◌, List, length, arith}
use Rattle.std.proofs.lemmas.List.{get_or_default, length-map}
use Rattle.std.proofs.lemmas.Map.Made.{keys_of-zip}
use Rattle.std.proofs.lemmas.Slice.Zip.{seconds-zip}
use Rattle.std.specs.List.{zip}
use Rattle.std.specs.Map.{keys_of, values_of}
use Rattle.std.specs.declared.cmp.Ordering.{Ordering}
use Rattle.math_theory.specs.Laws.{IsEquality, IsGroup, IsProduct, IsRing}
use Rattle.math_theory.proofs.interpolation.WeightsRespect.{weights_at-respects}
use Rattle.math_codec.specs.OrderedMaps.{HasFirstOfEachKey}
use Rattle.math_base.specs.Members.{RingOf}
use Rattle.math_transforms.specs.RootWeights.{powers_at}
use Rattle.commonware_math.specs.Interpolators.{AreWeightsOfPoints, InterpolatesAt}
use Rattle.commonware_math.specs.RootInterpolators.{pairs_at_powers, InterpolatesAtPowers}

-- the weights of the points, each with its point's key
pub keyed-weights : {I A : Type 0} (cmp : I → I → Ordering) (R : RingOf A) (x : A) (pairs points keyed : List (I × A)) (values weights : List A) → values ≡ values_of points
    → HasFirstOfEachKey cmp pairs points
    → keyed ≡ zip (keys_of points) weights → AreWeightsOfPoints R x values weights → InterpolatesAt cmp R x pairs keyed
keyed-weights cmp R x pairs points keyed values weights e first z W =
    let count : length weights ≡ length (keys_of points) = W.count ∙ ap length e ∙ length-map points (λ p. p.1) ∙ sym (length-map points (λ p. p.0)) in
    record {
      points = points;
      first = first;
      keys = ap keys_of z ∙ keys_of-zip (keys_of points) weights count;
      each = rw (← e, z, seconds-zip (keys_of points) weights count) W;
    }

module _ {A : Type 0} (R : RingOf A) (E : IsEquality R.same) (G : IsGroup R.same R.zero R.sum R.negative) (P : IsProduct R.same R.product) (L : IsRing R.same R.sum R.product R.one) where
  -- weights for x are weights for each point that is same as x
  pub weights_of_points-respects : (x y : A) → R.same x y → (points weights : List A) → AreWeightsOfPoints R x points weights → AreWeightsOfPoints R y points weights
  weights_of_points-respects x y h points weights W =
      let back : R.same y x = E.symmetric x y h in
      record {
        count = W.count;
        at_point = λ k first. W.at_point k (
          first.0,
          E.transitive _ _ _ (rw (get_or_default points k x y first.0) first.1) back,
          λ i l s. let m : i < length points = omega (arith, l, first.0) in first.2 i l (rw (get_or_default points i y x m) (E.transitive _ _ _ s h)),
        );
        repeated = λ outside. W.repeated (λ k d l s. outside k d l (E.transitive _ _ _ s h));
        give = λ d. weights_at-respects E G P L x y h points weights (W.give d);
        only = λ d others V. W.only d others (weights_at-respects E G P L y x back points others V);
      }

  pub interpolates-respects : {I : Type 0} (cmp : I → I → Ordering) (x y : A) → R.same x y → (pairs weights : List (I × A)) → InterpolatesAt cmp R x pairs weights
      → InterpolatesAt cmp R y pairs weights
  interpolates-respects cmp x y h pairs weights W = record {
    points = W.points;
    first = W.first;
    keys = W.keys;
    each = weights_of_points-respects x y h (values_of W.points) (values_of weights) W.each;
  }

  pub interpolates_at_powers-respects : {I : Type 0} (cmp : I → I → Ordering) (w x y : A) → R.same x y → (pairs : List (I × ℕ)) (weights : List (I × A))
      → InterpolatesAtPowers cmp R w x pairs weights → InterpolatesAtPowers cmp R w y pairs weights
  interpolates_at_powers-respects cmp w x y h pairs weights W =
      let back : R.same y x = E.symmetric x y h in
      record {
        keyed = interpolates-respects cmp x y h (pairs_at_powers R w pairs) weights W.keyed;
        give = weights_at-respects E G P L x y h (powers_at R w (values_of pairs)) (values_of weights) W.give;
        only = λ others V. W.only others (weights_at-respects E G P L y x back (powers_at R w (values_of pairs)) others V);
      }
