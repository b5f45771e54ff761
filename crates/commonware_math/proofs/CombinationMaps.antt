-- The maps by which combinations are copied, negated, doubled, added to themselves n times and scaled.
use Rattle.std.proofs.Common.{◌≡◌, ℕ, zero, suc, List, sym, ap}
use Rattle.math_theory.specs.Laws.{IsEquality, IsGroup, IsProduct, IsRing, IsModule}
use Rattle.math_theory.specs.ModuleLaws.{ring_is_module}
use Rattle.math_theory.specs.Powers.{multiple, power-zero, power-suc}
use Rattle.commonware_math.specs.Synthetics.{weight_at, AreSameCombinations, IsAdditiveMap, IsMapOfCombinations, map_weights, combination_zero, combination_sum}
use Rattle.commonware_math.specs.SyntheticLaws.{exchange, only_negative, negative_of_sum, weight_at-append, weight_at-map}

module _ {A : Type 0} {same : A → A → Type 0} {zero_of : A} {sum : A → A → A} {negative : A → A} (E : IsEquality same) (G : IsGroup same zero_of sum negative) where
  negative_is_additive : IsAdditiveMap same sum negative
  negative_is_additive = record { respects = G.respects_negative; of_sum = negative_of_sum E G }

  double_is_additive : IsAdditiveMap same sum (λ a. sum a a)
  double_is_additive = record { respects = λ a b h. G.respects_sum _ _ _ _ h h; of_sum = λ a b. exchange E G a b a b }

  multiple_of_same : (n : ℕ) (a b : A) → same a b → same (multiple zero_of sum a n) (multiple zero_of sum b n)
  multiple_of_same zero a b h = rw (power-zero zero_of sum a, power-zero zero_of sum b) (E.reflexive _)
  multiple_of_same (suc n) a b h = rw (power-suc zero_of sum a n, power-suc zero_of sum b n) (G.respects_sum _ _ _ _ (multiple_of_same n a b h) h)

  multiple_of_sum : (n : ℕ) (a b : A) → same (multiple zero_of sum (sum a b) n) (sum (multiple zero_of sum a n) (multiple zero_of sum b n))
  multiple_of_sum zero a b = rw (power-zero zero_of sum (sum a b), power-zero zero_of sum a, power-zero zero_of sum b) (E.symmetric _ _ (G.identity zero_of))
  multiple_of_sum (suc n) a b =
      rw (power-suc zero_of sum (sum a b) n, power-suc zero_of sum a n, power-suc zero_of sum b n)
      (E.transitive _ _ _ (G.respects_sum _ _ _ _ (multiple_of_sum n a b) (E.reflexive _)) (exchange E G _ _ a b))

  multiple_is_additive : (n : ℕ) → IsAdditiveMap same sum (λ a. multiple zero_of sum a n)
  multiple_is_additive n = record { respects = multiple_of_same n; of_sum = multiple_of_sum n }

module _ {A B : Type 0} {same : A → A → Type 0} {zero_of : A} {sum : A → A → A} {negative : A → A} {product : A → A → A} {one : A}
    {same_point : B → B → Type 0} {zero_point : B} {sum_points : B → B → B} {negative_point : B → B} {scaling : B → A → B}
    (E : IsEquality same) (G : IsGroup same zero_of sum negative) (E' : IsEquality same_point) (G' : IsGroup same_point zero_point sum_points negative_point)
    (M : IsModule same_point zero_point sum_points scaling same zero_of sum product one) where
  pub identity_map : IsMapOfCombinations same sum same_point sum_points scaling (λ w. w) (λ p. p)
  identity_map = record {
    weights = record { respects = λ a b h. h; of_sum = λ a b. E.reflexive _ };
    points = record { respects = λ a b h. h; of_sum = λ a b. E'.reflexive _ };
    scaled = λ p w. E'.reflexive _;
  }

  pub negative_map : IsMapOfCombinations same sum same_point sum_points scaling negative negative_point
  negative_map = record {
    weights = negative_is_additive E G;
    points = negative_is_additive E' G';
    scaled = λ p w. only_negative E' G' (scaling p w) (scaling p (negative w))
        (E'.transitive _ _ _ (E'.symmetric _ _ (M.sum_of_scalars p w (negative w))) (E'.transitive _ _ _ (M.respects_scalars p _ _ (G.inverse w)) (M.annihilation p)));
  }

  pub double_map : IsMapOfCombinations same sum same_point sum_points scaling (λ w. sum w w) (λ p. sum_points p p)
  double_map = record { weights = double_is_additive E G; points = double_is_additive E' G'; scaled = λ p w. M.sum_of_scalars p w w }

  scaling_of_multiple : (n : ℕ) (p : B) (w : A) → same_point (scaling p (multiple zero_of sum w n)) (multiple zero_point sum_points (scaling p w) n)
  scaling_of_multiple zero p w = rw (power-zero zero_of sum w, power-zero zero_point sum_points (scaling p w)) (M.annihilation p)
  scaling_of_multiple (suc n) p w =
      rw (power-suc zero_of sum w n, power-suc zero_point sum_points (scaling p w) n)
      (E'.transitive _ _ _ (M.sum_of_scalars p _ w) (G'.respects_sum _ _ _ _ (scaling_of_multiple n p w) (E'.reflexive _)))

  pub multiple_map : (n : ℕ) → IsMapOfCombinations same sum same_point sum_points scaling (λ w. multiple zero_of sum w n) (λ p. multiple zero_point sum_points p n)
  multiple_map n = record { weights = multiple_is_additive E G n; points = multiple_is_additive E' G' n; scaled = scaling_of_multiple n }

  pub product_map : IsProduct same product → IsRing same sum product one → (x : A) → IsMapOfCombinations same sum same_point sum_points scaling (λ w. product w x) (λ p. scaling p x)
  product_map P R x =
      let W = ring_is_module E G P R in
      record {
        weights = record { respects = λ a b. W.respects_points a b x; of_sum = λ a b. W.sum_of_points a b x };
        points = record { respects = λ a b. M.respects_points a b x; of_sum = λ a b. M.sum_of_points a b x };
        scaled = λ p w. E'.symmetric _ _ (M.product_of_scalars p w x);
      }

  -- a combination plus itself has each weight twice
  pub doubled : (c : List (ℕ × A) × B) → AreSameCombinations same zero_of sum same_point (map_weights (λ w. sum w w) c.0, sum_points c.1 c.1) (combination_sum sum_points c c)
  doubled c = record {
    weights = λ i. E.transitive _ _ _ (weight_at-map E G (double_is_additive E G) c.0 i) (E.symmetric _ _ (weight_at-append E G c.0 c.0 i));
    points = E'.reflexive _;
  }

  -- the n-fold sum of a combination has each weight n-fold
  weight_of_repeated_sum : (c : List (ℕ × A) × B) (n i : ℕ)
      → same (weight_at zero_of sum i (multiple (combination_zero zero_point) (combination_sum sum_points) c n).0) (multiple zero_of sum (weight_at zero_of sum i c.0) n)
  weight_of_repeated_sum c zero i =
      rw (power-zero (combination_zero {A = A} zero_point) (combination_sum sum_points) c, power-zero zero_of sum (weight_at zero_of sum i c.0)) (E.reflexive zero_of)
  weight_of_repeated_sum c (suc n) i =
      rw (power-suc (combination_zero {A = A} zero_point) (combination_sum sum_points) c n, power-suc zero_of sum (weight_at zero_of sum i c.0) n)
      (E.transitive _ _ _ (weight_at-append E G _ c.0 i) (G.respects_sum _ _ _ _ (weight_of_repeated_sum c n i) (E.reflexive _)))

  points_of_repeated_sum : (c : List (ℕ × A) × B) (n : ℕ) → (multiple (combination_zero zero_point) (combination_sum sum_points) c n).1 ≡ multiple zero_point sum_points c.1 n
  points_of_repeated_sum c zero = rw (power-zero (combination_zero {A = A} zero_point) (combination_sum sum_points) c) (sym (power-zero zero_point sum_points c.1))
  points_of_repeated_sum c (suc n) =
      rw (power-suc (combination_zero {A = A} zero_point) (combination_sum sum_points) c n, power-suc zero_point sum_points c.1 n) (ap (λ p. sum_points p c.1) (points_of_repeated_sum c n))

  pub repeated : (c : List (ℕ × A) × B) (n : ℕ)
      → AreSameCombinations same zero_of sum same_point (map_weights (λ w. multiple zero_of sum w n) c.0, multiple zero_point sum_points c.1 n)
      (multiple (combination_zero zero_point) (combination_sum sum_points) c n)
  repeated c n = record {
    weights = λ i. E.transitive _ _ _ (weight_at-map E G (multiple_is_additive E G n) c.0 i) (E.symmetric _ _ (weight_of_repeated_sum c n i));
    points = rw (points_of_repeated_sum c n) (E'.reflexive _);
  }
