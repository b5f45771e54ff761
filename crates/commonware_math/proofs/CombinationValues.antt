-- The values of combinations under generators respect equality, sums and multiples.
use Rattle.std.proofs.Common.{ℕ, ◌+◌, List, [], ◌∷◌, ◌++◌, length}
use Rattle.math_theory.specs.Laws.{IsEquality, IsGroup, IsProduct, IsRing, IsModule}
use Rattle.math_theory.specs.ModuleLaws.{ring_is_module}
use Rattle.math_theory.specs.Sums.{weighted_sum}
use Rattle.math_theory.proofs.polynomials.Horner.{scaling_zero}
use Rattle.commonware_math.specs.Synthetics.{HaveSameWeights, AreSameCombinations, IsAdditiveMap, map_weights, combination_sum, combination_multiple, weights_from, value_under}
use Rattle.commonware_math.specs.SyntheticLaws.{exchange, weight_at-append, weight_at-map}

module _ {A B : Type 0} {same_weight : A → A → Type 0} {zero_weight : A} {sum_weights : A → A → A} {negative_weight : A → A} {product : A → A → A} {one : A}
    {same : B → B → Type 0} {zero_of : B} {sum : B → B → B} {negative : B → B} {scaling : B → A → B}
    (F : IsEquality same_weight) (H : IsGroup same_weight zero_weight sum_weights negative_weight)
    (E : IsEquality same) (G : IsGroup same zero_of sum negative) (M : IsModule same zero_of sum scaling same_weight zero_weight sum_weights product one) where
  -- the points from index i on, each scaled by the weight at its index
  abbrev part_from : ℕ → List B → List (ℕ × A) → B
  part_from i points terms = weighted_sum zero_of sum scaling points (weights_from zero_weight sum_weights i (length points) terms)

  abbrev value : List B → List (ℕ × A) × B → B
  value generators c = value_under zero_weight sum_weights zero_of sum scaling generators c

  part-same : (i : ℕ) (points : List B) (a b : List (ℕ × A)) → HaveSameWeights same_weight zero_weight sum_weights a b → same (part_from i points a) (part_from i points b)
  part-same i [] a b h = E.reflexive _
  part-same i (p ∷ points) a b h = G.respects_sum _ _ _ _ (M.respects_scalars p _ _ (h i)) (part-same (i + 1) points a b h)

  part-sum : (i : ℕ) (points : List B) (a b : List (ℕ × A)) → same (part_from i points (a ++ b)) (sum (part_from i points a) (part_from i points b))
  part-sum i [] a b = E.symmetric _ _ (G.identity zero_of)
  part-sum i (p ∷ points) a b =
      E.transitive _ _ _ (G.respects_sum _ _ _ _ (E.transitive _ _ _ (M.respects_scalars p _ _ (weight_at-append F H a b i)) (M.sum_of_scalars p _ _)) (part-sum (i + 1) points a b))
      (exchange E G _ _ _ _)

  pub value-same : (generators : List B) (c d : List (ℕ × A) × B) → AreSameCombinations same_weight zero_weight sum_weights same c d → same (value generators c) (value generators d)
  value-same generators c d h = G.respects_sum _ _ _ _ (part-same 0 generators c.0 d.0 h.weights) h.points

  pub value-sum : (generators : List B) (c d : List (ℕ × A) × B) → same (value generators (combination_sum sum c d)) (sum (value generators c) (value generators d))
  value-sum generators c d = E.transitive _ _ _ (G.respects_sum _ _ _ _ (part-sum 0 generators c.0 d.0) (E.reflexive _)) (exchange E G _ _ _ _)

  module _ (P : IsProduct same_weight product) (R : IsRing same_weight sum_weights product one) where
    part-multiple : (i : ℕ) (points : List B) (a : List (ℕ × A)) (x : A) → same (part_from i points (map_weights (λ w. product w x) a)) (scaling (part_from i points a) x)
    part-multiple i [] a x = E.symmetric _ _ (scaling_zero E G M x)
    part-multiple i (p ∷ points) a x =
        let W = ring_is_module F H P R in
        let N : IsAdditiveMap same_weight sum_weights (λ w. product w x) = record { respects = λ v w. W.respects_points v w x; of_sum = λ v w. W.sum_of_points v w x } in
        E.transitive _ _ _
        (G.respects_sum _ _ _ _ (E.transitive _ _ _ (M.respects_scalars p _ _ (weight_at-map F H N a i)) (E.symmetric _ _ (M.product_of_scalars p _ x))) (part-multiple (i + 1) points a x))
        (E.symmetric _ _ (M.sum_of_points _ _ x))

    pub value-multiple : (generators : List B) (c : List (ℕ × A) × B) (x : A) → same (value generators (combination_multiple product scaling c x)) (scaling (value generators c) x)
    value-multiple generators c x = E.transitive _ _ _ (G.respects_sum _ _ _ _ (part-multiple 0 generators c.0 x) (E.reflexive _)) (E.symmetric _ _ (M.sum_of_points _ _ x))
