-- The value of a combination under generators, summed term by term.
use Rattle.std.proofs.Common.{◌≡◌, ◌<◌, ◌+◌, ℕ, zero, suc, eqb, true, false, List, [], ◌∷◌, ◌++◌, length, refl, arith, slice_index_or}
use Rattle.std.proofs.lemmas.Bool.{ne_eqb, eq-eqb}
use Rattle.math_theory.specs.Laws.{IsEquality, IsGroup, IsModule}
use Rattle.math_theory.specs.Sums.{weighted_sum}
use Rattle.commonware_math.specs.Synthetics.{concrete_sum, weights_from, free_value, value_under}

module _ {A B : Type 0} {same : B → B → Type 0} {zero_of : B} {sum : B → B → B} {negative : B → B} {scaling : B → A → B} {same_weight : A → A → Type 0} {zero_weight : A} {sum_weights : A → A → A}
    {product : A → A → A} {one : A}
    (E : IsEquality same) (G : IsGroup same zero_of sum negative) (M : IsModule same zero_of sum scaling same_weight zero_weight sum_weights product one) where
  -- the points from index i on, each scaled by the weight at its index
  abbrev part_from : ℕ → List B → List (ℕ × A) → B
  part_from i points terms = weighted_sum zero_of sum scaling points (weights_from zero_weight sum_weights i (length points) terms)

  -- one more pair at the end
  pub weighted_sum-push : (points : List B) (weights : List A) (p : B) (w : A) → length points ≡ length weights
      → same (weighted_sum zero_of sum scaling (points ++ p ∷ []) (weights ++ w ∷ [])) (sum (weighted_sum zero_of sum scaling points weights) (scaling p w))
  weighted_sum-push [] [] p w e = G.commutative _ _
  weighted_sum-push [] (v ∷ weights) p w e = absurd (omega arith)
  weighted_sum-push (q ∷ points) [] p w e = absurd (omega arith)
  weighted_sum-push (q ∷ points) (v ∷ weights) p w e =
      E.transitive _ _ _ (G.respects_sum _ _ _ _ (E.reflexive _) (weighted_sum-push points weights p w (omega arith))) (E.symmetric _ _ (G.associative _ _ _))

  -- without a term every weight is zero
  pub part-nothing : (i : ℕ) (points : List B) → same (part_from i points []) zero_of
  part-nothing i [] = E.reflexive _
  part-nothing i (p ∷ points) = E.transitive _ _ _ (G.respects_sum _ _ _ _ (M.annihilation p) (part-nothing (i + 1) points)) (G.identity zero_of)

  -- a term below index i has no part in it
  part-below : (i j : ℕ) (w : A) (points : List B) (terms : List (ℕ × A)) → j < i → part_from i points ((j, w) ∷ terms) ≡ part_from i points terms
  part-below i j w [] terms l = refl
  part-below i j w (p ∷ points) terms l =
      let other : eqb i j ≡ false = ne_eqb i j (λ e. omega arith) in
      let rest = part-below (i + 1) j w points terms (omega arith) in
      rw (other, rest) refl

  -- a term adds the point at its index, scaled by its weight
  part-term : (i j k : ℕ) (w : A) (points : List B) (terms : List (ℕ × A)) → j ≡ i + k → k < length points
      → same (part_from i points ((j, w) ∷ terms)) (sum (scaling (slice_index_or points k zero_of) w) (part_from i points terms))
  part-term i j k w [] terms e l = absurd (omega arith)
  part-term i j zero w (p ∷ points) terms e l =
      let here : eqb i j ≡ true = eq-eqb i j (omega arith) in
      let rest = part-below (i + 1) j w points terms (omega arith) in
      rw (here, rest) (E.transitive _ _ _ (G.respects_sum _ _ _ _ (M.sum_of_scalars p w _) (E.reflexive _)) (G.associative _ _ _))
  part-term i j (suc k) w (p ∷ points) terms e l =
      let other : eqb i j ≡ false = ne_eqb i j (λ f. omega arith) in
      let rest = part-term (i + 1) j k w points terms (omega arith) (omega arith) in
      rw other
      (E.transitive _ _ _ (G.respects_sum _ _ _ _ (E.reflexive _) rest)
      (E.transitive _ _ _ (E.symmetric _ _ (G.associative _ _ _)) (E.transitive _ _ _ (G.respects_sum _ _ _ _ (G.commutative _ _) (E.reflexive _)) (G.associative _ _ _))))

  abbrev free : List B → List (ℕ × A) → B
  free generators terms = free_value zero_weight sum_weights zero_of sum scaling generators terms

  abbrev weighted : List B → List A → B
  weighted points weights = weighted_sum zero_of sum scaling points weights

  -- the first of the terms that are left becomes the last pair
  pub free-next : (generators points : List B) (weights : List A) (rest rest' : List (ℕ × A)) (i : ℕ) (w : A) (p : B) (whole : B) → rest ≡ (i, w) ∷ rest' → i < length generators
      → same p (slice_index_or generators i zero_of) → length points ≡ length weights → same (sum (weighted points weights) (free generators rest)) whole
      → same (sum (weighted (points ++ p ∷ []) (weights ++ w ∷ [])) (free generators rest')) whole
  free-next generators points weights rest rest' i w p whole e l h n k =
      let k' : same (sum (weighted points weights) (free generators ((i, w) ∷ rest'))) whole = rw e at k in
      E.transitive _ _ _ (G.respects_sum _ _ _ _ (E.transitive _ _ _ (weighted_sum-push points weights p w n) (G.respects_sum _ _ _ _ (E.reflexive _) (M.respects_points _ _ w h))) (E.reflexive _))
      (E.transitive _ _ _ (G.associative _ _ _)
      (E.transitive _ _ _ (G.respects_sum _ _ _ _ (E.reflexive _) (E.symmetric _ _ (part-term 0 i i w generators rest' (omega arith) l))) k'))

  -- no term is left
  pub free-end : (generators points : List B) (weights : List A) (rest : List (ℕ × A)) (pairs : List (A × B)) (c : List (ℕ × A) × B) → rest ≡ []
      → same (sum (weighted points weights) (free generators rest)) (free generators c.0) → concrete_sum zero_of sum scaling pairs ≡ c.1
      → same (sum (weighted points weights) (concrete_sum zero_of sum scaling pairs)) (value_under zero_weight sum_weights zero_of sum scaling generators c)
  free-end generators points weights rest pairs c e k f =
      let k' : same (sum (weighted points weights) (free generators [])) (free generators c.0) = rw e at k in
      rw f (G.respects_sum _ _ _ _ (E.transitive _ _ _ (E.symmetric _ _ (E.transitive _ _ _ (G.respects_sum _ _ _ _ (E.reflexive _) (part-nothing 0 generators))
      (E.transitive _ _ _ (G.commutative _ _) (G.identity _)))) k') (E.reflexive _))

  -- the first of the pairs that are left becomes the last pair
  pub concrete-next : (points : List B) (weights : List A) (rest rest' : List (A × B)) (w : A) (p : B) (whole : B) → rest ≡ (w, p) ∷ rest' → length points ≡ length weights
      → same (sum (weighted points weights) (concrete_sum zero_of sum scaling rest)) whole
      → same (sum (weighted (points ++ p ∷ []) (weights ++ w ∷ [])) (concrete_sum zero_of sum scaling rest')) whole
  concrete-next points weights rest rest' w p whole e n k =
      let k' : same (sum (weighted points weights) (concrete_sum zero_of sum scaling ((w, p) ∷ rest'))) whole = rw e at k in
      E.transitive _ _ _ (G.respects_sum _ _ _ _ (weighted_sum-push points weights p w n) (E.reflexive _)) (E.transitive _ _ _ (G.associative _ _ _) k')

  -- no pair is left
  pub concrete-end : (points : List B) (weights : List A) (rest : List (A × B)) (whole : B) → rest ≡ []
      → same (sum (weighted points weights) (concrete_sum zero_of sum scaling rest)) whole → same (weighted points weights) whole
  concrete-end points weights rest whole e k =
      let k' : same (sum (weighted points weights) zero_of) whole = rw e at k in
      E.transitive _ _ _ (E.symmetric _ _ (E.transitive _ _ _ (G.commutative _ _) (G.identity _))) k'

  -- the sum of two lists of pairs
  pub concrete_sum-append : (a b : List (A × B)) → same (concrete_sum zero_of sum scaling (a ++ b)) (sum (concrete_sum zero_of sum scaling a) (concrete_sum zero_of sum scaling b))
  concrete_sum-append [] b = E.symmetric _ _ (G.identity _)
  concrete_sum-append (t ∷ a) b = E.transitive _ _ _ (G.respects_sum _ _ _ _ (E.reflexive _) (concrete_sum-append a b)) (E.symmetric _ _ (G.associative _ _ _))
