-- The loop of a linear combination keeps the sum of what the weights give and of what is left.
use Rattle.std.proofs.Common.{◌≡◌, ℕ, suc, ◌+◌, ◌<◌, ◌≤◌, List, [], ◌∷◌, length, drop, add-one}
use Rattle.std.proofs.Math.ListN.{get_or, drop_of_length-le}
use Rattle.std.proofs.Math.Seq.{drop-cons}
use Rattle.std.specs.List.{AllZip, zip}
use Rattle.math_theory.specs.Laws.{IsEquality, IsGroup, IsProduct, IsModule}
use Rattle.math_theory.specs.Domains.{coset}
use Rattle.math_theory.specs.Sums.{weighted_sum}
use Rattle.math_theory.specs.Values.{value_over}
use Rattle.math_theory.proofs.polynomials.WeightedPowers.{weighted_sum-coset, weighted_sum-added, AreSums}
use Rattle.math_poly.specs.Combinations.{combination_over}

module _ {A B : Type 0} {same : A → A → Type 0} {zero : A} {sum : A → A → A} {negative : A → A} {scaling : A → B → A} {same_scalar : B → B → Type 0}
    {zero_scalar : B} {sum_scalar : B → B → B} {product : B → B → B} {one : B}
    (E : IsEquality same) (G : IsGroup same zero sum negative) (M : IsModule same zero sum scaling same_scalar zero_scalar sum_scalar product one)
    (F : IsEquality same_scalar) (P : IsProduct same_scalar product) (p : List A) where
  abbrev combination : List (B × B) → A
  combination pairs = combination_over zero sum scaling one product p pairs

  abbrev weighted : List B → A
  weighted weights = weighted_sum zero sum scaling p weights

  -- the weights of the first pair
  pub combination-first : (pairs rest : List (B × B)) (pair : B × B) (u : B) (weights : List B) → pairs ≡ pair ∷ rest → same_scalar u pair.0
      → AllZip same_scalar weights (coset one product u pair.1 (length p)) → same (sum (weighted weights) (combination rest)) (combination pairs)
  combination-first pairs rest pair u weights e h k =
      rw e (G.respects_sum _ _ _ _ (weighted_sum-coset E G M F P pair.0 u pair.1 h p weights k) (E.reflexive (combination rest)))

  -- the weights of one pair more
  pub combination-next : (pairs : List (B × B)) (i : ℕ) (d pair : B × B) (u : B) (old new : List B) (whole : A) → i < length pairs → pair ≡ get_or pairs i d → same_scalar u pair.0
      → length p ≡ length old → AreSums same_scalar sum_scalar (zip old (coset one product u pair.1 (length old))) new
      → same (sum (weighted old) (combination (drop i pairs))) whole → same (sum (weighted new) (combination (drop (i + 1) pairs))) whole
  combination-next pairs i d pair u old new whole within e h n k w =
      let rest = combination (drop (suc i) pairs) in
      let term = scaling (value_over zero sum scaling one product pair.1 p) pair.0 in
      let split : drop i pairs ≡ pair ∷ drop (suc i) pairs = rw e (drop-cons pairs i d within) in
      let w' : same (sum (weighted old) (sum term rest)) whole = rw split at w in
      rw add-one
      (E.transitive _ _ _ (G.respects_sum _ _ _ _ (weighted_sum-added E G M F P pair.0 u pair.1 h p old new n k) (E.reflexive rest))
      (E.transitive _ _ _ (G.associative (weighted old) term rest) w'))

  -- no pair is left
  pub combination-all : (pairs : List (B × B)) (i : ℕ) (weights : List B) (whole : A) → length pairs ≤ i → same (sum (weighted weights) (combination (drop i pairs))) whole
      → same (weighted weights) whole
  combination-all pairs i weights whole h w =
      let e : drop i pairs ≡ [] = drop_of_length-le pairs h in
      let w' : same (sum (weighted weights) zero) whole = rw e at w in
      E.transitive _ _ _ (E.transitive _ _ _ (E.symmetric _ _ (G.identity (weighted weights))) (G.commutative zero (weighted weights))) w'
