-- What the cases of weights at roots of unity share: what was gathered at the places of the true values.
use Rattle.std.proofs.Common.{◌≡◌, ℕ, zero, suc, ◌+◌, ◌*◌, ◌<◌, ◌^◌, List, [], ◌∷◌, Bool, true, false, length, get_or, refl, sym, ◌∙◌, ap, subst, arith, true≢false}
use Rattle.std.proofs.Math.ListN.{set}
use Rattle.std.proofs.lemmas.Bool.{false_from_ne_true}
use Rattle.std.proofs.lemmas.List.{length-set, get_or-set_same, get_or_default}
use Rattle.std.specs.List.{All, Contains}
use Rattle.math_theory.specs.Laws.{IsEquality}
use Rattle.math_theory.specs.Recovery.{count_true, filled_places}
use Rattle.math_theory.specs.Powers.{power}
use Rattle.math_theory.proofs.domains.FilledProducts.{filled_place, filled_place-true, filled_place-found, filled_place-rise}
use Rattle.math_base.specs.Members.{RingOf}
use Rattle.math_base.specs.Polynomials.{value_in_ring}
use Rattle.math_transforms.specs.DomainValues.{one_column, AreValuesOnDomain}
use Rattle.math_transforms.specs.Matrices.{column_of}
use Rattle.math_transforms.specs.RootWeights.{AreTrueAt, AreIndicesBelow, ArePointsAt}
use Rattle.math_transforms.proofs.PresentIndices.{length-places, place-number, places-below}

module _ (filled : List Bool) (places : List ℕ) (e : places ≡ filled_places filled) where
  pub places-count : length places ≡ count_true filled
  places-count = ap length e ∙ length-places filled

  pub places-number : (k : ℕ) → k < count_true filled → get_or places k 0 ≡ filled_place filled k
  places-number k l = ap (λ is. get_or is k 0) e ∙ place-number filled k l

  pub places-inside : (n : ℕ) → n ≡ length filled → All (λ place. place < n) places
  places-inside n h = subst (λ m. All (λ place. place < m) places) (sym h) (subst (All (λ place. place < length filled)) (sym e) (places-below filled))

  module _ {A : Type 0} (same : A → A → Type 0) (d : A) where
    -- copies of the items at the places
    pub gathered-at : (items found values : List A) → found ≡ values → ((k : ℕ) → k < length places → same (get_or items k d) (get_or found (get_or places k 0) d))
        → (k : ℕ) → k < count_true filled → same (get_or items k d) (get_or values (filled_place filled k) d)
    gathered-at items found values h each k l =
        subst (λ xs. same (get_or items k d) (get_or xs (filled_place filled k) d)) h
        (subst (λ i. same (get_or items k d) (get_or found i d)) (places-number k l) (each k (omega (arith, l, places-count))))

  -- points at the places
  pub points-at : {A : Type 0} (R : RingOf A) (w : A) (points : List A) → ArePointsAt R w places points → (k : ℕ) → k < count_true filled
      → R.same (get_or points k R.zero) (power R.one R.product w (filled_place filled k))
  points-at R w points h k l =
      subst (λ i. R.same (get_or points k R.zero) (power R.one R.product w i)) (places-number k l) (h.each k (omega (arith, l, places-count)))

  -- a point of the domain that is same as none of those at the places has the truth value false
  pub missing-false : {A : Type 0} (R : RingOf A) (E : IsEquality R.same) (w x : A) (points : List A) (m : ℕ) → ArePointsAt R w places points → All (λ p. ¬ (R.same p x)) points
      → m < length filled → R.same (power R.one R.product w m) x → get_or filled m false ≡ false
  missing-false R E w x points m h outside l s =
      false_from_ne_true (get_or filled m false)
      (λ t. let (k, b, i) = filled_place-found filled m l t in
      outside k R.zero (omega (arith, b, h.count, places-count))
      (E.transitive _ _ _ (points-at R w points h k b) (subst (λ j. R.same (power R.one R.product w j) x) (sym i) s)))

-- a value that is set is one of the true ones
pub some-set : (filled : List Bool) (m : ℕ) → m < length filled → 0 < count_true (set filled m true)
some-set filled m l =
    let (k, b, i) = filled_place-found (set filled m true) m (omega (arith, l, length-set filled m true)) (get_or-set_same filled m true false l) in
    omega (arith, b)

column-of_one : {A : Type 0} (d : A) (xs : List A) → column_of d (one_column xs) 0 ≡ xs
column-of_one d [] = refl
column-of_one d (x ∷ xs) = ap (λ ys. x ∷ ys) (column-of_one d xs)

-- the values in a column at the points of its domain
pub column-values : {A : Type 0} (R : RingOf A) (root : ℕ → A) (a v : List A) (lg : ℕ) → AreValuesOnDomain R root (one_column a) (one_column v) → length a ≡ 2 ^ lg
    → (i : ℕ) → i < length a → R.same (get_or v i R.zero) (value_in_ring R a (power R.one R.product (root lg) i))
column-values R root a v lg h e i l =
    let place : i * 1 + 0 ≡ i = omega arith in
    subst (λ b. R.same (get_or v i R.zero) (value_in_ring R b (power R.one R.product (root lg) i))) (column-of_one R.zero a)
    (subst (λ j. R.same (get_or v j R.zero) (value_in_ring R (column_of R.zero (one_column a) 0) (power R.one R.product (root lg) i))) place (h lg e i 0 l (omega arith)))

-- the true places are the indices below total
pub indices-of : (total : ℕ) (xs indices : List ℕ) (filled : List Bool) → AreTrueAt total xs filled → indices ≡ filled_places filled → AreIndicesBelow total xs indices
indices-of total xs indices filled h e = record {
  rise = λ k l.
      let m : k + 1 < count_true filled = omega (arith, l, count) in
      omega (arith, places-number filled indices e k (omega arith), places-number filled indices e (k + 1) m, filled_place-rise filled k m);
  exactly = λ i. (λ z. (h i).0 (found i z), λ z. listed i ((h i).1 z));
}
  where
    count : length indices ≡ count_true filled
    count = places-count filled indices e

    found : (i : ℕ) → Contains indices i → get_or filled i false ≡ true
    found i (k, l, s) =
        let m : k < count_true filled = omega (arith, l, count) in
        let here : filled_place filled k ≡ i = sym (places-number filled indices e k m) ∙ get_or_default indices k 0 i l ∙ s in
        ap (λ j. get_or filled j false) (sym here) ∙ (filled_place-true filled k m).1

    inside : (filled : List Bool) (i : ℕ) → get_or filled i false ≡ true → i < length filled
    inside [] i t = absurd (true≢false (sym t))
    inside (b ∷ filled) zero t = omega arith
    inside (b ∷ filled) (suc i) t = omega (arith, inside filled i t)

    listed : (i : ℕ) → get_or filled i false ≡ true → Contains indices i
    listed i t =
        let (k, l, s) = filled_place-found filled i (inside filled i t) t in
        let m : k < length indices = omega (arith, l, count) in
        (k, m, get_or_default indices k i 0 m ∙ places-number filled indices e k l ∙ s)

-- what was gathered from the points of the domain
pub gathered-points : {A : Type 0} (R : RingOf A) (E : IsEquality R.same) (w : A) (n : ℕ) (domain found points : List A) (places : List ℕ) → found ≡ domain → length points ≡ length places
    → ((i : ℕ) → i < n → R.same (get_or domain i R.zero) (power R.one R.product w i)) → All (λ place. place < n) places
    → ((k : ℕ) → k < length places → R.same (get_or points k R.zero) (get_or found (get_or places k 0) R.zero)) → ArePointsAt R w places points
gathered-points R E w n domain found points places e count powers inside each = record {
  count = count;
  each = λ k l. E.transitive _ _ _ (subst (λ xs. R.same (get_or points k R.zero) (get_or xs (get_or places k 0) R.zero)) e (each k l)) (powers (get_or places k 0) (inside k 0 l));
}
