-- The weighted sum of combinations, made from those of its halves.
use Rattle.std.proofs.Common.{◌≡◌, ◌↔◌, ◌⊎◌, inl, inr, ℕ, zero, suc, min, List, [], ◌∷◌, ◌++◌, length, take, drop, get_or, refl, sym, ap, arith}
use Rattle.std.proofs.lemmas.List.{take-append-drop, take_min}
use Rattle.std.specs.Map.{keys_of}
use Rattle.math_theory.specs.Laws.{IsEquality, IsGroup}
use Rattle.math_theory.specs.Sums.{weighted_sum}
use Rattle.commonware_math.specs.Synthetics.{HasTerm, IsRising, HasIndices, AnyHasTerm}
use Rattle.commonware_math.proofs.WeightMaps.{HasTerm-keys}

pub one_item : {A : Type 0} (xs : List A) (x : A) → length xs ≡ 1 → x ≡ get_or xs 0 x → xs ≡ x ∷ []
one_item [] x e f = absurd (omega arith)
one_item (y ∷ []) x e f = ap (λ z. z ∷ []) (sym f)
one_item (y ∷ z ∷ xs) x e f = absurd (omega arith)

module _ {A B : Type 0} where
  AnyHasTerm-append : (a b : List (List (ℕ × A) × B)) (i : ℕ) → AnyHasTerm (a ++ b) i ↔ (AnyHasTerm a i ⊎ AnyHasTerm b i)
  AnyHasTerm-append [] b i = (λ k. inr k, λ k. elim k [ inl l ↦ absurd l | inr l ↦ l ])
  AnyHasTerm-append (c ∷ a) b i =
      let rest = AnyHasTerm-append a b i in (
        λ k. elim k [ inl l ↦ inl (inl l) | inr l ↦ elim (rest.0 l) [ inl m ↦ inl (inr m) | inr m ↦ inr m ] ],
        λ k. elim k [ inl l ↦ elim l [ inl m ↦ inl m | inr m ↦ inr (rest.1 (inl m)) ] | inr l ↦ inr (rest.1 (inr l)) ],
      )

  -- one combination's indices
  pub indices-of_one : (combinations : List (List (ℕ × A) × B)) (c : List (ℕ × A) × B) (terms : List (ℕ × A)) → combinations ≡ c ∷ [] → IsRising terms → keys_of terms ≡ keys_of c.0
      → HasIndices terms (AnyHasTerm combinations)
  indices-of_one combinations c terms e r k =
      rw e record { rising = r; indices = λ i. (λ h. inl (HasTerm-keys terms c.0 k i h), λ o. elim o [ inl h ↦ HasTerm-keys c.0 terms (sym k) i h | inr h ↦ absurd h ]) }

  -- the indices of both halves
  pub indices-of_halves : (combinations : List (List (ℕ × A) × B)) (m : ℕ) (a b terms : List (ℕ × A))
      → HasIndices a (AnyHasTerm (take m combinations)) → HasIndices b (AnyHasTerm (drop m combinations))
      → HasIndices terms (λ i. HasTerm a i ⊎ HasTerm b i) → HasIndices terms (AnyHasTerm combinations)
  indices-of_halves combinations m a b terms h k l =
      rw (← take-append-drop m combinations) record {
        rising = l.rising;
        indices = λ i.
            let both = AnyHasTerm-append (take m combinations) (drop m combinations) i in (
              λ o. both.1 (elim ((l.indices i).0 o) [ inl p ↦ inl ((h.indices i).0 p) | inr p ↦ inr ((k.indices i).0 p) ]),
              λ o. (l.indices i).1 (elim (both.0 o) [ inl p ↦ inl ((h.indices i).1 p) | inr p ↦ inr ((k.indices i).1 p) ]),
            );
      }

module _ {A B : Type 0} {same : A → A → Type 0} {zero_of : A} {sum : A → A → A} {negative : A → A} (E : IsEquality same) (G : IsGroup same zero_of sum negative) (scaling : A → B → A) where
  weighted_sum-append : (points points' : List A) (scalars scalars' : List B) → length points ≡ length scalars
      → same (weighted_sum zero_of sum scaling (points ++ points') (scalars ++ scalars')) (sum (weighted_sum zero_of sum scaling points scalars) (weighted_sum zero_of sum scaling points' scalars'))
  weighted_sum-append [] points' [] scalars' e = E.symmetric _ _ (G.identity _)
  weighted_sum-append [] points' (s ∷ scalars) scalars' e = absurd (omega arith)
  weighted_sum-append (p ∷ points) points' [] scalars' e = absurd (omega arith)
  weighted_sum-append (p ∷ points) points' (s ∷ scalars) scalars' e =
      E.transitive _ _ _ (G.respects_sum _ _ _ _ (E.reflexive _) (weighted_sum-append points points' scalars scalars' (omega arith))) (E.symmetric _ _ (G.associative _ _ _))

  -- one point
  pub weighted_sum-of_one : (points : List A) (scalars : List B) (p : A) (s : B) → points ≡ p ∷ [] → scalars ≡ s ∷ [] → same (scaling p s) (weighted_sum zero_of sum scaling points scalars)
  weighted_sum-of_one points scalars p s e f = rw (e, f) (E.symmetric _ _ (E.transitive _ _ _ (G.commutative _ _) (G.identity _)))

  -- the sums of both halves
  pub weighted_sum-of_halves : (points : List A) (scalars : List B) (m : ℕ) → length (take m points) ≡ length (take m scalars)
      → same (sum (weighted_sum zero_of sum scaling (take m points) (take m scalars)) (weighted_sum zero_of sum scaling (drop m points) (drop m scalars)))
      (weighted_sum zero_of sum scaling points scalars)
  weighted_sum-of_halves points scalars m e =
      let both = weighted_sum-append (take m points) (drop m points) (take m scalars) (drop m scalars) e in
      E.symmetric _ _ (rw (take-append-drop, take-append-drop) at both)

-- points and scalars without a partner have no part in the sum
pub weighted_sum-shorter : {A B : Type 0} (zero_of : A) (sum : A → A → A) (scaling : A → B → A) (points : List A) (scalars : List B) (m : ℕ) → m ≡ min (length points) (length scalars)
    → weighted_sum zero_of sum scaling (take m points) (take m scalars) ≡ weighted_sum zero_of sum scaling points scalars
weighted_sum-shorter zero_of sum scaling [] scalars zero e = refl
weighted_sum-shorter zero_of sum scaling [] scalars (suc m) e = absurd (omega arith)
weighted_sum-shorter zero_of sum scaling (p ∷ points) [] zero e = refl
weighted_sum-shorter zero_of sum scaling (p ∷ points) [] (suc m) e = absurd (omega arith)
weighted_sum-shorter zero_of sum scaling (p ∷ points) (s ∷ scalars) zero e = absurd (omega arith)
weighted_sum-shorter zero_of sum scaling (p ∷ points) (s ∷ scalars) (suc m) e = ap (sum (scaling p s)) (weighted_sum-shorter zero_of sum scaling points scalars m (omega arith))

-- the first of two lists, as far as the second goes
pub take_shorter : {A B : Type 0} (a : List A) (b : List B) (m : ℕ) → m ≡ min (length a) (length b) → take m a ≡ take (length b) a
take_shorter a b m e =
    let f : m ≡ min (length b) (length a) = omega arith in
    rw f (take_min (length b) a)
