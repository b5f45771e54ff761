-- Combinations whose weights go through a function.
use Rattle.std.proofs.Common.{◌≡◌, ◌⊎◌, inl, inr, ℕ, eqb, cond, Bool, true, false, List, [], ◌∷◌, refl, sym, ◌∙◌}
use Rattle.std.specs.List.{AllZip}
use Rattle.std.specs.Map.{keys_of}
use Rattle.math_theory.specs.Laws.{IsEquality, IsGroup}
use Rattle.commonware_math.specs.Synthetics.{HasTerm, IsRising, HasIndices, HaveSameWeights, IsMapOfCombinations, map_weights, concrete_sum}
use Rattle.commonware_math.specs.SyntheticLaws.{additive_of_zero}

-- the terms have the indices of the other terms, and their weights are related to those of the others
abbrev pub AreTermsUnder : {A : Type 0} → (A → A → Type 0) → List (ℕ × A) → List (ℕ × A) → Type 0
AreTermsUnder R terms images = AllZip (λ t u. (u.0 ≡ t.0) × R t.1 u.1) terms images

-- the points are same as the other points, and their weights are related to those of the others
abbrev pub ArePairsUnder : {A B : Type 0} → (A → A → Type 0) → (B → B → Type 0) → List (A × B) → List (A × B) → Type 0
ArePairsUnder R same_point pairs images = AllZip (λ t u. R t.0 u.0 × same_point u.1 t.1) pairs images

module _ {A : Type 0} where
  pub keys-under : (R : A → A → Type 0) (terms images : List (ℕ × A)) → AreTermsUnder R terms images → keys_of images ≡ keys_of terms
  keys-under R [] [] h = refl
  keys-under R [] (u ∷ images) h = absurd h
  keys-under R (t ∷ terms) [] h = absurd h
  keys-under R (t ∷ terms) (u ∷ images) h = let rest = keys-under R terms images h.1 in let first = h.0.0 in cc

  -- the same indices
  pub HasTerm-keys : (a b : List (ℕ × A)) → keys_of a ≡ keys_of b → (i : ℕ) → HasTerm a i → HasTerm b i
  HasTerm-keys [] b e i h = absurd h
  HasTerm-keys (t ∷ a) [] e i h = absurd (cc e)
  HasTerm-keys (t ∷ a) (u ∷ b) e i (inl k) = let f : t.0 ≡ u.0 = cc in inl (k ∙ f)
  HasTerm-keys (t ∷ a) (u ∷ b) e i (inr h) = let f : keys_of a ≡ keys_of b = cc in inr (HasTerm-keys a b f i h)

  pub rising-keys : (a b : List (ℕ × A)) → keys_of a ≡ keys_of b → IsRising a → IsRising b
  rising-keys a [] e h = tt
  rising-keys [] (u ∷ b) e h = absurd (cc e)
  rising-keys (t ∷ a) (u ∷ b) e h =
      let f : t.0 ≡ u.0 = cc in
      let rest : keys_of a ≡ keys_of b = cc in
      (λ i k. rw (← f) (h.0 i (HasTerm-keys b a (sym rest) i k)), rising-keys a b rest h.1)

  -- the indices of two lists are those of their copies
  pub indices-of_copies : (a a' b b' terms : List (ℕ × A)) → keys_of a' ≡ keys_of a → keys_of b' ≡ keys_of b
      → HasIndices terms (λ i. HasTerm a' i ⊎ HasTerm b' i) → HasIndices terms (λ i. HasTerm a i ⊎ HasTerm b i)
  indices-of_copies a a' b b' terms e f h = record {
    rising = h.rising;
    indices = λ i. (
      λ k. elim ((h.indices i).0 k) [ inl l ↦ inl (HasTerm-keys a' a e i l) | inr l ↦ inr (HasTerm-keys b' b f i l) ],
      λ k. (h.indices i).1 (elim k [ inl l ↦ inl (HasTerm-keys a a' (sym e) i l) | inr l ↦ inr (HasTerm-keys b b' (sym f) i l) ]),
    );
  }

module _ {A : Type 0} {same : A → A → Type 0} {zero : A} {sum : A → A → A} {negative : A → A} (E : IsEquality same) (G : IsGroup same zero sum negative)
    (f : A → A) (R : A → A → Type 0) (answers : (w x : A) → R w x → same x (f w)) where
  weight_of_image : (b : Bool) (v w p q : A) → same v w → same p q → same (cond b (sum v p) p) (cond b (sum w q) q)
  weight_of_image true v w p q h k = G.respects_sum _ _ _ _ h k
  weight_of_image false v w p q h k = k

  pub weights-under : (terms images : List (ℕ × A)) → AreTermsUnder R terms images → HaveSameWeights same zero sum images (map_weights f terms)
  weights-under [] [] h i = E.reflexive _
  weights-under [] (u ∷ images) h i = absurd h
  weights-under (t ∷ terms) [] h i = absurd h
  weights-under (t ∷ terms) (u ∷ images) h i = rw h.0.0 (weight_of_image (eqb i t.0) u.1 (f t.1) _ _ (answers t.1 u.1 h.0.1) (weights-under terms images h.1 i))

module _ {A B : Type 0} {same : A → A → Type 0} {sum : A → A → A} {same_point : B → B → Type 0} {zero_point : B} {sum_points : B → B → B} {negative_point : B → B} {scaling : B → A → B}
    (E : IsEquality same_point) (G : IsGroup same_point zero_point sum_points negative_point)
    (respects_points : (p q : B) (w : A) → same_point p q → same_point (scaling p w) (scaling q w)) (respects_weights : (p : B) (w x : A) → same w x → same_point (scaling p w) (scaling p x))
    {f : A → A} {f' : B → B} (M : IsMapOfCombinations same sum same_point sum_points scaling f f') (R : A → A → Type 0) (answers : (w x : A) → R w x → same x (f w)) where
  pub points-under : (pairs images : List (A × B)) → ArePairsUnder R same_point pairs images
      → same_point (concrete_sum zero_point sum_points scaling images) (f' (concrete_sum zero_point sum_points scaling pairs))
  points-under [] [] h = E.symmetric _ _ (additive_of_zero E G M.points)
  points-under [] (u ∷ images) h = absurd h
  points-under (t ∷ pairs) [] h = absurd h
  points-under (t ∷ pairs) (u ∷ images) h =
      let s = E.symmetric in
      let r = E.transitive in
      r _ _ _ (G.respects_sum _ _ _ _ (r _ _ _ (respects_points u.1 t.1 u.0 h.0.1) (r _ _ _ (respects_weights t.1 u.0 (f t.0) (answers t.0 u.0 h.0.0)) (M.scaled t.1 t.0)))
      (points-under pairs images h.1))
      (s _ _ (M.points.of_sum _ _))
