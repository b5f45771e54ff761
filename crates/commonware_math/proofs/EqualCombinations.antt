-- Whether combinations are the same, told by the weights and the points of their difference.
use Rattle.std.proofs.Common.{◌≡◌, ◌↔◌, ◌<◌, ◌+◌, inl, inr, ℕ, zero, suc, eqb, cond, Bool, true, false, List, [], ◌∷◌, ◌++◌, length, take, get_or, refl, ap, arith}
use Rattle.std.proofs.lemmas.Bool.{ne_eqb, eq-eqb}
use Rattle.std.proofs.lemmas.List.{take_more}
use Rattle.math_theory.specs.Laws.{IsEquality, IsGroup, IsModule}
use Rattle.commonware_math.specs.Synthetics.{weight_at, HasTerm, IsRising, value_under}
use Rattle.commonware_math.proofs.FreeSums.{part-nothing}

-- a difference is zero exactly where both are the same
pub zero_difference : {A : Type 0} {same : A → A → Type 0} {zero_of : A} {sum : A → A → A} {negative : A → A} → IsEquality same → IsGroup same zero_of sum negative
    → (a b d : A) → same d (sum a (negative b)) → same d zero_of ↔ same a b
zero_difference E G a b d e =
    let t = E.transitive in
    let s = E.symmetric in (
      λ h. t _ _ _ (s _ _ (G.identity a)) (t _ _ _ (G.respects_sum _ _ _ _ (s _ _ (G.inverse b)) (E.reflexive a))
          (t _ _ _ (G.associative _ _ _) (t _ _ _ (G.respects_sum _ _ _ _ (E.reflexive b) (t _ _ _ (G.commutative _ _) (t _ _ _ (s _ _ e) h))) (t _ _ _ (G.commutative _ _) (G.identity b))))),
      λ h. t _ _ _ e (t _ _ _ (G.respects_sum _ _ _ _ h (E.reflexive _)) (G.inverse b)),
    )

-- each weight is zero
abbrev pub AreZeroWeights : {A : Type 0} → (A → A → Type 0) → A → List (ℕ × A) → Type 0
AreZeroWeights same zero_of [] = Unit {0}
AreZeroWeights same zero_of (term ∷ terms) = same term.1 zero_of × AreZeroWeights same zero_of terms

module _ {A : Type 0} {same : A → A → Type 0} {zero_of : A} {sum : A → A → A} {negative : A → A} (E : IsEquality same) (G : IsGroup same zero_of sum negative) where
  zero_weights-push : (terms : List (ℕ × A)) (term : ℕ × A) → AreZeroWeights same zero_of terms → same term.1 zero_of → AreZeroWeights same zero_of (terms ++ term ∷ [])
  zero_weights-push [] term h k = (k, tt)
  zero_weights-push (t ∷ terms) term h k = (h.0, zero_weights-push terms term h.1 k)

  -- one weight more is zero
  pub zero_weights-next : (terms : List (ℕ × A)) (i : ℕ) (term : ℕ × A) → i < length terms → term ≡ get_or terms i term → AreZeroWeights same zero_of (take i terms) → same term.1 zero_of
      → AreZeroWeights same zero_of (take (i + 1) terms)
  zero_weights-next terms i term l e h k = rw (take_more terms i term l, ← e) (zero_weights-push (take i terms) term h k)

  weight-zero_choice : (b : Bool) (w p : A) → same w zero_of → same p zero_of → same (cond b (sum w p) p) zero_of
  weight-zero_choice true w p h k = E.transitive _ _ _ (G.respects_sum _ _ _ _ h k) (G.identity zero_of)
  weight-zero_choice false w p h k = k

  -- then the weight at every index is zero
  pub zero_weights-at : (terms : List (ℕ × A)) → AreZeroWeights same zero_of terms → (i : ℕ) → same (weight_at zero_of sum i terms) zero_of
  zero_weights-at [] h i = E.reflexive _
  zero_weights-at (t ∷ terms) h i = weight-zero_choice (eqb i t.0) t.1 _ h.0 (zero_weights-at terms h.1 i)

  weight-absent : (terms : List (ℕ × A)) (i : ℕ) → ((j : ℕ) → HasTerm terms j → i < j) → weight_at zero_of sum i terms ≡ zero_of
  weight-absent [] i h = refl
  weight-absent (t ∷ terms) i h =
      let below : i < t.0 = h t.0 (inl refl) in
      let other : eqb i t.0 ≡ false = ne_eqb i t.0 (λ e. omega arith) in
      rw other (weight-absent terms i (λ j k. h j (inr k)))

  HasTerm-item : (terms : List (ℕ × A)) (k : ℕ) (term : ℕ × A) → k < length terms → term ≡ get_or terms k term → HasTerm terms term.0
  HasTerm-item [] k term l e = absurd (omega arith)
  HasTerm-item (t ∷ terms) zero term l e = inl (ap (λ x. x.0) e)
  HasTerm-item (t ∷ terms) (suc k) term l e = inr (HasTerm-item terms k term (omega arith) e)

  -- in a rising list the weight at the index of a term is the term's
  pub weight-of_term : (terms : List (ℕ × A)) (k : ℕ) (term : ℕ × A) → IsRising terms → k < length terms → term ≡ get_or terms k term → same (weight_at zero_of sum term.0 terms) term.1
  weight-of_term [] k term r l e = absurd (omega arith)
  weight-of_term (t ∷ terms) zero term r l e =
      let index : term.0 ≡ t.0 = ap (λ x. x.0) e in
      let weight : term.1 ≡ t.1 = ap (λ x. x.1) e in
      let here : eqb term.0 t.0 ≡ true = eq-eqb term.0 t.0 index in
      let none : weight_at zero_of sum term.0 terms ≡ zero_of = weight-absent terms term.0 (λ j k. rw index (r.0 j k)) in
      rw (here, none, weight) (E.transitive _ _ _ (G.commutative _ _) (G.identity _))
  weight-of_term (t ∷ terms) (suc k) term r l e =
      let below : t.0 < term.0 = r.0 term.0 (HasTerm-item terms k term (omega arith) e) in
      let other : eqb term.0 t.0 ≡ false = ne_eqb term.0 t.0 (λ f. omega arith) in
      rw other (weight-of_term terms k term r.1 (omega arith) e)

module _ {A B : Type 0} {same : B → B → Type 0} {zero_of : B} {sum : B → B → B} {negative : B → B} {scaling : B → A → B} {same_weight : A → A → Type 0} {zero_weight : A} {sum_weights : A → A → A}
    {product : A → A → A} {one : A}
    (E : IsEquality same) (G : IsGroup same zero_of sum negative) (M : IsModule same zero_of sum scaling same_weight zero_weight sum_weights product one) where
  -- without free terms the value is the sum of the points
  pub value-without_free : (generators : List B) (p : B) → same (value_under zero_weight sum_weights zero_of sum scaling generators ([], p)) p
  value-without_free generators p = E.transitive _ _ _ (G.respects_sum _ _ _ _ (part-nothing E G M 0 generators) (E.reflexive p)) (G.identity p)
