-- Lists of terms (index, weight): their indices, and how two of them are joined from their ends.
use Rattle.std.proofs.Common.{◌≡◌, ◌↔◌, ◌<◌, ◌+◌, ◌⊎◌, inl, inr, ℕ, Bool, true, false, eqb, cond, List, [], ◌∷◌, ◌++◌, length, refl, sym, ap, subst, arith}
use Rattle.std.specs.Prelude.{Option, Some, None, IfSome, IfNone}
use Rattle.std.specs.Option.{option_to_list}
use Rattle.std.proofs.lemmas.List.{length_push}
use Rattle.math_theory.specs.Laws.{IsEquality, IsGroup}
use Rattle.commonware_math.specs.Synthetics.{weight_at, HasTerm, IsRising, HasIndices, IsGreatestIndex, HaveSameWeights}
use Rattle.commonware_math.specs.SyntheticTerms.{IsIndexEnd, AreBelow, IsPopped}
use Rattle.commonware_math.specs.SyntheticLaws.{weight_at-append, exchange}

module _ {A : Type 0} where
  pub HasTerm-left : (a b : List (ℕ × A)) (i : ℕ) → HasTerm a i → HasTerm (a ++ b) i
  HasTerm-left [] b i h = absurd h
  HasTerm-left (t ∷ a) b i (inl e) = inl e
  HasTerm-left (t ∷ a) b i (inr h) = inr (HasTerm-left a b i h)

  pub HasTerm-right : (a b : List (ℕ × A)) (i : ℕ) → HasTerm b i → HasTerm (a ++ b) i
  HasTerm-right [] b i h = h
  HasTerm-right (t ∷ a) b i h = inr (HasTerm-right a b i h)

  pub HasTerm-cases : (a b : List (ℕ × A)) (i : ℕ) → HasTerm (a ++ b) i → HasTerm a i ⊎ HasTerm b i
  HasTerm-cases [] b i h = inr h
  HasTerm-cases (t ∷ a) b i (inl e) = inl (inl e)
  HasTerm-cases (t ∷ a) b i (inr h) = elim (HasTerm-cases a b i h) [ inl k ↦ inl (inr k) | inr k ↦ inr k ]

  -- the indices of a are below those of b
  abbrev pub AreBefore : List (ℕ × A) → List (ℕ × A) → Type 0
  AreBefore a b = (i j : ℕ) → HasTerm a i → HasTerm b j → i < j

  pub rising-first : (a b : List (ℕ × A)) → IsRising (a ++ b) → IsRising a
  rising-first [] b h = tt
  rising-first (t ∷ a) b h = (λ i k. h.0 i (HasTerm-left a b i k), rising-first a b h.1)

  pub rising-before : (a b : List (ℕ × A)) → IsRising (a ++ b) → AreBefore a b
  rising-before [] b h i j k l = absurd k
  rising-before (t ∷ a) b h i j (inl e) l = rw e (h.0 j (HasTerm-right a b j l))
  rising-before (t ∷ a) b h i j (inr k) l = rising-before a b h.1 i j k l

  -- a list that is not empty has a last term
  last_of : (t : ℕ × A) (a : List (ℕ × A)) → (before : List (ℕ × A)) × (last : ℕ × A) × (t ∷ a ≡ before ++ last ∷ [])
  last_of t [] = ([], t, refl)
  last_of t (u ∷ a) = let r = last_of u a in (t ∷ r.0, r.1, ap (λ l. t ∷ l) r.2)

  pub below_end : (a : List (ℕ × A)) (n : ℕ) → IsRising a → IsIndexEnd a n → AreBelow a n
  below_end [] n r e j h = absurd h
  below_end (t ∷ a) n r e j h =
      let l = last_of t a in
      let end : n ≡ l.1.0 + 1 = e.last l.0 l.1 l.2 in
      let r' : IsRising (l.0 ++ l.1 ∷ []) = subst (λ (x : List (ℕ × A)). IsRising x) l.2 r in
      let h' : HasTerm (l.0 ++ l.1 ∷ []) j = subst (λ (x : List (ℕ × A)). HasTerm x j) l.2 h in
      elim (HasTerm-cases l.0 (l.1 ∷ []) j h') [
        | inl k ↦ let below : j < l.1.0 = rising-before l.0 (l.1 ∷ []) r' j l.1.0 k (inl refl) in omega arith
        | inr k ↦ elim k [ inl e' ↦ omega arith | inr k' ↦ absurd k' ]
      ]

  -- the index of the last term is the greatest
  pub greatest_from_last : (terms : List (ℕ × A)) (last : Option ℕ) → IsRising terms → (terms ≡ [] → last ≡ None)
      → ((before : List (ℕ × A)) (term : ℕ × A) → terms ≡ before ++ term ∷ [] → last ≡ Some term.0)
      → IfNone last (terms ≡ []) × IfSome last (λ i. IsGreatestIndex terms i)
  greatest_from_last [] None r n h = (refl, tt)
  greatest_from_last [] (Some i) r n h = absurd (cc (n refl))
  greatest_from_last (t ∷ a) None r n h = let l = last_of t a in absurd (cc (h l.0 l.1 l.2))
  greatest_from_last (t ∷ a) (Some i) r n h =
      let l = last_of t a in
      let e : i ≡ l.1.0 = cc (h l.0 l.1 l.2) in
      let end : IsIndexEnd (t ∷ a) (i + 1) = record { none = λ e. absurd (cc e); last = λ before term f. let g : i ≡ term.0 = cc (h before term f) in ap (λ k. k + 1) g } in (
        tt,
        record {
          has = subst (λ (x : List (ℕ × A)). HasTerm x i) (sym l.2) (HasTerm-right l.0 (l.1 ∷ []) i (inl e));
          greatest = λ j k. let b : j < i + 1 = below_end (t ∷ a) (i + 1) r end j k in omega arith;
        },
      )

module _ {A : Type 0} (same : A → A → Type 0) (sum : A → A → A) where
  -- the term that leaves the end of the list with the greater last index
  module _ (a b left : List (ℕ × A)) (m n : ℕ) (r : IsRising b) (d : IsIndexEnd a m) (e : IsIndexEnd b n) (l : n < m) where
    popped_above : (term : ℕ × A) → a ≡ left ++ term ∷ [] → AreBelow b term.0
    popped_above term h j k =
        let end : m ≡ term.0 + 1 = d.last left term h in
        let below : j < n = below_end b n r e j k in
        omega arith

    pub popped_first : (popped : Option (ℕ × A)) → a ≡ left ++ option_to_list popped → IfSome popped (λ term. IsPopped same sum a b term left b)
    popped_first None h = tt
    popped_first (Some term) h = inl (h, refl, popped_above term h)

    pub popped_second : (popped : Option (ℕ × A)) → a ≡ left ++ option_to_list popped → IfSome popped (λ term. IsPopped same sum b a term b left)
    popped_second None h = tt
    popped_second (Some term) h = inr (inl (h, refl, popped_above term h))

pub popped_shorter : {A : Type 0} (same : A → A → Type 0) (sum : A → A → A) (a b a' b' : List (ℕ × A)) (term : ℕ × A) → IsPopped same sum a b term a' b' → length a' + length b' < length a + length b
popped_shorter same sum a b a' b' term (inl o) = rw (o.0, o.1) (omega (arith, length_push a' term))
popped_shorter same sum a b a' b' term (inr (inl o)) = rw (o.0, o.1) (omega (arith, length_push b' term))
popped_shorter same sum a b a' b' term (inr (inr o)) = rw (o.2, o.3) (omega (arith, length_push a' (term.0, o.0), length_push b' (term.0, o.1)))

-- what is left of the lists p and q, and the terms that were taken from their ends
pub record IsMerging {A : Type 0} (same : A → A → Type 0) (zero : A) (sum : A → A → A) (p q a b rest : List (ℕ × A)) : Type 0 where
  pub first : IsRising a
  pub second : IsRising b
  pub third : IsRising rest
  pub first_before : AreBefore a rest
  pub second_before : AreBefore b rest
  pub indices : (i : ℕ) → ((HasTerm a i ⊎ HasTerm b i) ⊎ HasTerm rest i) ↔ (HasTerm p i ⊎ HasTerm q i)
  pub weights : (i : ℕ) → same (sum (sum (weight_at zero sum i a) (weight_at zero sum i b)) (weight_at zero sum i rest)) (sum (weight_at zero sum i p) (weight_at zero sum i q))

module _ {A : Type 0} {same : A → A → Type 0} {zero : A} {sum : A → A → A} {negative : A → A} (E : IsEquality same) (G : IsGroup same zero sum negative) where
  abbrev weight : ℕ → List (ℕ × A) → A
  weight i terms = weight_at zero sum i terms

  pub merging_begins : (p q : List (ℕ × A)) → IsRising p → IsRising q → IsMerging same zero sum p q p q []
  merging_begins p q h k = record {
    first = h;
    second = k;
    third = tt;
    first_before = λ i j l m. absurd m;
    second_before = λ i j l m. absurd m;
    indices = λ i. (λ o. elim o [ inl l ↦ l | inr l ↦ absurd l ], λ o. inl o);
    weights = λ i. E.transitive _ _ _ (G.commutative _ zero) (G.identity _);
  }

  pub merging_ends : (p q a b rest whole : List (ℕ × A)) → (a ≡ []) × (b ≡ []) → whole ≡ rest → IsMerging same zero sum p q a b rest
      → HasIndices whole (λ i. HasTerm p i ⊎ HasTerm q i) × HaveSameWeights same zero sum whole (p ++ q)
  merging_ends p q a b rest whole n w k =
      let h : IsMerging same zero sum p q [] [] rest = rw (n.0, n.1) at k in
      rw w (
        record { rising = h.third; indices = λ i. (λ k. (h.indices i).0 (inr k), λ k. elim ((h.indices i).1 k) [ inl l ↦ elim l [ inl m ↦ absurd m | inr m ↦ absurd m ] | inr l ↦ l ]) },
        λ i. E.transitive _ _ _ (E.symmetric _ _ (E.transitive _ _ _ (G.respects_sum _ _ _ _ (G.identity zero) (E.reflexive _)) (G.identity _)))
            (E.transitive _ _ _ (h.weights i) (E.symmetric _ _ (weight_at-append E G p q i))),
      )

  swapped : {X Y : Type 0} → X ⊎ Y → Y ⊎ X
  swapped (inl x) = inr x
  swapped (inr y) = inl y

  merging_swapped : (p q a b rest : List (ℕ × A)) → IsMerging same zero sum p q a b rest → IsMerging same zero sum q p b a rest
  merging_swapped p q a b rest h = record {
    first = h.second;
    second = h.first;
    third = h.third;
    first_before = h.second_before;
    second_before = h.first_before;
    indices = λ i. (
      λ o. swapped ((h.indices i).0 (elim o [ inl k ↦ inl (swapped k) | inr k ↦ inr k ])),
      λ o. elim ((h.indices i).1 (swapped o)) [ inl k ↦ inl (swapped k) | inr k ↦ inr k ],
    );
    weights = λ i. E.transitive _ _ _ (G.respects_sum _ _ _ _ (G.commutative _ _) (E.reflexive _)) (E.transitive _ _ _ (h.weights i) (G.commutative _ _));
  }

  -- the last term of the first list is taken
  first_taken : (p q a b rest : List (ℕ × A)) (term : ℕ × A) → AreBelow b term.0 → IsMerging same zero sum p q (a ++ term ∷ []) b rest → IsMerging same zero sum p q a b (term ∷ rest)
  first_taken p q a b rest term below h = record {
    first = rising-first a (term ∷ []) h.first;
    second = h.second;
    third = (λ i k. h.first_before term.0 i (HasTerm-right a (term ∷ []) term.0 (inl refl)) k, h.third);
    first_before = λ i j k l. elim l [
      | inl e ↦ rw e (rising-before a (term ∷ []) h.first i term.0 k (inl refl))
      | inr m ↦ h.first_before i j (HasTerm-left a (term ∷ []) i k) m
    ];
    second_before = λ i j k l. elim l [ inl e ↦ rw e (below i k) | inr m ↦ h.second_before i j k m ];
    indices = λ i. (
      λ o. (h.indices i).0 (elim o [
        | inl k ↦ elim k [ inl l ↦ inl (inl (HasTerm-left a (term ∷ []) i l)) | inr l ↦ inl (inr l) ]
        | inr k ↦ elim k [ inl e ↦ inl (inl (HasTerm-right a (term ∷ []) i (inl e))) | inr l ↦ inr l ]
      ]),
      λ o. elim ((h.indices i).1 o) [
        | inl k ↦ elim k [
          | inl l ↦ elim (HasTerm-cases a (term ∷ []) i l) [ inl m ↦ inl (inl m) | inr m ↦ elim m [ inl e ↦ inr (inl e) | inr n ↦ absurd n ] ]
          | inr l ↦ inl (inr l)
        ]
        | inr k ↦ inr (inr k)
      ],
    );
    weights = λ i.
        let t = E.transitive in
        let s = E.symmetric in
        let r = E.reflexive in
        t _ _ _ (G.respects_sum _ _ _ _ (r _) (weight_at-append E G (term ∷ []) rest i))
        (t _ _ _ (exchange E G (weight i a) (weight i b) (weight i (term ∷ [])) (weight i rest))
        (t _ _ _ (s _ _ (G.associative _ _ _)) (t _ _ _ (G.respects_sum _ _ _ _ (G.respects_sum _ _ _ _ (s _ _ (weight_at-append E G a (term ∷ []) i)) (r _)) (r _)) (h.weights i))));
  }

  -- one term whose weight is the sum of two has the weights of both
  weight_of_both : (b : Bool) (t v w : A) → same t (sum v w) → same (cond b (sum t zero) zero) (sum (cond b (sum v zero) zero) (cond b (sum w zero) zero))
  weight_of_both true t v w h =
      E.transitive _ _ _ (G.respects_sum _ _ _ _ h (E.symmetric _ _ (G.identity zero))) (exchange E G v w zero zero)
  weight_of_both false t v w h = E.symmetric _ _ (G.identity zero)

  -- the last terms of both lists, which have one index, are taken
  both_taken : (p q a b rest : List (ℕ × A)) (term : ℕ × A) (v w : A) → same term.1 (sum v w) → IsMerging same zero sum p q (a ++ (term.0, v) ∷ []) (b ++ (term.0, w) ∷ []) rest
      → IsMerging same zero sum p q a b (term ∷ rest)
  both_taken p q a b rest term v w e h = record {
    first = rising-first a ((term.0, v) ∷ []) h.first;
    second = rising-first b ((term.0, w) ∷ []) h.second;
    third = (λ i k. h.first_before term.0 i (HasTerm-right a ((term.0, v) ∷ []) term.0 (inl refl)) k, h.third);
    first_before = λ i j k l. elim l [
      | inl f ↦ rw f (rising-before a ((term.0, v) ∷ []) h.first i term.0 k (inl refl))
      | inr m ↦ h.first_before i j (HasTerm-left a ((term.0, v) ∷ []) i k) m
    ];
    second_before = λ i j k l. elim l [
      | inl f ↦ rw f (rising-before b ((term.0, w) ∷ []) h.second i term.0 k (inl refl))
      | inr m ↦ h.second_before i j (HasTerm-left b ((term.0, w) ∷ []) i k) m
    ];
    indices = λ i. (
      λ o. (h.indices i).0 (elim o [
        | inl k ↦ elim k [ inl l ↦ inl (inl (HasTerm-left a ((term.0, v) ∷ []) i l)) | inr l ↦ inl (inr (HasTerm-left b ((term.0, w) ∷ []) i l)) ]
        | inr k ↦ elim k [ inl f ↦ inl (inl (HasTerm-right a ((term.0, v) ∷ []) i (inl f))) | inr l ↦ inr l ]
      ]),
      λ o. elim ((h.indices i).1 o) [
        | inl k ↦ elim k [
          | inl l ↦ elim (HasTerm-cases a ((term.0, v) ∷ []) i l) [ inl m ↦ inl (inl m) | inr m ↦ elim m [ inl f ↦ inr (inl f) | inr n ↦ absurd n ] ]
          | inr l ↦ elim (HasTerm-cases b ((term.0, w) ∷ []) i l) [ inl m ↦ inl (inr m) | inr m ↦ elim m [ inl f ↦ inr (inl f) | inr n ↦ absurd n ] ]
        ]
        | inr k ↦ inr (inr k)
      ],
    );
    weights = λ i.
        let t = E.transitive in
        let s = E.symmetric in
        let r = E.reflexive in
        let one : A → List (ℕ × A) = λ u. (term.0, u) ∷ [] in
        t _ _ _ (G.respects_sum _ _ _ _ (r _) (weight_at-append E G (term ∷ []) rest i))
        (t _ _ _ (G.respects_sum _ _ _ _ (r _) (G.respects_sum _ _ _ _ (weight_of_both (eqb i term.0) term.1 v w e) (r _)))
        (t _ _ _ (s _ _ (G.associative _ _ _))
        (t _ _ _ (G.respects_sum _ _ _ _ (t _ _ _ (exchange E G (weight i a) (weight i b) (weight i (one v)) (weight i (one w)))
        (G.respects_sum _ _ _ _ (s _ _ (weight_at-append E G a (one v) i)) (s _ _ (weight_at-append E G b (one w) i)))) (r _)) (h.weights i))));
  }

  pub merging_continues : (p q a b rest a' b' : List (ℕ × A)) (term : ℕ × A) → IsMerging same zero sum p q a b rest → IsPopped same sum a b term a' b' → IsMerging same zero sum p q a' b' (term ∷ rest)
  merging_continues p q a b rest a' b' term h (inl o) = rw o.1 (first_taken p q a' b rest term o.2 (rw o.0 at h))
  merging_continues p q a b rest a' b' term h (inr (inl o)) =
      rw o.1 (merging_swapped q p b' a (term ∷ rest) (first_taken q p b' a rest term o.2 (merging_swapped p q a (b' ++ term ∷ []) rest (rw o.0 at h))))
  merging_continues p q a b rest a' b' term h (inr (inr o)) = both_taken p q a' b' rest term o.0 o.1 o.4 (rw (o.2, o.3) at h)
