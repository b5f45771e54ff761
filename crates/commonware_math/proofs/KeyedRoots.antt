-- Keyed weights at roots of unity, looked up by the index of each key.
use Rattle.std.proofs.Common.{◌≡◌, ◌≢◌, inl, inr, ℕ, zero, suc, ltb, eqb, ◌<◌, ◌≤◌, List, [], ◌∷◌, ◌++◌, Option, Some, Bool, true, false, cond, length, map, get_or, refl, sym, ◌∙◌, ap, ap₂, subst, arith, true≢false}
use Rattle.std.proofs.lemmas.List.Elements.{filter-append}
use Rattle.std.proofs.lemmas.Bool.{cases_eq, cases_lt, lt-ltb, ltb-true, eq-eqb, eqb-true, false_from_ne_true}
use Rattle.std.proofs.lemmas.List.{map-append, length-map, get_or-map, get_or_default}
use Rattle.std.proofs.lemmas.List.Elements.{AllZip-get_or}
use Rattle.std.proofs.lemmas.List.FromFn.{length-map-range_with_len, get_or-map-range_with_len}
use Rattle.std.proofs.lemmas.Map.Keys.{IsDistinct-from_sorted, sorted_from_strictly_increasing}
use Rattle.std.specs.Cmp.{nat_cmp_is}
use Rattle.std.specs.List.{AllByRecursion, AllZip, Contains, IsDistinct, range_with_len, zip, filter}
use Rattle.std.specs.List.Sorted.{IsStrictlySortedBy, IsStrictlyIncreasing}
use Rattle.std.specs.declared.cmp.Ordering.{Ordering}
use Rattle.std.specs.declared.cmp.Ordering.TheVariants.{Less, Equal, Greater}
use Rattle.std.specs.Map.{keys_of, values_of}
use Rattle.std.specs.Option.{unwrap_or, option_map}
use Rattle.std.specs.Prelude.{is_some}
use Rattle.std.specs.Ordering.{nat_cmp, is_eq}
use Rattle.math_theory.specs.Domains.{HasExactOrder}
use Rattle.math_theory.specs.Interpolation.{AreApart, AreWeightsAt}
use Rattle.math_theory.specs.Laws.{IsEquality, IsGroup, IsProduct, IsRing, IsField}
use Rattle.math_theory.specs.Powers.{power, powers}
use Rattle.math_theory.proofs.lists.Apart.{AreApart-cons}
use Rattle.math_theory.proofs.domains.CarriedDomains.{powers_apart-same}
use Rattle.math_theory.proofs.interpolation.CarriedInterpolation.{weights_same, weights_at_place}
use Rattle.math_base.specs.Members.{RingOf}
use Rattle.math_base.proofs.PlaceByPlace.{AllZip-append}
use Rattle.math_theory.proofs.interpolation.Rearranged.{has, has-head, has-tail, Differ, weights-members}
use Rattle.math_theory.proofs.lists.ListMaps.{map-map}
use Rattle.math_codec.specs.OrderedMaps.{is_equal, value_at, first_pair}
use Rattle.math_codec.proofs.MapParts.{zip_of_parts}
use Rattle.math_transforms.specs.RootWeights.{AreIndicesBelow}
use Rattle.commonware_math.specs.Interpolators.{AreWeightsOfPoints}
use Rattle.commonware_math.specs.RootInterpolators.{pairs_below, pairs_at_powers, weighted_pairs, weight_at, InterpolatesAtPowers}

-- a pair whose index has a weight is one more
pub weighted_pairs-next : {I A : Type 0} (ws : List (ℕ × A)) (ys : List (I × ℕ)) (key : I) (index : ℕ) (w : A) → value_at nat_cmp index ws ≡ Some w
    → weighted_pairs ws (ys ++ ((key, index) ∷ [])) ≡ weighted_pairs ws ys ++ ((key, index) ∷ [])
weighted_pairs-next ws ys key index w e =
    filter-append (λ p. is_some (value_at nat_cmp p.1 ws)) ys ((key, index) ∷ [])
    ∙ ap (λ o. weighted_pairs ws ys ++ cond (is_some o) ((key, index) ∷ []) []) e

pub weighted_keys-next : {I A : Type 0} (ws : List (ℕ × A)) (ys : List (I × ℕ)) (kept new : List I) (key : I) (index : ℕ) (w : A) → value_at nat_cmp index ws ≡ Some w
    → kept ≡ keys_of (weighted_pairs ws ys) → new ≡ kept ++ (key ∷ []) → new ≡ keys_of (weighted_pairs ws (ys ++ ((key, index) ∷ [])))
weighted_keys-next ws ys kept new key index w e h n =
    n ∙ ap (λ ks. ks ++ (key ∷ [])) h ∙ sym (map-append (λ p. p.0) (weighted_pairs ws ys) ((key, index) ∷ [])) ∙ ap keys_of (sym (weighted_pairs-next ws ys key index w e))

pub weighted_values-next : {I A : Type 0} (same : A → A → Type 0) (zero_of : A) (ws : List (ℕ × A)) (ys : List (I × ℕ)) (values new : List A) (key : I) (index : ℕ) (w copy : A)
    → value_at nat_cmp index ws ≡ Some w
    → same copy w → AllZip (λ v i. same v (weight_at zero_of ws i)) values (values_of (weighted_pairs ws ys)) → new ≡ values ++ (copy ∷ [])
    → AllZip (λ v i. same v (weight_at zero_of ws i)) new (values_of (weighted_pairs ws (ys ++ ((key, index) ∷ []))))
weighted_values-next same zero_of ws ys values new key index w copy e s h n =
    let all : values_of (weighted_pairs ws (ys ++ ((key, index) ∷ []))) ≡ values_of (weighted_pairs ws ys) ++ (index ∷ []) =
    ap values_of (weighted_pairs-next ws ys key index w e) ∙ map-append (λ p. p.1) (weighted_pairs ws ys) ((key, index) ∷ []) in
    rw (n, all)
    (AllZip-append (λ v i. same v (weight_at zero_of ws i)) values (values_of (weighted_pairs ws ys)) copy index h (subst (λ o. same copy (unwrap_or o zero_of)) (sym e) s))

-- all pairs were taken
pub pairs-all : {I : Type 0} (keys : List I) (indices : List ℕ) (pairs : List (I × ℕ)) → (keys_of pairs ≡ keys) × (values_of pairs ≡ indices) → pairs ≡ zip keys indices
pairs-all keys indices pairs (k, v) = sym (zip_of_parts pairs) ∙ ap₂ zip k v

equal-same : (a b : ℕ) → a ≡ b → is_eq (nat_cmp a b) ≡ true
equal-same a b e = ap is_eq (sym (nat_cmp_is a b Equal e))

equal-other : (a b : ℕ) → a ≢ b → is_eq (nat_cmp a b) ≡ false
equal-other a b o =
    elim (cases_lt a b) [
      | inl l ↦ ap is_eq (sym (nat_cmp_is a b Less l))
      | inr m ↦ ap is_eq (sym (nat_cmp_is a b Greater (omega (arith, o))))
    ]

-- members, as truth values and by their places
has-contains : (i : ℕ) (xs : List ℕ) (k : ℕ) → k < length xs → get_or xs k i ≡ i → has i xs ≡ true
has-contains i [] k l e = absurd (omega arith)
has-contains i (x ∷ xs) zero l e = has-head i x xs (sym e)
has-contains i (x ∷ xs) (suc k) l e =
    elim (cases_eq i x) [
      | inl h ↦ has-head i x xs h
      | inr o ↦ has-tail i x xs o ∙ has-contains i xs k (omega arith) e
    ]

contains-has : (i : ℕ) (xs : List ℕ) → has i xs ≡ true → Contains xs i
contains-has i [] h = absurd (true≢false (sym h))
contains-has i (x ∷ xs) h =
    elim (cases_eq i x) [
      | inl e ↦ (0, omega arith, sym e)
      | inr o ↦ let (k, l, e) = contains-has i xs (sym (has-tail i x xs o) ∙ h) in (suc k, omega arith, e)
    ]

same-truth : (b c : Bool) → (b ≡ true → c ≡ true) → (c ≡ true → b ≡ true) → b ≡ c
same-truth true c h k = sym (h refl)
same-truth false true h k = k refl
same-truth false false h k = refl

-- what a list of weights with differing indices gives
value-found : {A : Type 0} (ws : List (ℕ × A)) (k : ℕ) (d : A) → Differ (keys_of ws) → k < length ws → value_at nat_cmp (get_or (keys_of ws) k 0) ws ≡ Some (get_or (values_of ws) k d)
value-found [] k d h l = absurd (omega arith)
value-found (e ∷ ws) zero d h l = ap (λ b. cond b (Some e.1) (value_at nat_cmp e.0 ws)) (equal-same e.0 e.0 refl)
value-found (e ∷ ws) (suc k) d h l =
    let i = get_or (keys_of ws) k 0 in
    let m : k < length (keys_of ws) = omega (arith, l, length-map ws (λ p. p.0)) in
    let other : i ≢ e.0 = λ s. true≢false (sym (has-contains e.0 (keys_of ws) k m (get_or_default (keys_of ws) k e.0 0 m ∙ s)) ∙ h.0) in
    ap (λ b. cond b (Some e.1) (value_at nat_cmp i ws)) (equal-other i e.0 other) ∙ value-found ws k d h.1 (omega arith)

value-has : {A : Type 0} (ws : List (ℕ × A)) (i : ℕ) → is_some (value_at nat_cmp i ws) ≡ has i (keys_of ws)
value-has [] i = refl
value-has (e ∷ ws) i =
    elim (cases_eq i e.0) [
      | inl s ↦ ap (λ b. is_some (cond b (Some e.1) (value_at nat_cmp i ws))) (equal-same i e.0 s) ∙ sym (has-head i e.0 (keys_of ws) s)
      | inr o ↦ ap (λ b. is_some (cond b (Some e.1) (value_at nat_cmp i ws))) (equal-other i e.0 o) ∙ value-has ws i ∙ sym (has-tail i e.0 (keys_of ws) o)
    ]

entry-head : {A : Type 0} (e : ℕ × A) (b : Bool) (v : Option A) (p : Option (ℕ × A)) → v ≡ option_map (λ p. p.1) p → cond b (Some e.1) v ≡ option_map (λ p. p.1) (cond b (Some e) p)
entry-head e true v p h = refl
entry-head e false v p h = h

-- the value of the first pair
value-entry : {A : Type 0} (i : ℕ) (ws : List (ℕ × A)) → value_at nat_cmp i ws ≡ option_map (λ p. p.1) (first_pair nat_cmp i ws)
value-entry i [] = refl
value-entry i (e ∷ ws) = entry-head e (is_eq (nat_cmp i e.0)) (value_at nat_cmp i ws) (first_pair nat_cmp i ws) (value-entry i ws)

filter-same : {X : Type 0} (t u : X → Bool) (xs : List X) → ((k : ℕ) (d : X) → k < length xs → t (get_or xs k d) ≡ u (get_or xs k d)) → filter t xs ≡ filter u xs
filter-same t u [] h = refl
filter-same t u (x ∷ xs) h =
    ap (λ b. cond b (x ∷ filter t xs) (filter t xs)) (h 0 x (omega arith))
    ∙ ap (λ ys. cond (u x) (x ∷ ys) ys) (filter-same t u xs (λ k d l. h (suc k) d (omega arith)))

module _ {I : Type 0} (total : ℕ) where
  abbrev kept : List (I × ℕ) → List (I × ℕ)
  kept pairs = pairs_below total pairs

  kept-true : (p : I × ℕ) (pairs : List (I × ℕ)) → p.1 < total → kept (p ∷ pairs) ≡ p ∷ kept pairs
  kept-true p pairs l = ap (λ b. cond b (p ∷ kept pairs) (kept pairs)) (lt-ltb p.1 total l)

  kept-false : (p : I × ℕ) (pairs : List (I × ℕ)) → total ≤ p.1 → kept (p ∷ pairs) ≡ kept pairs
  kept-false p pairs l = ap (λ b. cond b (p ∷ kept pairs) (kept pairs)) (false_from_ne_true (ltb p.1 total) (λ t. let m : p.1 < total = ltb-true p.1 total t in absurd (omega arith)))

  -- the kept indices are those below total
  has-kept : (i : ℕ) (pairs : List (I × ℕ)) → has i (values_of (kept pairs)) ≡ true → (has i (values_of pairs) ≡ true) × (i < total)
  has-kept i [] h = absurd (true≢false (sym h))
  has-kept i (p ∷ pairs) h =
      elim (cases_lt p.1 total) [
        | inl l ↦
            let h' : has i (p.1 ∷ values_of (kept pairs)) ≡ true = ap (λ ps. has i (values_of ps)) (sym (kept-true p pairs l)) ∙ h in
            elim (cases_eq i p.1) [
              | inl e ↦ (has-head i p.1 (values_of pairs) e, omega arith)
              | inr o ↦ let r = has-kept i pairs (sym (has-tail i p.1 (values_of (kept pairs)) o) ∙ h') in (has-tail i p.1 (values_of pairs) o ∙ r.0, r.1)
            ]
        | inr m ↦
            let r = has-kept i pairs (ap (λ ps. has i (values_of ps)) (sym (kept-false p pairs m)) ∙ h) in
            elim (cases_eq i p.1) [
              | inl e ↦ (has-head i p.1 (values_of pairs) e, r.1)
              | inr o ↦ (has-tail i p.1 (values_of pairs) o ∙ r.0, r.1)
            ]
      ]

  kept-has : (i : ℕ) (pairs : List (I × ℕ)) → has i (values_of pairs) ≡ true → i < total → has i (values_of (kept pairs)) ≡ true
  kept-has i [] h l = h
  kept-has i (p ∷ pairs) h l =
      elim (cases_eq i p.1) [
        | inl e ↦ ap (λ ps. has i (values_of ps)) (kept-true p pairs (omega arith)) ∙ has-head i p.1 (values_of (kept pairs)) e
        | inr o ↦
            let r : has i (values_of (kept pairs)) ≡ true = kept-has i pairs (sym (has-tail i p.1 (values_of pairs) o) ∙ h) l in
            elim (cases_lt p.1 total) [
              | inl m ↦ ap (λ ps. has i (values_of ps)) (kept-true p pairs m) ∙ has-tail i p.1 (values_of (kept pairs)) o ∙ r
              | inr m ↦ ap (λ ps. has i (values_of ps)) (kept-false p pairs m) ∙ r
            ]
      ]

  Differ-kept : (pairs : List (I × ℕ)) → Differ (values_of pairs) → Differ (values_of (kept pairs))
  Differ-kept [] d = tt
  Differ-kept (p ∷ pairs) d =
      elim (cases_lt p.1 total) [
        | inl l ↦
            subst (λ ps. Differ (values_of ps)) (sym (kept-true p pairs l))
            (false_from_ne_true (has p.1 (values_of (kept pairs))) (λ t. true≢false (sym (has-kept p.1 pairs t).0 ∙ d.0)), Differ-kept pairs d.1)
        | inr m ↦ subst (λ ps. Differ (values_of ps)) (sym (kept-false p pairs m)) (Differ-kept pairs d.1)
      ]

  -- the keys still rise
  pub rise-kept : (cmp : I → I → Ordering) (pairs : List (I × ℕ)) → IsStrictlySortedBy cmp (keys_of pairs) → IsStrictlySortedBy cmp (keys_of (kept pairs))
  unfolding IsStrictlySortedBy
  rise-kept cmp [] h = h
  rise-kept cmp (p ∷ pairs) h =
      elim (cases_lt p.1 total) [
        | inl l ↦ subst (λ ps. IsStrictlySortedBy cmp (keys_of ps)) (sym (kept-true p pairs l)) (below (λ y. cmp p.0 y ≡ Less) pairs h.0, rise-kept cmp pairs h.1)
        | inr m ↦ subst (λ ps. IsStrictlySortedBy cmp (keys_of ps)) (sym (kept-false p pairs m)) (rise-kept cmp pairs h.1)
      ]
    where
      below : (Q : I → Type 0) (pairs : List (I × ℕ)) → AllByRecursion Q (keys_of pairs) → AllByRecursion Q (keys_of (kept pairs))
      below Q [] h = h
      below Q (p ∷ pairs) h =
          elim (cases_lt p.1 total) [
            | inl l ↦ subst (λ ps. AllByRecursion Q (keys_of ps)) (sym (kept-true p pairs l)) (h.0, below Q pairs h.1)
            | inr m ↦ subst (λ ps. AllByRecursion Q (keys_of ps)) (sym (kept-false p pairs m)) (below Q pairs h.1)
          ]

-- indices that differ by their order
pub Differ-distinct : (xs : List ℕ) → IsDistinct (is_equal nat_cmp) xs → Differ xs
unfolding IsDistinct
Differ-distinct [] d = tt
Differ-distinct (x ∷ xs) d = (absent x xs d.0, Differ-distinct xs d.1)
  where
    absent : (x : ℕ) (xs : List ℕ) → AllByRecursion (λ y. is_eq (nat_cmp x y) ≡ false) xs → has x xs ≡ false
    absent x [] h = refl
    absent x (y ∷ xs) h = has-tail x y xs (λ e. true≢false (sym (equal-same x y e) ∙ h.0)) ∙ absent x xs h.1

pub Differ-rising : (xs : List ℕ) → IsStrictlyIncreasing xs → Differ xs
Differ-rising xs h = Differ-distinct xs (IsDistinct-from_sorted nat_cmp xs (sorted_from_strictly_increasing xs h))

module _ {I : Type 0} (total : ℕ) (pairs : List (I × ℕ)) (indices : List ℕ) (h : AreIndicesBelow total (values_of pairs) indices) where
  index-below : (i : ℕ) → has i (values_of pairs) ≡ true → has i indices ≡ ltb i total
  index-below i t =
      same-truth (has i indices) (ltb i total)
      (λ s. lt-ltb i total ((h.exactly i).0 (contains-has i indices s)).1)
      (λ s. let (k, l, e) = (h.exactly i).1 (contains-has i (values_of pairs) t, ltb-true i total s) in has-contains i indices k l e)

  -- the indices are those of the kept pairs
  pub index-members : (i : ℕ) → has i indices ≡ has i (values_of (pairs_below total pairs))
  index-members i =
      same-truth (has i indices) (has i (values_of (pairs_below total pairs)))
      (λ s. let (c, l) = (h.exactly i).0 (contains-has i indices s) in kept-has total i pairs (has-contains i (values_of pairs) c.0 c.1 c.2) l)
      (λ s. let r = has-kept total i pairs s in index-below i r.0 ∙ lt-ltb i total r.1)

  -- the pairs with a weight are those kept
  pub weighted-kept : {A : Type 0} (weights map_of : List (ℕ × A)) → keys_of weights ≡ indices → ((i : ℕ) → first_pair nat_cmp i map_of ≡ first_pair nat_cmp i weights)
      → weighted_pairs map_of pairs ≡ pairs_below total pairs
  weighted-kept weights map_of e same =
      filter-same (λ p. is_some (value_at nat_cmp p.1 map_of)) (λ p. ltb p.1 total) pairs
      (λ k d l.
      let p = get_or pairs k d in
      let m : k < length (values_of pairs) = omega (arith, l, length-map pairs (λ p. p.1)) in
      let t : has p.1 (values_of pairs) ≡ true = has-contains p.1 (values_of pairs) k m (get_or-map (λ p. p.1) pairs k d p.1 l) in
      ap is_some (value-entry p.1 map_of ∙ ap (option_map (λ q. q.1)) (same p.1) ∙ sym (value-entry p.1 weights)) ∙ value-has weights p.1 ∙ ap (has p.1) e ∙ index-below p.1 t)

-- what is looked up is the weight in its place
pub weight-found : {A : Type 0} (zero_of : A) (weights map_of : List (ℕ × A)) (k : ℕ) → Differ (keys_of weights) → ((i : ℕ) → first_pair nat_cmp i map_of ≡ first_pair nat_cmp i weights)
    → k < length weights
    → weight_at zero_of map_of (get_or (keys_of weights) k 0) ≡ get_or (values_of weights) k zero_of
weight-found zero_of weights map_of k d same l =
    let i = get_or (keys_of weights) k 0 in
    ap (λ o. unwrap_or o zero_of) (value-entry i map_of ∙ ap (option_map (λ q. q.1)) (same i) ∙ sym (value-entry i weights) ∙ value-found weights k zero_of d l)

pub AllZip-places : {A : Type 0} (Q : A → ℕ → Type 0) (d : A) (xs : List A) (ys : List ℕ) → AllZip Q xs ys → (length xs ≡ length ys) × ((k : ℕ) → k < length ys → Q (get_or xs k d) (get_or ys k 0))
AllZip-places Q d [] [] h = (refl, λ k l. absurd (omega arith))
AllZip-places Q d [] (y ∷ ys) h = absurd h
AllZip-places Q d (x ∷ xs) [] h = absurd h
AllZip-places Q d (x ∷ xs) (y ∷ ys) h = let r = AllZip-places Q d xs ys h.1 in (omega (arith, r.0), places (λ k l. r.1 k l))
  where
    places : ((k : ℕ) → k < length ys → Q (get_or xs k d) (get_or ys k 0)) → (k : ℕ) → k < length (y ∷ ys) → Q (get_or (x ∷ xs) k d) (get_or (y ∷ ys) k 0)
    places r zero l = h.0
    places r (suc k) l = r k (omega arith)

module _ {A : Type 0} (R : RingOf A) {inverse : A → A} (E : IsEquality R.same) (G : IsGroup R.same R.zero R.sum R.negative) (P : IsProduct R.same R.product) (L : IsRing R.same R.sum R.product R.one)
    (F : IsField R.same R.zero R.product R.one inverse) where
  abbrev one_place : ℕ → ℕ → List A
  one_place k n = map (λ i. cond (eqb i k) R.one R.zero) (range_with_len 0 n)

  -- weights at points that are apart are those of an interpolator
  pub weights-of_points : (x : A) (points ws : List A) → AreApart R.same points → AreWeightsAt R.same R.zero R.sum R.product R.one x points ws → AreWeightsOfPoints R x points ws
  weights-of_points x points ws d W = record {
    count = sym W.lengths;
    at_point = λ k first.
        let n = length points in
        let ones : List A = one_place k n in
        let long : length ones ≡ n = length-map-range_with_len (λ i. cond (eqb i k) R.one R.zero) 0 n in
        let at : (i : ℕ) → i < n → get_or ones i R.zero ≡ cond (eqb i k) R.one R.zero = λ i l. get_or-map-range_with_len (λ i. cond (eqb i k) R.one R.zero) 0 n i i R.zero l (omega arith) in
        let here : get_or ones k R.zero ≡ R.one = at k first.0 ∙ ap (λ b. cond b R.one R.zero) (eq-eqb k k refl) in
        let other : (i : ℕ) → i < n → i ≢ k → get_or ones i R.zero ≡ R.zero = λ i l o. at i l ∙ ap (λ b. cond b R.one R.zero) (false_from_ne_true (eqb i k) (λ t. o (eqb-true i k t))) in
        let same : (y z : A) → y ≡ z → R.same y z = λ y z e. subst (R.same y) e (E.reflexive y) in
        let V : AreWeightsAt R.same R.zero R.sum R.product R.one x points ones =
        weights_at_place E G P L F x points ones k d first.0 (subst (λ y. R.same y x) (get_or_default points k x R.zero first.0) first.1) long
        (same (get_or ones k R.zero) R.one here, λ i l o. same (get_or ones i R.zero) R.zero (other i (omega (arith, l, long)) o)) in
        let Z = weights_same E G P L F x points ones ws d V W in (
          E.transitive _ _ _ (AllZip-get_or R.same ws ones k R.zero R.zero Z (omega (arith, W.lengths, first.0))) (same (get_or ones k R.zero) R.one here),
          λ i l o. E.transitive _ _ _ (AllZip-get_or R.same ws ones i R.zero R.zero Z l) (same (get_or ones i R.zero) R.zero (other i (omega (arith, l, W.lengths)) o)),
        );
    repeated = λ outside r. absurd (d r.0 r.1 r.2 r.3 r.4 r.5);
    give = λ _. W;
    only = λ _ others V. weights_same E G P L F x points ws others d W V;
  }

  module _ (w : A) (n : ℕ) (o : HasExactOrder R.same R.one R.product w n) where
    power-only : (i j : ℕ) → i < n → j < n → R.same (power R.one R.product w i) (power R.one R.product w j) → i ≡ j
    power-only i j l m s =
        let apart = powers_apart-same E G P L w n o in
        let long : length (powers R.one R.product w n) ≡ n = length-map-range_with_len (power R.one R.product w) 0 n in
        let at : (k : ℕ) → k < n → get_or (powers R.one R.product w n) k R.zero ≡ power R.one R.product w k =
        λ k b. get_or-map-range_with_len (power R.one R.product w) 0 n k k R.zero b (omega arith) in
        elim (cases_eq i j) [
          | inl e ↦ e
          | inr q ↦ elim (cases_lt i j) [
            | inl b ↦ absurd (apart i j R.zero b (omega (arith, long, m)) (rw (at i l, at j m) s))
            | inr b ↦ absurd (apart j i R.zero (omega (arith, q)) (omega (arith, long, l)) (rw (at i l, at j m) (E.symmetric _ _ s)))
          ]
        ]

    has-later : (j i : ℕ) (is : List ℕ) → has j is ≡ true → has j (i ∷ is) ≡ true
    has-later j i is t =
        elim (cases_eq j i) [
          | inl e ↦ has-head j i is e
          | inr q ↦ has-tail j i is q ∙ t
        ]

    pub points-apart : (is : List ℕ) → Differ is → ((i : ℕ) → has i is ≡ true → i < n) → AreApart R.same (map (power R.one R.product w) is)
    points-apart [] d b = λ i j e l m. absurd (omega arith)
    points-apart (i ∷ is) d b =
        AreApart-cons R.same (power R.one R.product w i) (map (power R.one R.product w) is)
        (λ k e l s.
        let m : k < length is = omega (arith, l, length-map is (power R.one R.product w)) in
        let j = get_or is k 0 in
        let t : has j is ≡ true = has-contains j is k m (get_or_default is k j 0 m) in
        let same_index : i ≡ j = power-only i j (b i (has-head i i is refl)) (b j (has-later j i is t))
        (subst (R.same (power R.one R.product w i)) (get_or-map (power R.one R.product w) is k 0 e m) s) in
        true≢false (sym (subst (λ h. has h is ≡ true) (sym same_index) t) ∙ d.0))
        (points-apart is d.1 (λ j t. b j (has-later j i is t)))

    -- the keyed weights interpolate at the points of the kept pairs
    pub keyed-roots : {I : Type 0} (cmp : I → I → Ordering) (x : A) (total : ℕ) (pairs : List (I × ℕ)) (weights map_of : List (ℕ × A)) (keyed : List (I × A)) (values : List A)
        → IsStrictlySortedBy cmp (keys_of pairs)
        → Differ (values_of pairs) → total ≤ n → AreIndicesBelow total (values_of pairs) (keys_of weights) → ((i : ℕ) → first_pair nat_cmp i map_of ≡ first_pair nat_cmp i weights)
        → AllZip (λ v i. R.same v (weight_at R.zero map_of i)) values (values_of (pairs_below total pairs)) → keys_of keyed ≡ keys_of (pairs_below total pairs) → values_of keyed ≡ values
        → AreWeightsAt R.same R.zero R.sum R.product R.one x (map (power R.one R.product w) (keys_of weights)) (values_of weights)
        → InterpolatesAtPowers cmp R w x (pairs_below total pairs) keyed
    keyed-roots cmp x total pairs weights map_of keyed values rise d fits h first zipped keys vals W =
        let js = pairs_below total pairs in
        let points = pairs_at_powers R w js in
        let same_keys : keys_of points ≡ keys_of js = map-map (λ p. p.0) (λ p. (p.0, power R.one R.product w p.1)) js in
        let same_points : values_of points ≡ map (power R.one R.product w) (values_of js) =
        map-map (λ p. p.1) (λ p. (p.0, power R.one R.product w p.1)) js ∙ sym (map-map (power R.one R.product w) (λ p. p.1) js) in
        let differ : Differ (keys_of weights) = Differ-rising (keys_of weights) h.rise in
        let kept_differ : Differ (values_of js) = Differ-kept total pairs d in
        let found = AllZip-places (λ v i. R.same v (weight_at R.zero map_of i)) R.zero values (values_of js) zipped in
        let here : AreWeightsAt R.same R.zero R.sum R.product R.one x (map (power R.one R.product w) (values_of js)) values =
        weights-members E G P R.one (weight_at R.zero map_of) (power R.one R.product w) x (keys_of weights) (values_of js) (values_of weights) values differ kept_differ
        (index-members total pairs (keys_of weights) h)
        (λ k l. subst (R.same (get_or (values_of weights) k R.zero)) (sym (weight-found R.zero weights map_of k differ first (omega (arith, l, length-map weights (λ p. p.0)))))
        (E.reflexive (get_or (values_of weights) k R.zero)))
        found.0 found.1 W in
        let apart : AreApart R.same (map (power R.one R.product w) (values_of js)) = points-apart (values_of js) kept_differ (λ i t. let r = has-kept total i pairs t in omega (arith, r.1)) in
        let all : AreWeightsOfPoints R x (map (power R.one R.product w) (values_of js)) (values_of keyed) =
        subst (λ vs. AreWeightsOfPoints R x (map (power R.one R.product w) (values_of js)) vs) (sym vals) (weights-of_points x (map (power R.one R.product w) (values_of js)) values apart here) in
        record {
          keyed = record {
            points = points;
            first = (subst (IsStrictlySortedBy cmp) (sym same_keys) (rise-kept total cmp pairs rise), λ k. refl);
            keys = keys ∙ sym same_keys;
            each = subst (λ ps. AreWeightsOfPoints R x ps (values_of keyed)) (sym same_points) all;
          };
          give = all.give apart;
          only = all.only apart;
        }
