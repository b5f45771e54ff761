-- The places of values, by rising value.
use Rattle.std.proofs.Common.{◌≡◌, ℕ, suc, ◌+◌, Bool, true, false, cond, List, [], ◌∷◌, ◌++◌, ◌||◌, ◌<◌, length, take, get_or, map, Option, Some, None, arith, sym, refl, ap, ◌∙◌}
use Rattle.std.specs.declared.cmp.Ordering.{Ordering}
use Rattle.std.specs.declared.cmp.Ordering.TheVariants.{Less, Equal, Greater}
use Rattle.std.specs.Ordering.{is_eq, match_ordering}
use Rattle.std.specs.BTreeMap.{insert_entry}
use Rattle.std.specs.List.{AllByRecursion, slice_get}
use Rattle.std.specs.List.Sorted.{IsStrictlySortedBy}
use Rattle.std.specs.Map.{keys_of, values_of, lookup_entry}
use Rattle.std.proofs.lemmas.List.{take_more, length-take-le}
use Rattle.std.proofs.lemmas.Option.{none-some, same_Some}
use Rattle.math_codec.specs.OrderedMaps.{add_pair, has_key, key_with, is_equal, places_from, KeysRise}

-- the pairs, with f of each key
abbrev pub with_keys : {A K X : Type 0} → (A → K) → List (A × X) → List (K × X)
with_keys f es = map (λ e. (f e.0, e.1)) es

pub values_of-with_keys : {A K X : Type 0} (f : A → K) (es : List (A × X)) → values_of (with_keys f es) ≡ values_of es
values_of-with_keys f [] = refl
values_of-with_keys f (e ∷ es) = ap (λ l. e.1 ∷ l) (values_of-with_keys f es)

module _ {A K X : Type 0} (f : A → K) (cmp : K → K → Ordering) where
  through_order : (r : Ordering) (a b c : List (A × X)) → with_keys f (match_ordering r a b c) ≡ match_ordering r (with_keys f a) (with_keys f b) (with_keys f c)
  through_order Less a b c = refl
  through_order Equal a b c = refl
  through_order Greater a b c = refl

  inserted : (es : List (A × X)) (k : A) (v : X) → with_keys f (insert_entry (λ x y. cmp (f x) (f y)) es k v) ≡ insert_entry cmp (with_keys f es) (f k) v
  inserted [] k v = refl
  inserted (e ∷ es) k v =
      through_order (cmp (f k) (f e.0)) ((k, v) ∷ e ∷ es) ((e.0, v) ∷ es) (e ∷ insert_entry (λ x y. cmp (f x) (f y)) es k v)
      ∙ ap (λ l. match_ordering (cmp (f k) (f e.0)) ((f k, v) ∷ (f e.0, e.1) ∷ with_keys f es) ((f e.0, v) ∷ with_keys f es) ((f e.0, e.1) ∷ l)) (inserted es k v)

  has_mapped : (es : List (A × X)) (k : A) → has_key (λ x y. cmp (f x) (f y)) k es ≡ has_key cmp (f k) (with_keys f es)
  has_mapped [] k = refl
  has_mapped (e ∷ es) k = ap (λ b. is_eq (cmp (f k) (f e.0)) || b) (has_mapped es k)

  through_test : (b : Bool) (a c : List (A × X)) → with_keys f (cond b a c) ≡ cond b (with_keys f a) (with_keys f c)
  through_test true a c = refl
  through_test false a c = refl

  pub with_keys-add_pair : (es : List (A × X)) (k : A) (v : X) → with_keys f (add_pair (λ x y. cmp (f x) (f y)) es k v) ≡ add_pair cmp (with_keys f es) (f k) v
  with_keys-add_pair es k v =
      through_test (has_key (λ x y. cmp (f x) (f y)) k es) es (insert_entry (λ x y. cmp (f x) (f y)) es k v)
      ∙ ap (λ b. cond b (with_keys f es) (with_keys f (insert_entry (λ x y. cmp (f x) (f y)) es k v))) (has_mapped es k)
      ∙ ap (cond (has_key cmp (f k) (with_keys f es)) (with_keys f es)) (inserted es k v)

  all_less : (k : A) (es : List (A × X)) → AllByRecursion (λ y. cmp (f k) (f y) ≡ Less) (keys_of es) → AllByRecursion (λ y. cmp (f k) y ≡ Less) (keys_of (with_keys f es))
  all_less k [] h = tt
  all_less k (e ∷ es) h = (h.0, all_less k es h.1)

  pub keys_rise-with_keys : (es : List (A × X)) → KeysRise (λ x y. cmp (f x) (f y)) es → KeysRise cmp (with_keys f es)
  unfolding IsStrictlySortedBy
  keys_rise-with_keys [] h = tt
  keys_rise-with_keys (e ∷ es) h = (all_less e.0 es h.0, keys_rise-with_keys es h.1)

pub places_from-push : {V : Type 0} (n : ℕ) (vs : List V) (v : V) → places_from n (vs ++ v ∷ []) ≡ places_from n vs ++ (v, n + length vs) ∷ []
places_from-push n [] v = ap (λ m. (v, m) ∷ []) (omega arith)
places_from-push n (x ∷ vs) v = ap (λ l. (x, n) ∷ l) (places_from-push (n + 1) vs v ∙ ap (λ m. places_from (n + 1) vs ++ (v, m) ∷ []) (omega arith))

-- the places of one value more
pub places_taken : {V : Type 0} (vs : List V) (i : ℕ) (v : V) → i < length vs → v ≡ get_or vs i v → places_from 0 (take (i + 1) vs) ≡ places_from 0 (take i vs) ++ (v, i) ∷ []
places_taken vs i v below at =
    let long : length (take i vs) ≡ i = length-take-le i vs (omega arith) in
    ap (places_from 0) (take_more vs i v below ∙ ap (λ x. take i vs ++ x ∷ []) (sym at)) ∙ places_from-push 0 (take i vs) v ∙ ap (λ n. places_from 0 (take i vs) ++ (v, n) ∷ []) (omega arith)

module _ {I V : Type 0} (cmp : V → V → Ordering) (v : V) where
  -- where e comes from: the pair at its place, whose key is the first with an equal value
  pub record Found (n : ℕ) (pairs : List (I × V)) (key : Option I) (e : V × ℕ) : Type 0 where
    pub at : ℕ
    pub place : e.1 ≡ n + at
    pub value : slice_get (values_of pairs) at ≡ Some e.0
    pub first : slice_get (keys_of pairs) at ≡ key

  found_head : (b : Bool) (n : ℕ) (p : I × V) (ps : List (I × V)) (e : V × ℕ)
      → (lookup_entry (is_equal cmp v) (places_from (n + 1) (values_of ps)) ≡ Some e → Found (n + 1) ps (key_with cmp v ps) e)
      → cond b (Some (p.1, n)) (lookup_entry (is_equal cmp v) (places_from (n + 1) (values_of ps))) ≡ Some e → Found n (p ∷ ps) (cond b (Some p.0) (key_with cmp v ps)) e
  found_head true n p ps e more h =
      let same = same_Some (p.1, n) e h in
      let here : e.1 ≡ n = sym (ap (λ (x : V × ℕ). x.1) same) in
      record { at = 0; place = omega arith; value = ap (λ (x : V × ℕ). Some x.0) same; first = refl }
  found_head false n p ps e more h =
      let r = more h in
      let far : e.1 ≡ (n + 1) + r.at = r.place in
      record { at = suc r.at; place = omega arith; value = r.value; first = r.first }

  pub place_found : (n : ℕ) (pairs : List (I × V)) (e : V × ℕ) → lookup_entry (is_equal cmp v) (places_from n (values_of pairs)) ≡ Some e → Found n pairs (key_with cmp v pairs) e
  place_found n [] e h = absurd (none-some e h)
  place_found n (p ∷ ps) e h = found_head (is_equal cmp v p.1) n p ps e (place_found (n + 1) ps e) h

  missed_head : (b : Bool) (n : ℕ) (p : I × V) (ps : List (I × V))
      → (lookup_entry (is_equal cmp v) (places_from (n + 1) (values_of ps)) ≡ None → key_with cmp v ps ≡ None)
      → cond b (Some (p.1, n)) (lookup_entry (is_equal cmp v) (places_from (n + 1) (values_of ps))) ≡ None → cond b (Some p.0) (key_with cmp v ps) ≡ None
  missed_head true n p ps more h = absurd (none-some (p.1, n) (sym h))
  missed_head false n p ps more h = more h

  pub place_missed : (n : ℕ) (pairs : List (I × V)) → lookup_entry (is_equal cmp v) (places_from n (values_of pairs)) ≡ None → key_with cmp v pairs ≡ None
  place_missed n [] h = refl
  place_missed n (p ∷ ps) h = missed_head (is_equal cmp v p.1) n p ps (place_missed (n + 1) ps) h
