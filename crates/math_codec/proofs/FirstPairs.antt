-- Pairs that are added to a sorted list unless their key is there.
use Rattle.std.proofs.Common.{◌≡◌, Bool, true, false, cond, List, [], ◌∷◌, ◌++◌, ◌||◌, Some, None, sym, refl, ap, ◌∙◌, subst}
use Rattle.std.specs.declared.cmp.Ordering.{Ordering}
use Rattle.std.specs.declared.cmp.Ordering.TheVariants.{Less, Equal, Greater}
use Rattle.std.specs.Ordering.{is_eq, eq_by_cmp, match_ordering}
use Rattle.std.specs.Cmp.{IsTotalOrder, eq_by_cmp_equiv}
use Rattle.std.specs.BTreeMap.{insert_entry}
use Rattle.std.specs.List.{IsDistinct, list_any}
use Rattle.std.specs.Map.{keys_of, lookup_entry}
use Rattle.std.specs.Option.{is_some}
use Rattle.std.proofs.lemmas.Bool.{true≢false}
use Rattle.std.proofs.lemmas.List.{map-append}
use Rattle.std.proofs.lemmas.Map.Keys.{IsDistinct-push}
use Rattle.math_codec.specs.OrderedMaps.{add_pair, first_pair, has_key, KeysDiffer}

-- each key has the same first pair in both
abbrev pub SameFirsts : {K X : Type 0} → (K → K → Ordering) → List (K × X) → List (K × X) → Type 0
SameFirsts {K} cmp es xs = (q : K) → first_pair cmp q es ≡ first_pair cmp q xs

module _ {K X : Type 0} (test : K → Bool) where
  append_head : (b : Bool) (x : K × X) (xs ys : List (K × X)) → lookup_entry test (xs ++ ys) ≡ cond (list_any test (keys_of xs)) (lookup_entry test xs) (lookup_entry test ys)
      → cond b (Some x) (lookup_entry test (xs ++ ys)) ≡ cond (b || list_any test (keys_of xs)) (cond b (Some x) (lookup_entry test xs)) (lookup_entry test ys)
  append_head true x xs ys more = refl
  append_head false x xs ys more = more

  pub lookup_entry-append : (xs ys : List (K × X)) → lookup_entry test (xs ++ ys) ≡ cond (list_any test (keys_of xs)) (lookup_entry test xs) (lookup_entry test ys)
  lookup_entry-append [] ys = refl
  lookup_entry-append (x ∷ xs) ys = append_head (test x.0) x xs ys (lookup_entry-append xs ys)

  is_some_head : (b : Bool) (x : K × X) (xs : List (K × X)) → is_some (lookup_entry test xs) ≡ list_any test (keys_of xs)
      → is_some (cond b (Some x) (lookup_entry test xs)) ≡ b || list_any test (keys_of xs)
  is_some_head true x xs more = refl
  is_some_head false x xs more = more

  pub is_some-lookup_entry : (xs : List (K × X)) → is_some (lookup_entry test xs) ≡ list_any test (keys_of xs)
  is_some-lookup_entry [] = refl
  is_some-lookup_entry (x ∷ xs) = is_some_head (test x.0) x xs (is_some-lookup_entry xs)

swap_tests : {A : Type 0} (a b : Bool) (p q r : A) → (a ≡ true → b ≡ true → ⊥) → cond a p (cond b q r) ≡ cond b q (cond a p r)
swap_tests true true p q r apart = absurd (apart refl refl)
swap_tests true false p q r apart = refl
swap_tests false b p q r apart = refl

neither : (a b : Bool) → a || b ≡ false → (a ≡ false) × (b ≡ false)
neither true b h = absurd (true≢false h)
neither false b h = (refl, h)

module _ {K X : Type 0} (test : K → Bool) where
  pub lookup_entry-none : (xs : List (K × X)) → list_any test (keys_of xs) ≡ false → lookup_entry test xs ≡ None
  lookup_entry-none [] h = refl
  lookup_entry-none (x ∷ xs) h =
      let p = neither (test x.0) (list_any test (keys_of xs)) h in
      ap (λ b. cond b (Some x) (lookup_entry test xs)) p.0 ∙ lookup_entry-none xs p.1

module _ {K X : Type 0} {cmp : K → K → Ordering} (o : IsTotalOrder cmp) where
  head_inserted : (q k : K) (v : X) (e : K × X) (es more : List (K × X)) (r : Ordering) → cmp k e.0 ≡ r → is_eq r ≡ false
      → first_pair cmp q more ≡ cond (is_eq (cmp q k)) (Some (k, v)) (first_pair cmp q es)
      → first_pair cmp q (match_ordering r ((k, v) ∷ e ∷ es) ((e.0, v) ∷ es) (e ∷ more)) ≡ cond (is_eq (cmp q k)) (Some (k, v)) (first_pair cmp q (e ∷ es))
  head_inserted q k v e es more Less at apart h = refl
  head_inserted q k v e es more Equal at apart h = absurd (true≢false apart)
  head_inserted q k v e es more Greater at apart h =
      let both : is_eq (cmp q e.0) ≡ true → is_eq (cmp q k) ≡ true → ⊥ = λ a b. true≢false (sym a ∙ (eq_by_cmp_equiv o).congr q k e.0 b ∙ ap is_eq at) in
      ap (cond (is_eq (cmp q e.0)) (Some e)) h ∙ swap_tests (is_eq (cmp q e.0)) (is_eq (cmp q k)) (Some e) (Some (k, v)) (first_pair cmp q es) both

  -- a new key has its pair, and every other key what it had
  pub first_inserted : (q k : K) (v : X) (es : List (K × X)) → has_key cmp k es ≡ false → first_pair cmp q (insert_entry cmp es k v) ≡ cond (is_eq (cmp q k)) (Some (k, v)) (first_pair cmp q es)
  first_inserted q k v [] h = refl
  first_inserted q k v (e ∷ es) h =
      let p = neither (is_eq (cmp k e.0)) (has_key cmp k es) h in
      head_inserted q k v e es (insert_entry cmp es k v) (cmp k e.0) refl p.0 (first_inserted q k v es p.1)

  pub same_keys : (es xs : List (K × X)) → SameFirsts cmp es xs → (q : K) → has_key cmp q es ≡ has_key cmp q xs
  same_keys es xs same q = sym (is_some-lookup_entry (λ k. is_eq (cmp q k)) es) ∙ ap is_some (same q) ∙ is_some-lookup_entry (λ k. is_eq (cmp q k)) xs

  -- a key that is equal to k is there where k is
  has_equal : (q k : K) (xs : List (K × X)) → is_eq (cmp q k) ≡ true → has_key cmp q xs ≡ has_key cmp k xs
  has_equal q k [] e = refl
  has_equal q k (x ∷ xs) e = ap (λ b. b || has_key cmp q xs) ((eq_by_cmp_equiv o).congr q k x.0 e) ∙ ap (λ b. is_eq (cmp k x.0) || b) (has_equal q k xs e)

  -- the first pairs stay the same as both lists take one more
  pub same_firsts_push : (es xs : List (K × X)) (k : K) (v : X) → SameFirsts cmp es xs → SameFirsts cmp (add_pair cmp es k v) (xs ++ (k, v) ∷ [])
  same_firsts_push es xs k v same q = at (has_key cmp k es) refl
    where
      push : first_pair cmp q (xs ++ (k, v) ∷ []) ≡ cond (has_key cmp q xs) (first_pair cmp q xs) (cond (is_eq (cmp q k)) (Some (k, v)) None)
      push = lookup_entry-append (λ x. is_eq (cmp q x)) xs ((k, v) ∷ [])

      there : (b c : Bool) → has_key cmp q xs ≡ b → is_eq (cmp q k) ≡ c → (c ≡ true → b ≡ true) → first_pair cmp q xs ≡ cond b (first_pair cmp q xs) (cond c (Some (k, v)) None)
      there true c h e f = refl
      there false true h e f = absurd (true≢false (sym (f refl)))
      there false false h e f = lookup_entry-none (λ x. is_eq (cmp q x)) xs h

      new : (b c : Bool) → has_key cmp q xs ≡ b → is_eq (cmp q k) ≡ c → (c ≡ true → b ≡ false) → cond c (Some (k, v)) (first_pair cmp q xs) ≡ cond b (first_pair cmp q xs) (cond c (Some (k, v)) None)
      new true true h e f = absurd (true≢false (f refl))
      new true false h e f = refl
      new false true h e f = refl
      new false false h e f = lookup_entry-none (λ x. is_eq (cmp q x)) xs h

      at : (b : Bool) → has_key cmp k es ≡ b → first_pair cmp q (cond b es (insert_entry cmp es k v)) ≡ first_pair cmp q (xs ++ (k, v) ∷ [])
      at true h = same q ∙ there (has_key cmp q xs) (is_eq (cmp q k)) refl refl (λ e. has_equal q k xs e ∙ sym (same_keys es xs same k) ∙ h) ∙ sym push
      at false h = first_inserted q k v es h ∙ ap (cond (is_eq (cmp q k)) (Some (k, v))) (same q)
          ∙ new (has_key cmp q xs) (is_eq (cmp q k)) refl refl (λ e. has_equal q k xs e ∙ sym (same_keys es xs same k) ∙ h) ∙ sym push

  -- keys that differ, and a new one
  pub keys_differ_push : (xs : List (K × X)) (k : K) (v : X) → KeysDiffer cmp xs → has_key cmp k xs ≡ false → KeysDiffer cmp (xs ++ (k, v) ∷ [])
  keys_differ_push xs k v differ new = subst (IsDistinct (eq_by_cmp cmp)) (sym (map-append (λ (p : K × X). p.0) xs ((k, v) ∷ []))) (IsDistinct-push (eq_by_cmp_equiv o) (keys_of xs) k differ new)

-- there are no two in an empty list
pub none_alike : {K : Type 0} (eq : K → K → Bool) → IsDistinct eq []
unfolding IsDistinct
none_alike eq = tt
