-- Where a binary search over pairs in order of their keys ends.
use Rattle.std.proofs.Common.{◌≡◌, ℕ, ◌+◌, ◌<◌, ◌≤◌, Bool, true, false, cond, List, [], ◌∷◌, length, get_or, map, Option, Some, None, option_map, option_copied, Bor, rules, HoldsAt, IsSortedBy, zero, suc, arith, sym, refl, ap, ◌∙◌, subst, ⊎_elim}
use Rattle.std.specs.declared.cmp.Ordering.{Ordering}
use Rattle.std.specs.declared.cmp.Ordering.TheVariants.{Less, Equal, Greater}
use Rattle.std.specs.Ordering.{is_eq, is_lt, ordering_index, ordering_reverse}
use Rattle.std.specs.Cmp.{IsTotalOrder, tied_itself}
use Rattle.std.specs.List.{slice_get, AllByRecursion}
use Rattle.std.specs.Slice.{IsItemAt}
use Rattle.std.specs.List.Sorted.{IsNonDecreasingBy, IsPartitionPoint}
use Rattle.std.specs.Map.{keys_of, values_of, lookup, lookup_entry}
use Rattle.std.proofs.Math.ListN.{get_or-map as get_or-map_default}
use Rattle.std.proofs.lemmas.List.Sorted.{searchable_from_sorted}
use Rattle.std.proofs.lemmas.Map.Entries.{lookup_at_gap, length-keys_of}
use Rattle.std.proofs.lemmas.Map.Keys.{sorted_head, sorted_tail, Less-from_sorted}
use Rattle.std.proofs.lemmas.Map.Made.{is_some-lookup}
use Rattle.std.proofs.lemmas.Option.{same_Some, none-some, slice_get_cases, slice_get-map, get_or_from_slice_get, slice_get_within, gets}
use Rattle.std.specs.Option.{is_some}
use Rattle.math_codec.specs.OrderedMaps.{first_pair, value_at, KeysRise}
use Rattle.math_codec.proofs.FirstPairs.{lookup_entry-none}

pub lookup-from_entry : {K X : Type 0} (test : K → Bool) (es : List (K × X)) → lookup test es ≡ option_map (λ e. e.1) (lookup_entry test es)
lookup-from_entry test [] = refl
lookup-from_entry test (e ∷ es) = from_head (test e.0) e (lookup test es) (lookup_entry test es) (lookup-from_entry test es)
  where
    from_head : {K X : Type 0} (b : Bool) (e : K × X) (o : Option X) (p : Option (K × X)) → o ≡ option_map (λ f. f.1) p → cond b (Some e.1) o ≡ option_map (λ f. f.1) (cond b (Some e) p)
    from_head true e o p h = refl
    from_head false e o p h = h

pub with_element : {X : Type 0} (xs : List X) (i : ℕ) {P : Type 0} → i < length xs → ((x : X) → slice_get xs i ≡ Some x → P) → P
with_element xs i below f = ⊎_elim (λ p. f p.0 p.2) (λ q. absurd (let past : length xs ≤ i = q.0 in omega arith)) (slice_get_cases xs i).1

below_at : {K X : Type 0} (cmp : K → K → Ordering) (k : K) (es : List (K × X)) (i : ℕ) (e : K × X) → AllByRecursion (λ y. cmp k y ≡ Less) (keys_of es) → slice_get es i ≡ Some e → cmp k e.0 ≡ Less
below_at cmp k [] i e h at = absurd (none-some e at)
below_at cmp k (x ∷ es) zero e h at = ap (λ p. cmp k p.0) (sym (same_Some x e at)) ∙ h.0
below_at cmp k (x ∷ es) (suc i) e h at = below_at cmp k es i e h.1 at

module _ {K X : Type 0} {cmp : K → K → Ordering} (o : IsTotalOrder cmp) where
  head_passes : (b : Bool) (x : K × X) (p : Option (K × X)) → b ≡ true → cond b (Some x) p ≡ Some x
  head_passes true x p h = refl
  head_passes false x p h = absurd (let no : ⊥ = (cc) in no)

  head_fails : (b : Bool) (x : K × X) (p : Option (K × X)) → b ≡ false → cond b (Some x) p ≡ p
  head_fails false x p h = refl
  head_fails true x p h = absurd (let no : ⊥ = (cc) in no)

  -- where keys rise, each pair is the first with its key
  pub first_at : (es : List (K × X)) (i : ℕ) (e : K × X) → KeysRise cmp es → slice_get es i ≡ Some e → first_pair cmp e.0 es ≡ Some e
  first_at [] i e rise at = absurd (none-some e at)
  first_at (x ∷ es) zero e rise at =
      let same = same_Some x e at in
      head_passes (is_eq (cmp e.0 x.0)) x (first_pair cmp e.0 es) (ap (λ p. is_eq (cmp e.0 p.0)) same ∙ ap is_eq (tied_itself o e.0)) ∙ at
  first_at (x ∷ es) (suc i) e rise at =
      let above : cmp e.0 x.0 ≡ Greater = o.antisymm e.0 x.0 ∙ ap ordering_reverse (below_at cmp x.0 es i e (sorted_head cmp x.0 (keys_of es) rise) at) in
      head_fails (is_eq (cmp e.0 x.0)) x (first_pair cmp e.0 es) (ap is_eq above) ∙ first_at es i e (sorted_tail cmp x.0 (keys_of es) rise) at

  -- an equal key has the same first pair
  pub first_of_equal : (k l : K) (es : List (K × X)) → cmp k l ≡ Equal → first_pair cmp k es ≡ first_pair cmp l es
  first_of_equal k l es same = ap (λ test. lookup_entry test es) (λ i y. is_eq (o.congr k l y same i))

  sorted_by_key : (es : List (K × X)) → KeysRise cmp es → IsSortedBy (λ a b. is_lt (cmp a.0 b.0)) es
  sorted_by_key es rise i d low high =
      let long = length-keys_of es in
      let less : cmp (get_or (keys_of es) i d.0) (get_or (keys_of es) (i + 1) d.0) ≡ Less = Less-from_sorted cmp (keys_of es) i (i + 1) d.0 rise (omega arith) (omega arith) in
      let x = get_or es i d in
      let y = get_or es (i + 1) d in
      let at : cmp x.0 y.0 ≡ Less = ap (λ k. cmp k y.0) (sym (get_or-map_default (λ (p : K × X). p.0) es i d))
      ∙ ap (cmp (get_or (keys_of es) i d.0)) (sym (get_or-map_default (λ (p : K × X). p.0) es (i + 1) d)) ∙ less in
      ap is_lt (o.antisymm y.0 x.0 ∙ ap ordering_reverse at)

module _ {K X Y : Type 0} {cmp : K → K → Ordering} (o : IsTotalOrder cmp) (k : K) (seen : K × X → Y) (ord : Y → Ordering) (es : List (K × X)) (rise : KeysRise cmp es)
    (compares : (i : ℕ) (e : K × X) → slice_get es i ≡ Some e → ord (seen e) ≡ cmp e.0 k) where
  order_at : (i : ℕ) (d : Y) (e : K × X) → slice_get es i ≡ Some e → ord (get_or (map seen es) i d) ≡ cmp e.0 k
  order_at i d e at = ap ord (get_or_from_slice_get (map seen es) i (seen e) d (slice_get-map seen es i ∙ ap (option_map seen) at)) ∙ compares i e at

  -- a pair at which the search stops is the first with a key equal to k
  pub search_found : (i : ℕ) → i < length es → HoldsAt (λ y. ord y ≡ Equal) (map seen es) i → (e : K × X) × (slice_get es i ≡ Some e) × (first_pair cmp k es ≡ Some e)
  search_found i below stops = with_element es i below (λ e at.
      let same : cmp e.0 k ≡ Equal = sym (order_at i (seen e) e at) ∙ stops (seen e) in
      (e, at, sym (first_of_equal o e.0 k es same) ∙ first_at o es i e rise at))

  pub answers_rise : length (map seen es) ≡ length es → IsNonDecreasingBy (λ y. ordering_index (ord y)) (map seen es)
  answers_rise long i j d le below =
      with_element es i (omega arith) (λ e at_e. with_element es j (omega arith) (λ f at_f.
      let up = searchable_from_sorted o (λ (p : K × X). p.0) es k (sorted_by_key o es rise) i j e le (omega arith) in
      let left : ordering_index (ord (get_or (map seen es) i d)) ≡ ordering_index (cmp (get_or es i e).0 k)
      = ap ordering_index (order_at i d e at_e) ∙ ap (λ (p : K × X). ordering_index (cmp p.0 k)) (sym (get_or_from_slice_get es i e e at_e)) in
      let right : ordering_index (ord (get_or (map seen es) j d)) ≡ ordering_index (cmp (get_or es j e).0 k)
      = ap ordering_index (order_at j d f at_f) ∙ ap (λ (p : K × X). ordering_index (cmp p.0 k)) (sym (get_or_from_slice_get es j f e at_f)) in
      omega arith))

  turned : (a b : Ordering) (e : K × X) → cmp e.0 k ≡ a → ordering_reverse a ≡ b → cmp k e.0 ≡ b
  turned a b e h r = o.antisymm k e.0 ∙ ap ordering_reverse h ∙ r

  -- where the search stops at no pair, no key is equal to k
  pub search_missed : (i : ℕ) → length (map seen es) ≡ length es
      → (IsNonDecreasingBy (λ y. ordering_index (ord y)) (map seen es) → IsPartitionPoint (λ y. ord y ≡ Less) (λ y. ord y ≡ Greater) (map seen es) i) → first_pair cmp k es ≡ None
  search_missed i long parted =
      let parts = parted (answers_rise long) in
      let none : lookup (λ y. is_eq (cmp k y)) es ≡ None = lookup_at_gap o k es i rise
      (λ j e below at. turned Less Greater e (sym (order_at j (seen e) e at) ∙ parts.0 j (seen e) (omega arith) below) refl)
      (λ e at. turned Greater Less e (sym (order_at i (seen e) e at) ∙ parts.1 i (seen e) (omega arith) (let within = slice_get_within es i e at in omega arith)) refl) in
      lookup_entry-none (λ y. is_eq (cmp k y)) es (sym (is_some-lookup (λ y. is_eq (cmp k y)) es) ∙ ap is_some none)

-- what `get` gives at a place
pub got_item : {X : Type 0} (xs : List X) (i : ℕ) (r : Option (Bor X)) → IsItemAt xs i r → option_copied r ≡ slice_get xs i
got_item xs i r got = search (rules, gets)

module _ {K X : Type 0} {cmp : K → K → Ordering} (o : IsTotalOrder cmp) (k : K) (keys : List K) (es : List (K × X)) (are : keys ≡ keys_of es) (rise : KeysRise cmp es) (i : ℕ) where
  pub value_found : i < length keys → HoldsAt (λ y. cmp y k ≡ Equal) keys i → slice_get (values_of es) i ≡ value_at cmp k es
  value_found below stops =
      let long : length keys ≡ length es = ap length are ∙ length-keys_of es in
      let e = search_found o k (λ (p : K × X). p.0) (λ y. cmp y k) es rise (λ j p at. refl) i (omega arith) (subst (λ l. HoldsAt (λ y. cmp y k ≡ Equal) l i) are stops) in
      slice_get-map (λ (p : K × X). p.1) es i ∙ ap (option_map (λ p. p.1)) (e.1 ∙ sym e.2) ∙ sym (lookup-from_entry (λ y. is_eq (cmp k y)) es)

  pub value_missed : (IsNonDecreasingBy (λ y. ordering_index (cmp y k)) keys → IsPartitionPoint (λ y. cmp y k ≡ Less) (λ y. cmp y k ≡ Greater) keys i) → value_at cmp k es ≡ None
  value_missed parted =
      lookup-from_entry (λ y. is_eq (cmp k y)) es
      ∙ ap (option_map (λ p. p.1)) (search_missed o k (λ (p : K × X). p.0) (λ y. cmp y k) es rise (λ j p at. refl) i
      (length-keys_of es) (subst (λ l. IsNonDecreasingBy (λ y. ordering_index (cmp y k)) l → IsPartitionPoint (λ y. cmp y k ≡ Less) (λ y. cmp y k ≡ Greater) l i) are parted))
