-- Where a binary search over the places of values, by rising value, ends.
use Rattle.std.proofs.Common.{◌≡◌, ℕ, ◌+◌, ◌<◌, List, length, get_or, Option, Some, None, option_map, HoldsAt, arith, sym, ap, ◌∙◌, subst}
use Rattle.std.specs.declared.cmp.Ordering.{Ordering}
use Rattle.std.specs.declared.cmp.Ordering.TheVariants.{Less, Equal, Greater}
use Rattle.std.specs.Ordering.{ordering_index}
use Rattle.std.specs.Cmp.{IsTotalOrder}
use Rattle.std.specs.List.{slice_get}
use Rattle.std.specs.List.Sorted.{IsNonDecreasingBy, IsPartitionPoint}
use Rattle.std.specs.Map.{keys_of, values_of}
use Rattle.std.specs.Option.{unwrap_or}
use Rattle.std.proofs.lemmas.Map.Entries.{length-values_of}
use Rattle.std.proofs.lemmas.Option.{slice_get-map, get_or_from_slice_get}
use Rattle.math_codec.specs.OrderedMaps.{compared_at, key_with, IsOrderByValue}
use Rattle.math_codec.proofs.SearchedPairs.{first_at, search_found, search_missed}
use Rattle.math_codec.proofs.ValuePlaces.{Found, place_found, place_missed}

module _ {I V : Type 0} {cmp : V → V → Ordering} (o : IsTotalOrder cmp) (v : V) (m : List (I × V)) (by_value : List ℕ) (is : IsOrderByValue cmp (values_of m) by_value) (i : ℕ) where
  compares : (j : ℕ) (e : V × ℕ) → slice_get is.0 j ≡ Some e → compared_at cmp (values_of m) v e.1 ≡ cmp e.0 v
  compares j e at =
      let r : Found cmp e.0 0 m (key_with cmp e.0 m) e = place_found cmp e.0 0 m e (sym (is.2.1 e.0) ∙ first_at o is.0 j e is.2.0 at) in
      let place : e.1 ≡ r.at = (let far : e.1 ≡ 0 + r.at = r.place in omega arith) in
      ap (λ (x : Option V). unwrap_or (option_map (λ y. cmp y v) x) Equal) (ap (slice_get (values_of m)) place ∙ r.value)

  pub key_found : i < length by_value → HoldsAt (λ p. compared_at cmp (values_of m) v p ≡ Equal) by_value i → (p : ℕ) → p ≡ get_or by_value i p → slice_get (keys_of m) p ≡ key_with cmp v m
  key_found below stops p at =
      let long : length by_value ≡ length is.0 = ap length is.1 ∙ length-values_of is.0 in
      let e = search_found o v (λ (x : V × ℕ). x.1) (compared_at cmp (values_of m) v) is.0 is.2.0 compares i (omega arith)
      (subst (λ l. HoldsAt (λ p. compared_at cmp (values_of m) v p ≡ Equal) l i) is.1 stops) in
      let r : Found cmp v 0 m (key_with cmp v m) e.0 = place_found cmp v 0 m e.0 (sym (is.2.1 v) ∙ e.2) in
      let held : p ≡ e.0.1 = at ∙ ap (λ l. get_or l i p) is.1
      ∙ get_or_from_slice_get (values_of is.0) i e.0.1 p (slice_get-map (λ (x : V × ℕ). x.1) is.0 i ∙ ap (option_map (λ (x : V × ℕ). x.1)) e.1) in
      let place : p ≡ r.at = (let far : e.0.1 ≡ 0 + r.at = r.place in omega arith) in
      ap (slice_get (keys_of m)) place ∙ r.first

  pub key_missed : (IsNonDecreasingBy (λ p. ordering_index (compared_at cmp (values_of m) v p)) by_value
      → IsPartitionPoint (λ p. compared_at cmp (values_of m) v p ≡ Less) (λ p. compared_at cmp (values_of m) v p ≡ Greater) by_value i) → key_with cmp v m ≡ None
  key_missed parted =
      place_missed cmp v 0 m
      (sym (is.2.1 v)
      ∙ search_missed o v (λ (x : V × ℕ). x.1) (compared_at cmp (values_of m) v) is.0 is.2.0 compares i (length-values_of is.0)
      (subst (λ l. IsNonDecreasingBy (λ p. ordering_index (compared_at cmp (values_of m) v p)) l
      → IsPartitionPoint (λ p. compared_at cmp (values_of m) v p ≡ Less) (λ p. compared_at cmp (values_of m) v p ≡ Greater) l i) is.1 parted))
