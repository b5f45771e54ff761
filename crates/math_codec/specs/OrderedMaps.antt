-- Sorted maps and two-way maps, as the lists of pairs that they hold and are built from. Two keys
-- are equal where `cmp` answers `Equal`, and so are two values.
use Rattle.std.specs.Prelude.{◌≡◌, ℕ, ◌+◌, Bool, true, false, Option, Some, None, List, [], ◌∷◌, ◌++◌, if◌then◌else◌}
use Rattle.std.specs.declared.cmp.Ordering.{Ordering}
use Rattle.std.specs.BTreeMap.{insert_entry}
use Rattle.std.specs.declared.cmp.Ordering.TheVariants.{Equal}
use Rattle.std.specs.List.{IsDistinct, list_any, slice_get}
use Rattle.std.specs.Option.{option_map, unwrap_or}
use Rattle.std.specs.List.Sorted.{IsStrictlySortedBy}
use Rattle.std.specs.Map.{keys_of, values_of, lookup, lookup_entry}
use Rattle.std.specs.Ordering.{is_eq}

-- whether `cmp` answers that x and y are equal
abbrev pub is_equal : {K : Type 0} → (K → K → Ordering) → K → K → Bool
is_equal cmp x y = is_eq (cmp x y)

-- each key is below those after it
abbrev pub KeysRise : {I V : Type 0} → (I → I → Ordering) → List (I × V) → Type 0
KeysRise cmp pairs = IsStrictlySortedBy cmp (keys_of pairs)

-- no two keys are equal
abbrev pub KeysDiffer : {I V : Type 0} → (I → I → Ordering) → List (I × V) → Type 0
KeysDiffer cmp pairs = IsDistinct (is_equal cmp) (keys_of pairs)

-- no two values are equal
abbrev pub ValuesDiffer : {I V : Type 0} → (V → V → Ordering) → List (I × V) → Type 0
ValuesDiffer cmp pairs = IsDistinct (is_equal cmp) (values_of pairs)

-- whether some key is equal to k
abbrev pub has_key : {I V : Type 0} → (I → I → Ordering) → I → List (I × V) → Bool
has_key cmp k pairs = list_any (is_equal cmp k) (keys_of pairs)

-- whether some value is equal to v
abbrev pub has_value : {I V : Type 0} → (V → V → Ordering) → V → List (I × V) → Bool
has_value cmp v pairs = list_any (is_equal cmp v) (values_of pairs)

-- the first pair whose key is equal to k, where there is one
abbrev pub first_pair : {I V : Type 0} → (I → I → Ordering) → I → List (I × V) → Option (I × V)
first_pair cmp k pairs = lookup_entry (is_equal cmp k) pairs

-- the value of the first pair whose key is equal to k, where there is one
abbrev pub value_at : {I V : Type 0} → (I → I → Ordering) → I → List (I × V) → Option V
value_at cmp k pairs = lookup (is_equal cmp k) pairs

-- the key of the first pair whose value is equal to v, where there is one
abbrev pub key_with : {I V : Type 0} → (V → V → Ordering) → V → List (I × V) → Option I
key_with cmp v [] = None
key_with cmp v (p ∷ ps) = if is_equal cmp v p.1 then Some p.0 else key_with cmp v ps

-- the keys of the map rise, and its pair of each key is the first with that key
abbrev pub HasFirstOfEachKey : {I V : Type 0} → (I → I → Ordering) → List (I × V) → List (I × V) → Type 0
HasFirstOfEachKey {I} cmp pairs entries = KeysRise cmp entries × ((k : I) → first_pair cmp k entries ≡ first_pair cmp k pairs)

-- the pairs in order of their keys, with one more in its place unless its key is there
abbrev pub add_pair : {I V : Type 0} → (I → I → Ordering) → List (I × V) → I → V → List (I × V)
add_pair cmp pairs k v = if has_key cmp k pairs then pairs else insert_entry cmp pairs k v

-- the last key occurred before, and no earlier one did
pub record EndsAtRepeatedKey {I V : Type 0} (cmp : I → I → Ordering) (pairs : List (I × V)) : Type 0 where
  pub before : List (I × V)
  pub last : I × V
  pub is : pairs ≡ before ++ last ∷ []
  pub keys_differ : KeysDiffer cmp before
  pub repeated : has_key cmp last.0 before ≡ true

-- the pairs before a place, where neither a key nor a value occurs twice, and the pair at it
pub record Place {I V : Type 0} (cmp : I → I → Ordering) (compare : V → V → Ordering) (pairs : List (I × V)) : Type 0 where
  pub before : List (I × V)
  pub pair : I × V
  pub after : List (I × V)
  pub is : pairs ≡ before ++ pair ∷ after
  pub keys_differ : KeysDiffer cmp before
  pub values_differ : ValuesDiffer compare before

-- the first pair whose key or value occurred before repeats a key
abbrev pub RepeatsKeyFirst : {I V : Type 0} → (I → I → Ordering) → (V → V → Ordering) → List (I × V) → Type 0
RepeatsKeyFirst cmp compare pairs = (at : Place cmp compare pairs) × (has_key cmp at.pair.0 at.before ≡ true)

-- the first pair whose key or value occurred before repeats a value, and its key is new
abbrev pub RepeatsValueFirst : {I V : Type 0} → (I → I → Ordering) → (V → V → Ordering) → List (I × V) → Type 0
RepeatsValueFirst cmp compare pairs = (at : Place cmp compare pairs) × (has_key cmp at.pair.0 at.before ≡ false) × (has_value compare at.pair.1 at.before ≡ true)

-- the values from a place on, each beside its place
abbrev pub places_from : {V : Type 0} → ℕ → List V → List (V × ℕ)
places_from place [] = []
places_from place (v ∷ vs) = (v, place) ∷ places_from (place + 1) vs

-- the places of the values by rising value, where equal values count once
abbrev pub IsOrderByValue : {V : Type 0} → (V → V → Ordering) → List V → List ℕ → Type 0
IsOrderByValue {V} cmp values by_value = (table : List (V × ℕ)) × (by_value ≡ values_of table) × HasFirstOfEachKey cmp (places_from 0 values) table

-- how the value at a place compares to v; as equal where there is none
abbrev pub compared_at : {V : Type 0} → (V → V → Ordering) → List V → V → ℕ → Ordering
compared_at cmp values v place = unwrap_or (option_map (λ x. cmp x v) (slice_get values place)) Equal
