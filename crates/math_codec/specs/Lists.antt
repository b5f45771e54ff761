-- Lists: a length, and then the items.
use Rattle.std.specs.Prelude.{◌≡◌, ℕ, zero, suc, ◌<◌, ◌^◌, true, List, ◌++◌, ◌⊎◌, length, Result, Ok, Err, if◌then◌else◌}
use Rattle.std.specs.List.{flat_map, AllByRecursion}
use Rattle.math_codec.specs.declared.codec.range.LengthRange.{LengthRange}
use Rattle.math_codec.specs.Faults.{Fault, InvalidLength, ◌>>=◌}
use Rattle.math_codec.specs.Lengths.{length_spelling, length_at}
use Rattle.math_codec.specs.Ranges.{in_range}

-- a list is spelled by its length, and then its items in order
abbrev pub list_spelling : {T : Type 0} → (T → List ℕ) → List T → List ℕ
list_spelling spelling items = length_spelling (length items) ++ flat_map spelling items

-- a range admits the list: its length is in the range, and each item is admitted
pub record AdmitsList {T : Type 0} (range : LengthRange) (admits : T → Type 0) (items : List T) : Type 0 where
  pub fits : length items < 2 ^ 32
  pub ranged : in_range range (length items) ≡ true
  pub each : AllByRecursion admits items

-- what a read of n items leaves, or the first fault
unfoldable pub scan_items : (List ℕ → Result (List ℕ) Fault) → ℕ → List ℕ → Result (List ℕ) Fault
scan_items scan zero bytes = Ok bytes
scan_items scan (suc n) bytes = scan bytes >>= λ rest. scan_items scan n rest

-- what a read of a list leaves, or the first fault
unfoldable pub scan_list : LengthRange → (List ℕ → Result (List ℕ) Fault) → List ℕ → Result (List ℕ) Fault
scan_list range scan bytes = do
  n ← length_at bytes
  if in_range range n.0 then scan_items scan n.0 n.1 else Err (InvalidLength n.0)

-- a read of n items takes memory: the first takes some, or it is read, and is to be stored
abbrev pub ItemsGrow : (List ℕ → Result (List ℕ) Fault) → (List ℕ → Type 0) → ℕ → List ℕ → Type 0
ItemsGrow scan grows zero bytes = ⊥
ItemsGrow scan grows (suc n) bytes = grows bytes ⊎ ((rest : List ℕ) × (scan bytes ≡ Ok rest))

-- a read of a list takes memory: its length is read and in the range, and its items take some
abbrev pub ListGrows : LengthRange → (List ℕ → Result (List ℕ) Fault) → (List ℕ → Type 0) → List ℕ → Type 0
ListGrows range scan grows bytes = (n : ℕ) × (rest : List ℕ) × (length_at bytes ≡ Ok (n, rest)) × (in_range range n ≡ true) × ItemsGrow scan grows n rest
