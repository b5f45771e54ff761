-- The size of a list of a limited number of items, each of limited size.
use Rattle.std.proofs.Common.{◌≡◌, ℕ, zero, suc, ◌+◌, ◌*◌, ◌/◌, ◌≤◌, List, length, ap, refl, inl, inr, arith}
use Rattle.std.proofs.Math.Nat.{mul-le-mul_right}
use Rattle.std.proofs.lemmas.Bool.{cases_lt}
use Rattle.std.proofs.lemmas.List.{length-append}
use Rattle.std.proofs.lemmas.List.Concat.{length-flat_map}
use Rattle.std.proofs.lemmas.List.Sums.{sum_by-le}
use Rattle.std.specs.List.{flat_map}
use Rattle.math_codec.specs.Lengths.{groups, length_spelling}
use Rattle.math_codec.specs.Lists.{list_spelling}
use Rattle.math_codec.proofs.Groups.{groups-last, groups-marked}

groups-single : (n : ℕ) → length (groups zero n) ≡ 1
unfolding groups
groups-single n = refl

-- a greater number has no fewer groups
groups-grow : (more m n : ℕ) → m ≤ n → length (groups more m) ≤ length (groups more n)
groups-grow zero m n h = omega (arith, groups-single m, groups-single n)
groups-grow (suc more) m n h =
    let rest = groups-grow more (m / 128) (n / 128) (omega arith) in
    elim (cases_lt m 128) [
      | inl small ↦
          elim (cases_lt n 128) [
            | inl also ↦ omega (arith, ap length (groups-last more m small), ap length (groups-last more n also))
            | inr large ↦ omega (arith, ap length (groups-last more m small), ap length (groups-marked (suc more) more n refl large))
          ]
      | inr large ↦
          let also : 128 ≤ n = omega arith in
          omega (arith, ap length (groups-marked (suc more) more m refl large), ap length (groups-marked (suc more) more n refl also), rest)
    ]

items-size : {T : Type 0} (spelling : T → List ℕ) (greatest : ℕ) → ((x : T) → length (spelling x) ≤ greatest) → (items : List T) → length (flat_map spelling items) ≤ length items * greatest
items-size spelling greatest h items = rw length-flat_map (sum_by-le (λ x. length (spelling x)) greatest items (λ k d within. h _))

-- a list of at most n items
pub list-size : {T : Type 0} (spelling : T → List ℕ) (greatest : ℕ) → ((x : T) → length (spelling x) ≤ greatest) → (n : ℕ) (items : List T) → length items ≤ n
    → length (list_spelling spelling items) ≤ length (length_spelling n) + n * greatest
list-size spelling greatest h n items k =
    let count : length items * greatest ≤ n * greatest = mul-le-mul_right greatest k in
    omega (arith, length-append (length_spelling (length items)) (flat_map spelling items), groups-grow 4 (length items) n k, items-size spelling greatest h items)
