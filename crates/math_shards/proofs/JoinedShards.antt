-- Shards of some data: they are sound, no two of them are in conflict, and enough of them are there.
use Rattle.std.proofs.Common.{◌≡◌, ℕ, ◌<◌, ◌^◌, List, [], ◌∷◌, length, sym, ◌∙◌, ap, subst, arith}
use Rattle.std.specs.Int.{IsNextPowerOfTwo}
use Rattle.std.specs.List.{All, AllZip}
use Rattle.std.proofs.lemmas.List.Elements.{All-head, All-weaker}
use Rattle.math_fields.specs.Elements.{number, residue, same}
use Rattle.math_transforms.specs.Matrices.{column_of}
use Rattle.math_splitting.specs.declared.shards.Shard.{Shard}
use Rattle.math_shards.specs.Joining.{HaveConflict, IsSound}
use Rattle.math_splitting.specs.ShardEncoding.{AreSameShards}
use Rattle.math_splitting.specs.Shards.{ChosenShardsJoin, IsSameAsOne, IsShardOf, JoinTo, rows_for, value_at_index, width_for}
use Rattle.math_shards.proofs.FilledShards.{no_indices}
use Rattle.math_splitting.proofs.LeastDomains.{domain_of}
use Rattle.math_values.proofs.ElementRing.{same_are_equal}
use Rattle.math_splitting.proofs.SameCells.{same_by_items}

-- shards of one index for the same data have same cells
pub same_shards : (words : List ℕ) (min total lg : ℕ) (s t : Shard) → IsNextPowerOfTwo total (2 ^ lg) → IsShardOf words min total s → IsShardOf words min total t → s.index ≡ t.index
    → AllZip same s.cells.items t.cells.items
same_shards words min total lg s t next h k e =
    same_by_items (width_for min words) s.cells.items t.cells.items h.count k.count
    (λ i l. h.values lg i next l ∙ ap (λ n. number (value_at_index lg (column_of (residue 0) (rows_for min words) i) n)) e ∙ sym (k.values lg i next l))

-- shards that join to data are not none
pub joined_some : (words : List ℕ) (shards : List Shard) → JoinTo words shards → 0 < length shards
joined_some words [] j = absurd (omega (arith, j.some, j.enough, no_indices j.total))
joined_some words (s ∷ shards) j = omega arith

-- the first of them is one of the data
pub joined_first : (words : List ℕ) (first : Shard) (rest : List Shard) (j : JoinTo words (first ∷ rest)) → IsShardOf words j.min j.total first
joined_first words first rest j = All-head (IsShardOf words j.min j.total) first rest j.each

-- they are of the data by these numbers
pub joined_numbers : (words : List ℕ) (shards : List Shard) (j : JoinTo words shards) (min total : ℕ) → j.min ≡ min → j.total ≡ total → All (IsShardOf words min total) shards
joined_numbers words shards j min total e f = subst (λ n. All (IsShardOf words n total) shards) e (subst (λ t. All (IsShardOf words j.min t) shards) f j.each)

-- each of them has the numbers of each other
pub joined_sound : (words : List ℕ) (shards : List Shard) (j : JoinTo words shards) (first : Shard) → IsShardOf words j.min j.total first → All (IsSound first) shards
joined_sound words shards j first f = grind arith

-- and no two of one index have unequal cells
pub joined_no_conflict : (words : List ℕ) (shards : List Shard) → JoinTo words shards → ¬ (HaveConflict shards)
joined_no_conflict words shards j conflict =
    let (lg, next, small) = domain_of j.total (omega (arith, j.some, j.within)) j.short in
    let s = conflict.1 in
    let other = conflict.4 in
    let t = other.1 in
    let here : IsShardOf words j.min j.total s = rw (sym conflict.3) (j.each conflict.0 s conflict.2) in
    let there : IsShardOf words j.min j.total t = rw (sym other.3) (j.each other.0 t other.2) in
    other.4.1 (same_shards words j.min j.total lg t s next there here other.4.0)

-- a shard that is the same as one of the data is one of them
pub shard_of_same : (words : List ℕ) (min total : ℕ) (s t : Shard) → AreSameShards s t → IsShardOf words min total s → IsShardOf words min total t
shard_of_same words min total s t h of = grind (arith, same_are_equal)

-- shards that are the same as some of those of the data join to the data, where enough are there
pub chosen_join : ChosenShardsJoin
chosen_join words min total shards chosen some within short each_word few of each_same enough = record {
  min = min;
  total = total;
  some = some;
  within = within;
  short = short;
  each_word = each_word;
  few = few;
  enough = enough;
  each = All-weaker (IsSameAsOne shards) (IsShardOf words min total)
      (λ s one. let there : IsShardOf words min total one.1 = rw (sym one.3) (of.each one.0 one.1 one.2) in shard_of_same words min total one.1 s one.4 there) chosen each_same;
}
