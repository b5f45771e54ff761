-- The parity rows of a block that was committed to are under its root.
use Rattle.std.proofs.Common.{◌≡◌, ◌∙◌, ℕ, ◌+◌, ◌-◌, ◌*◌, ◌<◌, ◌≤◌, List, [], length, take, drop, replicate, get_or, Bool, true, false, not, Option, None, Some, IfSome, IsSomeAnd, IsTrue, ◌↔◌, sym, ap, ap₂, subst, arith}
use Rattle.std.specs.Cmp.Lexicographic.{pointwise}
use Rattle.std.specs.List.{range_with_len}
use Rattle.std.specs.Str.{bytes_eq}
use Rattle.std.proofs.Math.Nat.{mul-le-mul_right}
use Rattle.std.proofs.lemmas.Bool.{not-false}
use Rattle.std.proofs.lemmas.List.{length-drop, take-append-le}
use Rattle.std.proofs.lemmas.List.FromFn.{get_or-map-range_with_len}
use Rattle.std.proofs.lemmas.Slice.Eq.{bytes_eq-Decides, slice_eq-Decides}
use Rattle.hash_trees.specs.Binding.{IsUnder, leaves}
use Rattle.hash_trees.specs.Trees.{LeadsTo, leaf_message, path, root}
use Rattle.hash_trees.proofs.BoundPaths.{path_leads}
use Rattle.hash_trees.proofs.Enough.{below_power}
use Rattle.sha2.specs.Sha512.{sha512_256}
use Rattle.systematic_shards.specs.declared.split.Split.{Split}
use Rattle.shard_roots.specs.declared.shards.Shard.{Shard}
use Rattle.shard_roots.specs.Joining.{IsShardUnder}
use Rattle.shard_roots.specs.Records.{record_of, row_at, row_of, shard_records}
use Rattle.shard_roots.proofs.BoundBlocks.{row-parity}
use Rattle.shard_roots.proofs.MadeRecords.{leaves_mapped}
use Rattle.shard_format.specs.declared.header.Header.{Header}
use Rattle.shard_reading.specs.RootedRows.{AreParityLeaves, IsRowUnder}

-- a row that is there needs no zeros
whole_row : (n : ℕ) (bytes : List ℕ) (i : ℕ) → (i + 1) * n ≤ length bytes → take n (drop (i * n) bytes) ≡ row_at n bytes i
whole_row n bytes i within =
    let next : (i + 1) * n ≡ i * n + n = grind arith in
    let long = length-drop (i * n) bytes in
    sym (take-append-le n (drop (i * n) bytes) (replicate n 0) (omega (arith, long, within, next)))

-- in the tree over the records of a block, the leaves of the parity rows are those of their records
pub parity_leaves : (split : Split) (mask : ℕ) (block parity : List ℕ) (tree : List (List ℕ)) → tree ≡ leaves sha512_256 (shard_records split mask block parity)
    → length parity ≡ (split.total - split.min) * (8 * split.width) → AreParityLeaves split mask parity tree
parity_leaves split mask block parity tree made room index first below =
    let n = 8 * split.width in
    let content_of : ℕ → List ℕ = λ i. record_of split mask i (row_of split block parity i) in
    let all = leaves_mapped sha512_256 content_of (range_with_len 0 split.total) in
    let there = get_or-map-range_with_len (λ i. sha512_256 (leaf_message (content_of i))) 0 split.total index index [] below (omega arith) in
    let up : (index - split.min + 1) * n ≤ (split.total - split.min) * n = mul-le-mul_right n (omega (arith, first, below)) in
    let row = whole_row n parity (index - split.min) (omega (arith, up, room)) in
    ap (λ xs. get_or xs index []) (made ∙ sym all) ∙ there
    ∙ ap (λ r. sha512_256 (leaf_message (record_of split mask index r))) (row-parity split block parity index first ∙ sym row)

-- a record whose leaf stands in a tree is under its root by the path of its index
leaf_under : (h : List ℕ → List ℕ) (total index : ℕ) (content : List ℕ) (tree others : List (List ℕ)) → length tree ≡ total → index < total
    → get_or tree index [] ≡ h (leaf_message content) → others ≡ path h tree index → IsUnder h total index content others (root h tree)
leaf_under h total index content tree others count below leaf is =
    let within : index < length tree = omega (arith, count, below) in
    let leads : LeadsTo h (length tree) index (get_or tree index []) (path h tree index) (root h tree) = path_leads h (length tree) tree index within (below_power (length tree)) in
    let counted = subst (λ (n : ℕ). LeadsTo h n index (get_or tree index []) (path h tree index) (root h tree)) count leads in
    let from = subst (λ (d : List ℕ). LeadsTo h total index d (path h tree index) (root h tree)) leaf counted in
    (below, subst (λ (p : List (List ℕ)). LeadsTo h total index (h (leaf_message content)) p (root h tree)) (sym is) from)

-- a shard with the index, the mask, the row and the path of a parity row is under the root
pub shard_under : (split : Split) (mask : ℕ) (parity : List ℕ) (tree : List (List ℕ)) (shard : Shard) → length tree ≡ split.total → AreParityLeaves split mask parity tree
    → split.min ≤ shard.index → shard.index < split.total → shard.mask ≡ mask
    → shard.cells.now ≡ take (8 * split.width) (drop ((shard.index - split.min) * (8 * split.width)) parity)
    → shard.path.now ≡ path sha512_256 tree shard.index → IsShardUnder sha512_256 split (root sha512_256 tree) shard
shard_under split mask parity tree shard count leaves first below same row is =
    let content = ap₂ (λ m r. record_of split m shard.index r) same row in
    leaf_under sha512_256 split.total shard.index (record_of split shard.mask shard.index shard.cells.now) tree shard.path.now count below
    (leaves shard.index first below ∙ ap (λ x. sha512_256 (leaf_message x)) (sym content)) is

-- digests that a test found the same
pub same_digests : (a b : List (List ℕ)) (r : Bool) → r ≡ pointwise bytes_eq a b → r ≡ true → a ≡ b
same_digests a b r = λ e. (slice_eq-Decides bytes_eq-Decides a b r e).0

-- bytes that a test did not find different
pub same_bytes : (a b : List ℕ) → false ≡ not (bytes_eq a b) → a ≡ b
same_bytes a b e = (bytes_eq-Decides a b).0 (not-false (bytes_eq a b) (sym e))

-- a shard is under a root however the numbers of the split and the root are named
pub under_same : (split other : Split) (top found : List ℕ) (shard : Shard) → (split.min ≡ other.min) × (split.total ≡ other.total) × (split.size ≡ other.size) × (top ≡ found)
    → IsShardUnder sha512_256 other found shard → IsShardUnder sha512_256 split top shard
under_same split other top found shard same under = rw (same.0, same.1, same.2, same.3) under

-- where a row is used just if it is under the root, and it is used, it is under the root
pub used_under : (root : Option (List ℕ)) (answer : Option Bool) (is_used : Bool) (split : Split) (header : Header) (bytes : ℕ) (row : Shard)
    → (split.size ≡ bytes) × (split.min ≡ header.min) × (split.total ≡ header.total)
    → IfSome root (λ top. IsSomeAnd answer (λ under. IsTrue under ↔ IsShardUnder sha512_256 split top row))
    → IfSome answer (λ under. is_used ≡ under) → is_used ≡ true → IfSome root (λ top. IsRowUnder header bytes top row)
used_under None answer is_used split header bytes row numbers h same used = tt
used_under (Some top) None is_used split header bytes row numbers h same used = absurd h
used_under (Some top) (Some under) is_used split header bytes row numbers h same used = (split, numbers.1, numbers.2, numbers.0, h.0 (sym same ∙ used))
