-- Under the root of a block no other one is joined, or messages collide.
use Rattle.std.proofs.Common.{◌≡◌, ◌⊎◌, ◌∙◌, inl, inr, ℕ, zero, suc, ◌+◌, ◌-◌, ◌*◌, ◌<◌, ◌^◌, List, [], ◌∷◌, length, map, get_or, refl, sym, ap, ap₂, subst, arith}
use Rattle.std.specs.List.{All, Contains, range_with_len}
use Rattle.std.specs.Prelude.{slice_index}
use Rattle.std.proofs.lemmas.Bool.{cases_lt}
use Rattle.std.proofs.lemmas.List.{get_or-map, get_or_default, length-map}
use Rattle.std.proofs.lemmas.List.FromFn.{get_or-range_with_len, length-range_with_len}
use Rattle.math_fields.specs.declared.goldilocks.F.{F}
use Rattle.hash_trees.specs.Binding.{record_path, CollidesAt, HasDigests, IsUnder, records_root}
use Rattle.hash_trees.proofs.BoundRecords.{paths_lead_up, only_records_are_under}
use Rattle.systematic_shards.specs.declared.rows.Row.{Row}
use Rattle.systematic_shards.specs.declared.split.Split.{Split}
use Rattle.systematic_shards.specs.Refusals.{HaveEnough}
use Rattle.systematic_shards.specs.Shards.{AreDataOf, AreRowsAt, BelongTo, HaveOneCodewordOf, IsCodewordOf, IsRowOf, word_in}
use Rattle.systematic_shards.specs.Words.{word_of_bytes}
use Rattle.shard_roots.specs.declared.shards.Shard.{Shard}
use Rattle.shard_roots.specs.Commitments.{IsCommitment}
use Rattle.shard_roots.specs.Joining.{IsOwnShard, OwnShardsGiveTheBlock, AreJoined, IsShardUnder, OnlyBlockIsJoined, row_of_shard, rows_of}
use Rattle.shard_roots.specs.Records.{record_of, row_of, shard_records}
use Rattle.shard_roots.proofs.BoundBlocks.{count-records, record-at, row-data, row-parity}
use Rattle.shard_roots.proofs.RecordBytes.{AreSameParts, each_place, record_parts, row-word, size_within, words_give}
use Rattle.shard_roots.proofs.Selected.{all_or_one}

module _ (h : List ℕ → List ℕ) (digests : HasDigests h) (split : Split) (mask : ℕ) (block parity top : List ℕ) (c : IsCommitment h split mask block parity top) where
  abbrev records : List (List ℕ)
  records = shard_records split mask block parity

  -- a shard under the root has the record of its index, or messages collide
  pub under_is : (s : Shard) → IsShardUnder h split top s
      → (record_of split s.mask s.index s.cells.now ≡ get_or records s.index []) ⊎ CollidesAt h records s.index (record_of split s.mask s.index s.cells.now) s.path.now
  under_is s u =
      let rooted = subst (λ t. IsUnder h split.total s.index (record_of split s.mask s.index s.cells.now) s.path.now t) c.root u in
      let counted = subst (λ n. IsUnder h n s.index (record_of split s.mask s.index s.cells.now) s.path.now (records_root h records)) (sym (count-records split mask block parity)) rooted in
      only_records_are_under h s.index records (record_of split s.mask s.index s.cells.now) s.path.now digests counted

  -- and then it has the mask and the row
  pub parts_of : (s : Shard) → s.index < split.total → s.mask < 2 ^ 64 → record_of split s.mask s.index s.cells.now ≡ get_or records s.index []
      → AreSameParts split split s.mask mask s.index s.index s.cells.now (row_of split block parity s.index)
  parts_of s l m e =
      record_parts split split s.mask mask s.index s.index s.cells.now (row_of split block parity s.index) (omega (arith, l, split.short)) (omega (arith, l, split.short)) m
      (omega (arith, c.made.short)) (e ∙ record-at split mask block parity s.index l)

  -- the rows of the codeword that was committed to
  module _ (b : ℕ → ℕ → F) (block_rows : AreDataOf split mask b (word_of_bytes block))
      (more : AreRowsAt split mask b (range_with_len split.min (split.total - split.min)) (word_of_bytes parity)) where
    pub committed_row : (i : ℕ) → i < split.total → IsRowOf split mask b i (word_of_bytes (row_of split block parity i))
    committed_row i l k m = elim (cases_lt i split.min) [
      | inl d ↦
          let at : slice_index (range_with_len 0 split.min) i ≡ i = get_or-range_with_len 0 split.min i 0 d ∙ (let e : 0 + i ≡ i = omega arith in e) in
          let there : i < length (range_with_len 0 split.min) = rw (length-range_with_len 0 split.min) d in
          let word : word_of_bytes block (i * split.width + k) ≡ word_in split.min mask i (b i k) = rw at at (block_rows i there k m) in
          ap (λ bytes. word_of_bytes bytes k) (row-data split block parity i d) ∙ row-word split.width block i k m ∙ word
      | inr g ↦
          let j = i - split.min in
          let few : j < split.total - split.min = omega (arith, g, l) in
          let turned : split.min + j ≡ i = omega (arith, g) in
          let at : slice_index (range_with_len split.min (split.total - split.min)) j ≡ i = get_or-range_with_len split.min (split.total - split.min) j 0 few ∙ turned in
          let there : j < length (range_with_len split.min (split.total - split.min)) = rw (length-range_with_len split.min (split.total - split.min)) few in
          let word : word_of_bytes parity (j * split.width + k) ≡ word_in split.min mask i (b i k) = rw at at (more j there k m) in
          ap (λ bytes. word_of_bytes bytes k) (row-parity split block parity i g) ∙ row-word split.width parity j k m ∙ word
    ]

-- a row of an index is that of a shard
pub shard_of : (kept : List Shard) (x : ℕ) (i : ℕ) → i < length (map (λ row. row.index) (rows_of kept)) → get_or (map (λ row. row.index) (rows_of kept)) i x ≡ x
    → (s : Shard) × Contains kept s × (s.index ≡ x)
shard_of [] x i l at = absurd (omega (arith, l))
shard_of (y ∷ kept) x zero l at = (y, (0, omega arith, refl), at)
shard_of (y ∷ kept) x (suc i) l at =
    let found = shard_of kept x i (omega (arith, l)) at in
    let there = found.1 in
    let inside = there.1 in
    (found.0, (suc there.0, omega (arith, inside), there.2), found.2)

-- what holds of each item holds of one that is there
pub of_each : {X : Type 0} (P : X → Type 0) (xs : List X) (x : X) → All P xs → Contains xs x → P x
of_each P xs x h c = subst P c.2 (h c.0 x c.1)

-- what holds of the rows of shards holds of the row of one that is there
of_rows : (P : Row ℕ → Type 0) (kept : List Shard) (s : Shard) → All P (rows_of kept) → Contains kept s → P (row_of_shard s)
of_rows P kept s h c =
    let inside = c.1 in
    let count = length-map kept row_of_shard in
    let at : get_or (rows_of kept) c.0 (row_of_shard s) ≡ row_of_shard s = get_or-map row_of_shard kept c.0 s (row_of_shard s) inside ∙ ap row_of_shard c.2 in
    subst P at (h c.0 (row_of_shard s) (omega (arith, inside, count)))

-- shards of enough indices, with the rows that were committed to
module _ (law : HaveOneCodewordOf) (h : List ℕ → List ℕ) (digests : HasDigests h) (split : Split) (mask : ℕ) (block parity top : List ℕ)
    (c : IsCommitment h split mask block parity top) (kept : List Shard) (below : (s : Shard) → Contains kept s → s.index < split.total)
    (row : (s : Shard) → Contains kept s → s.cells.now ≡ row_of split block parity s.index) (enough : HaveEnough split.min (rows_of kept)) where
  some_shard : (t : ℕ) → t < length enough.0 → (s : Shard) × Contains kept s × (s.index ≡ get_or enough.0 t 0)
  some_shard t l = let there = enough.1.among t 0 l in shard_of kept (get_or enough.0 t 0) there.0 there.1 there.2

  pub first_shard : (s : Shard) × Contains kept s × (s.index < split.total)
  first_shard =
      let many = enough.2 in
      let first = some_shard 0 (omega (arith, many, split.some)) in
      (first.0, first.1, below first.0 first.1)

  abbrev b : ℕ → ℕ → F
  b = c.made.shards.0

  -- a codeword that they belong to has the words of the one that was committed to
  pub same_words : (a : ℕ → ℕ → F) → IsCodewordOf split a → BelongTo word_of_bytes split mask (rows_of kept) a
      → (i k : ℕ) → i < split.total → k < split.width → word_in split.min mask i (a i k) ≡ word_in split.min mask i (b i k)
  same_words a of_code belong =
      let both_rows : (s : Shard) → Contains kept s → (k : ℕ) → k < split.width → word_in split.min mask s.index (b s.index k) ≡ word_in split.min mask s.index (a s.index k) =
      λ s there k m.
      let mine : word_of_bytes s.cells.now k ≡ word_in split.min mask s.index (a s.index k) =
      of_rows (λ row. IsRowOf split mask a row.index (word_of_bytes row.cells.now)) kept s belong there k m in
      let theirs : word_of_bytes s.cells.now k ≡ word_in split.min mask s.index (b s.index k) =
      subst (λ row. word_of_bytes row k ≡ word_in split.min mask s.index (b s.index k)) (sym (row s there))
      (committed_row h digests split mask block parity top c b c.made.shards.2 c.made.shards.3 s.index (below s there) k m) in
      sym theirs ∙ mine in
      let indices = enough.0 in
      law split mask indices (λ t k. word_in split.min mask (slice_index indices t) (b (slice_index indices t) k)) a b c.made.short
      (enough.1.distinct, λ t d l. let s = some_shard t l in let less = below s.0 s.1 in let is = s.2 in let at = get_or_default indices t 0 d l in omega (arith, less, is, at))
      enough.2 of_code c.made.shards.1
      (λ t l k m. let s = some_shard t l in subst (λ i. word_in split.min mask i (b i k) ≡ word_in split.min mask i (a i k)) s.2 (both_rows s.0 s.1 k m))
      (λ t l k m. refl)

module _ (law : HaveOneCodewordOf) (h : List ℕ → List ℕ) (digests : HasDigests h) (split : Split) (mask : ℕ) (block parity top found : List ℕ) (shards : List Shard)
    (bytes : All (λ b. b < 256) block) (others : All (λ b. b < 256) found) (c : IsCommitment h split mask block parity top) (j : AreJoined h split top shards found)
    (all : (s : Shard) → Contains j.kept s → record_of split s.mask s.index s.cells.now ≡ get_or (shard_records split mask block parity) s.index []) where
  kept_parts : (s : Shard) → Contains j.kept s → AreSameParts split split s.mask mask s.index s.index s.cells.now (row_of split block parity s.index)
  kept_parts s k =
      let under = of_each (IsShardUnder h split top) j.kept s j.those.under k in
      let is : s.mask ≡ j.mask = of_each (λ s. s.mask ≡ j.mask) j.kept s j.one k in
      parts_of h digests split mask block parity top c s under.0 (omega (arith, is, j.short)) (all s k)

  index_below : (s : Shard) → Contains j.kept s → s.index < split.total
  index_below s k = (of_each (IsShardUnder h split top) j.kept s j.those.under k).0

  kept_row : (s : Shard) → Contains j.kept s → s.cells.now ≡ row_of split block parity s.index
  kept_row s k = (kept_parts s k).row

  one_mask : j.mask ≡ mask
  one_mask =
      let first = first_shard law h digests split mask block parity top c j.kept index_below kept_row j.enough in
      sym (of_each (λ s. s.mask ≡ j.mask) j.kept first.0 j.one first.1) ∙ (kept_parts first.0 first.1).mask

  belong : BelongTo word_of_bytes split mask (rows_of j.kept) j.cells
  belong = subst (λ n. BelongTo word_of_bytes split n (rows_of j.kept) j.cells) one_mask j.belong

  give : AreDataOf split mask j.cells (word_of_bytes found)
  give = subst (λ n. AreDataOf split n j.cells (word_of_bytes found)) one_mask j.give

  pub found_is : found ≡ block
  found_is =
      let size = size_within split in
      let same = same_words law h digests split mask block parity top c j.kept index_below kept_row j.enough j.cells j.of_code belong in
      words_give (split.min * split.width) found block others bytes (j.sizes ∙ sym c.made.size) (omega (arith, j.sizes, size))
      (each_place split.min split.width (word_of_bytes found) (word_of_bytes block)
      (λ t k l m.
      let there : t < length (range_with_len 0 split.min) = rw (length-range_with_len 0 split.min) l in
      let at : slice_index (range_with_len 0 split.min) t ≡ t = get_or-range_with_len 0 split.min t 0 l ∙ (let e : 0 + t ≡ t = omega arith in e) in
      let below : slice_index (range_with_len 0 split.min) t < split.total = omega (arith, at, l, split.within) in
      give t there k m ∙ same (slice_index (range_with_len 0 split.min) t) k below m ∙ sym (c.made.shards.2 t there k m)))

pub only_block_is_joined : HaveOneCodewordOf → OnlyBlockIsJoined
only_block_is_joined law h split mask block parity top found shards digests bytes others c j =
    elim (all_or_one (λ s. record_of split s.mask s.index s.cells.now ≡ get_or (shard_records split mask block parity) s.index [])
    (λ s. CollidesAt h (shard_records split mask block parity) s.index (record_of split s.mask s.index s.cells.now) s.path.now) j.kept
    (λ s k. under_is h digests split mask block parity top c s (of_each (IsShardUnder h split top) j.kept s j.those.under k))) [
      | inl all ↦ inl (found_is law h digests split mask block parity top found shards bytes others c j all)
      | inr r ↦ inr (r.0, of_each (Contains shards) j.kept r.0 j.those.there r.1, r.2)
    ]

-- a shard that is handed out has the record of its index, and is under the root
module _ (h : List ℕ → List ℕ) (split : Split) (mask : ℕ) (block parity top : List ℕ) (c : IsCommitment h split mask block parity top) (s : Shard)
    (own : IsOwnShard h split mask block parity s) where
  own_record : record_of split s.mask s.index s.cells.now ≡ get_or (shard_records split mask block parity) s.index []
  own_record = ap₂ (λ m r. record_of split m s.index r) own.same own.row ∙ sym (record-at split mask block parity s.index own.below)

  pub own_under : IsShardUnder h split top s
  own_under =
      let all = shard_records split mask block parity in
      let others = record_path h all s.index in
      let counted = count-records split mask block parity in
      let leads : IsUnder h (length all) s.index (get_or all s.index []) others (records_root h all) = paths_lead_up h s.index all (omega (arith, counted, own.below)) in
      let total = subst (λ n. IsUnder h n s.index (get_or all s.index []) others (records_root h all)) counted leads in
      let rooted = subst (λ t. IsUnder h split.total s.index (get_or all s.index []) others t) (sym c.root) total in
      let content = subst (λ x. IsUnder h split.total s.index x others top) (sym own_record) rooted in
      subst (λ p. IsUnder h split.total s.index (record_of split s.mask s.index s.cells.now) p top) (sym own.path) content

pub own_shards_give_the_block : HaveOneCodewordOf → OwnShardsGiveTheBlock
own_shards_give_the_block law h split mask block parity top shards digests bytes c own = (
  λ k d l. own_under h split mask block parity top c (get_or shards k d) (own k d l),
  λ found others j. found_is law h digests split mask block parity top found shards bytes others c j
      (λ s k. own_record h split mask block parity top c s
      (of_each (IsOwnShard h split mask block parity) shards s own (of_each (Contains shards) j.kept s j.those.there k))),
)
