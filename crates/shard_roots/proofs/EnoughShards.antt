-- Where enough of the shards are a block's own, they are joined under its root, or messages collide.
use Rattle.std.proofs.Common.{◌≡◌, ◌⊎◌, ◌∙◌, inl, inr, ℕ, zero, suc, ◌+◌, ◌*◌, ◌<◌, ◌≤◌, ◌^◌, List, [], ◌∷◌, length, map, get_or, refl, sym, ap, subst, arith}
use Rattle.std.specs.List.{All, Contains, range_with_len}
use Rattle.std.specs.Prelude.{slice_index}
use Rattle.std.proofs.lemmas.List.{get_or-map, length-map}
use Rattle.std.proofs.lemmas.List.FromFn.{get_or-range_with_len, length-range_with_len}
use Rattle.std.proofs.lemmas.Nat.{mul-add-lt}
use Rattle.math_fields.specs.declared.goldilocks.F.{F}
use Rattle.math_fields.specs.Elements.{number}
use Rattle.hash_trees.specs.Binding.{CollidesAt, HasDigests}
use Rattle.systematic_shards.specs.declared.Error.{Error as RowsError}
use Rattle.systematic_shards.specs.declared.Error.TheVariants as rows_error
use Rattle.systematic_shards.specs.declared.rows.Row.{Row}
use Rattle.systematic_shards.specs.declared.split.Split.{Split}
use Rattle.systematic_shards.specs.Errors.{IsMemory as IsRowsMemory}
use Rattle.systematic_shards.specs.Masks.{IsFreeOf, masked_number}
use Rattle.systematic_shards.specs.Refusals.{AreElements, HaveBytesPast, HaveCodewordOf, HaveConflict, HaveEnough, IsDecodeDue, IsSound}
use Rattle.systematic_shards.specs.Shards.{HaveOneCodewordOf, IsElementIn, IsRowOf, word_in}
use Rattle.systematic_shards.specs.Words.{IsWithin, word_of_bytes}
use Rattle.systematic_shards.proofs.Elements.{mask-parity, word-fits}
use Rattle.systematic_shards.proofs.Masks.{mask-nothing}
use Rattle.shard_roots.specs.declared.Error.{Error}
use Rattle.shard_roots.specs.declared.Error.TheVariants.{Memory, TooMany, Masks, Rows, Root}
use Rattle.shard_roots.specs.declared.shards.Shard.{Shard}
use Rattle.shard_roots.specs.Commitments.{HaveOneRoot, IsCommitment, IsRootOfBlock}
use Rattle.shard_roots.specs.Joining.{AreThoseUnder, GiveAnotherRoot, HaveOwnShards, HaveTwoMasks, IsJoinDue, IsMemory, IsOwnShard, IsRowsDue, IsShardUnder, IsStrictDue, OwnShardsAreJoined, SomeShardCollides, row_of_shard, rows_of}
use Rattle.shard_roots.specs.Records.{record_of, row_of, shard_records}
use Rattle.shard_roots.proofs.BlockWords.{length-row, word-within}
use Rattle.shard_roots.proofs.BoundBlocks.{row-data}
use Rattle.shard_roots.proofs.OnlyBlocks.{committed_row, first_shard, of_each, only_block_is_joined, own_under, parts_of, same_words, shard_of, under_is}
use Rattle.shard_roots.proofs.RecordBytes.{AreSameParts, row-word}
use Rattle.shard_roots.proofs.Selected.{all_or_one, behind}

-- what holds of the row of each shard holds of all rows
all_of_rows : (P : Row ℕ → Type 0) (kept : List Shard) → ((s : Shard) → Contains kept s → P (row_of_shard s)) → All P (rows_of kept)
all_of_rows P [] h k d l = absurd (omega (arith, l))
all_of_rows P (s ∷ kept) h zero d l = h s (0, omega arith, refl)
all_of_rows P (s ∷ kept) h (suc k) d l = all_of_rows P kept (λ t c. h t (behind s kept t c)) k d (omega (arith, l))

contains-map : {X Y : Type 0} (f : X → Y) (xs : List X) (x : X) → Contains xs x → Contains (map f xs) (f x)
contains-map f xs x h = (h.0, omega (arith, h.1, length-map xs f), get_or-map f xs h.0 x (f x) h.1 ∙ ap f h.2)

-- the index of a shard is among those of the rows
index_among : (kept : List Shard) (s : Shard) → Contains kept s → Contains (map (λ row. row.index) (rows_of kept)) s.index
index_among kept s k = contains-map (λ (row : Row ℕ). row.index) (rows_of kept) (row_of_shard s) (contains-map row_of_shard kept s k)

module _ (law : HaveOneCodewordOf) (h : List ℕ → List ℕ) (digests : HasDigests h) (split : Split) (mask : ℕ) (block parity top : List ℕ) (shards : List Shard)
    (bytes : All (λ b. b < 256) block) (short : All (λ shard. shard.mask < 2 ^ 32) shards) (c : IsCommitment h split mask block parity top)
    (own : HaveOwnShards h split mask block parity shards) where
  abbrev b : ℕ → ℕ → F
  b = c.made.shards.0

  -- the words of each row that was committed to are those of elements
  element : (i k : ℕ) → i < split.total → k < split.width → IsElementIn split.min mask i (word_of_bytes (row_of split block parity i) k)
  element i k l m =
      let is : word_of_bytes (row_of split block parity i) k ≡ word_in split.min mask i (b i k) =
      committed_row h digests split mask block parity top c b c.made.shards.2 c.made.shards.3 i l k m in (
        subst (λ (w : ℕ). w < 2 ^ 64) (sym is) (word-fits split.min mask i (b i k) c.made.short),
        λ d.
            let inside : i * split.width + k < split.width * split.min = mul-add-lt i split.width k split.min d m in
            let turn : split.width * split.min ≡ split.min * split.width = grind arith in
            let place : i * split.width + k < split.min * split.width = omega (arith, inside, turn) in
            let word : word_of_bytes (row_of split block parity i) k ≡ word_of_bytes block (i * split.width + k) =
            ap (λ bytes. word_of_bytes bytes k) (row-data split block parity i d) ∙ row-word split.width block i k m in
            subst (IsFreeOf mask) (sym word) (c.made.least.free (i * split.width + k) place),
        λ d.
            let word : word_of_bytes (row_of split block parity i) k ≡ number (b i k) =
            is ∙ ap (λ n. masked_number n (number (b i k))) (mask-parity split.min mask i d) ∙ mask-nothing (number (b i k)) in
            let less = (b i k).below in
            omega (arith, word, less),
      )

  -- where the shards under the root all have the records that were committed to
  module _ (kept : List Shard) (those : AreThoseUnder h split top shards kept)
      (all : (s : Shard) → Contains kept s → record_of split s.mask s.index s.cells.now ≡ get_or (shard_records split mask block parity) s.index []) where
    below : (s : Shard) → Contains kept s → s.index < split.total
    below s k = (of_each (IsShardUnder h split top) kept s those.under k).0

    pub parts : (s : Shard) → Contains kept s → AreSameParts split split s.mask mask s.index s.index s.cells.now (row_of split block parity s.index)
    parts s k =
        let few : s.mask < 2 ^ 32 = of_each (λ s. s.mask < 2 ^ 32) shards s short (of_each (Contains shards) kept s those.there k) in
        parts_of h digests split mask block parity top c s (below s k) (omega (arith, few)) (all s k)

    row : (s : Shard) → Contains kept s → s.cells.now ≡ row_of split block parity s.index
    row s k = (parts s k).row

    -- the block's own shards are among them
    enough : HaveEnough split.min (rows_of kept)
    enough = (
      own.enough.0,
      record {
        distinct = own.enough.1.distinct;
        among = λ k d l.
            let there = own.enough.1.among k d l in
            let found = shard_of own.own (get_or own.enough.0 k d) there.0 there.1 there.2 in
            let under = own_under h split mask block parity top c found.0 (of_each (IsOwnShard h split mask block parity) own.own found.0 own.are found.1) in
            let given = of_each (Contains shards) own.own found.0 own.there found.1 in
            let held : Contains kept found.0 = of_each (λ s. IsShardUnder h split top s → Contains kept s) shards found.0 those.all given under in
            subst (Contains (map (λ row. row.index) (rows_of kept))) found.2 (index_among kept found.0 held);
      },
      own.enough.2,
    )

    pub first : (s : Shard) × Contains kept s × (s.index < split.total)
    first = first_shard law h digests split mask block parity top c kept below row enough

    abbrev rows : List (Row ℕ)
    rows = rows_of kept

    sound : All (IsSound 1 split) rows
    sound =
        all_of_rows (IsSound 1 split) kept (λ s k. let long = ap length (row s k) ∙ length-row split block parity s.index in (omega (arith, long), below s k))

    elements : AreElements word_of_bytes split mask rows
    elements =
        all_of_rows (λ row. (k : ℕ) → k < split.width → IsElementIn split.min mask row.index (word_of_bytes row.cells.now k)) kept
        (λ s t k m. subst (λ cells. IsElementIn split.min mask s.index (word_of_bytes cells k)) (sym (row s t)) (element s.index k (below s t) m))

    codeword : HaveCodewordOf word_of_bytes split mask rows
    codeword = (
      b,
      c.made.shards.1,
      all_of_rows (λ row. IsRowOf split mask b row.index (word_of_bytes row.cells.now)) kept
          (λ s t k m.
          ap (λ cells. word_of_bytes cells k) (row s t) ∙ committed_row h digests split mask block parity top c b c.made.shards.2 c.made.shards.3 s.index (below s t) k m),
    )

    no_conflict : ¬ (HaveConflict word_of_bytes split rows)
    no_conflict x =
        let cells : All (λ row. row.cells.now ≡ row_of split block parity row.index) rows =
        all_of_rows (λ row. row.cells.now ≡ row_of split block parity row.index) kept row in
        let one : x.one.cells.now ≡ row_of split block parity x.one.index = of_each (λ row. row.cells.now ≡ row_of split block parity row.index) rows x.one cells x.one_there in
        let other : x.other.cells.now ≡ row_of split block parity x.other.index =
        of_each (λ row. row.cells.now ≡ row_of split block parity row.index) rows x.other cells x.other_there in
        x.differ (ap (λ cells. word_of_bytes cells x.place) (one ∙ ap (row_of split block parity) x.index ∙ sym other))

    no_bytes_past : ¬ (HaveBytesPast word_of_bytes split mask rows)
    no_bytes_past (a, of_code, belong, past) =
        past
        (λ t k l m.
        let indices = range_with_len 0 split.min in
        let less : t < split.min = omega (arith, l, length-range_with_len 0 split.min) in
        let at : slice_index indices t ≡ 0 + t = get_or-range_with_len 0 split.min t 0 less in
        let inside : slice_index indices t < split.total = omega (arith, at, less, split.within) in
        let same = same_words law h digests split mask block parity top c kept below row enough a of_code belong (slice_index indices t) k inside m in
        let within : IsWithin split.size (t * split.width + k) (word_of_bytes block (t * split.width + k)) =
        subst (λ n. IsWithin n (t * split.width + k) (word_of_bytes block (t * split.width + k))) c.made.size (word-within block bytes (t * split.width + k)) in
        subst (IsWithin split.size (t * split.width + k)) (c.made.shards.2 t l k m ∙ sym same) within)

    -- no error but that memory ran out is due to their rows
    pub refused : (e : RowsError) → IsDecodeDue 1 word_of_bytes split mask rows e → IsRowsMemory e
    refused e (inr due) = let (is, asked, are, many, past) = due in absurd (no_bytes_past past)
    refused (rows_error.Memory e) (inl due) = tt
    refused rows_error.TooFew (inl due) = elim due [
      | inl none ↦
          let there = enough.1.among 0 0 (let many = enough.2 in omega (arith, many, split.some)) in
          let count : length (map (λ row. row.index) rows) ≡ length rows = length-map rows (λ (row : Row ℕ). row.index) in
          omega (arith, none, count, there.1)
      | inr few ↦ few.3 enough
    ]
    refused rows_error.Mismatch (inl due) = let d = row_of_shard first.0 in due.fault d (sound due.place d due.inside).0
    refused rows_error.Sizes (inl due) = due
    refused rows_error.Index (inl due) = elim due [
      | inl past ↦ let d = row_of_shard first.0 in let less = (sound past.place d past.inside).1 in let more = (past.fault d).1 in omega (arith, less, more)
      | inr wanted ↦ wanted.2 (λ i d l. absurd (omega (arith, l)))
    ]
    refused rows_error.Word (inl due) = due.1 elements
    refused rows_error.Conflict (inl due) = no_conflict due.2
    refused rows_error.Inconsistent (inl due) = due.4 codeword

  abbrev Collides : Type 0
  Collides = SomeShardCollides h split (shard_records split mask block parity) shards

  -- shards under the root all have the records that were committed to, or messages collide
  of_all : {X : Type 0} (kept : List Shard) → AreThoseUnder h split top shards kept
      → (((s : Shard) → Contains kept s → record_of split s.mask s.index s.cells.now ≡ get_or (shard_records split mask block parity) s.index []) → X) → X ⊎ Collides
  of_all kept those go =
      elim (all_or_one (λ s. record_of split s.mask s.index s.cells.now ≡ get_or (shard_records split mask block parity) s.index [])
      (λ s. CollidesAt h (shard_records split mask block parity) s.index (record_of split s.mask s.index s.cells.now) s.path.now) kept
      (λ s k. under_is h digests split mask block parity top c s (of_each (IsShardUnder h split top) kept s those.under k))) [
        | inl all ↦ inl (go all)
        | inr r ↦ inr (r.0, of_each (Contains shards) kept r.0 those.there r.1, r.2)
      ]

  unless : ⊥ ⊎ Collides → Collides
  unless (inl none) = absurd none
  unless (inr collides) = collides

  two_masks : HaveTwoMasks h split top shards → Collides
  two_masks (kept, those, (one, other, p, q, differ)) =
      unless (of_all kept those (λ all. differ ((parts kept those all one p).mask ∙ sym (parts kept those all other q).mask)))

  rows_due : (e : RowsError) → IsRowsDue h split top shards e → Collides
  rows_due e r =
      unless
      (of_all r.kept r.those
      (λ all.
      let s = first r.kept r.those all in
      let is : r.mask ≡ mask = sym (of_each (λ s. s.mask ≡ r.mask) r.kept s.0 r.one s.1) ∙ (parts r.kept r.those all s.0 s.1).mask in
      r.other (refused r.kept r.those all e (subst (λ m. IsDecodeDue 1 word_of_bytes split m (rows_of r.kept) e) is r.due))))

  another_root : HaveOneRoot → GiveAnotherRoot h split top shards → Collides
  another_root once (found, other, others, joined, its, differ) =
      elim (only_block_is_joined law h split mask block parity top found shards digests bytes others c joined) [
        | inl same ↦ absurd (differ (once h split block other top (subst (λ bytes. IsRootOfBlock h split bytes other) same its) (mask, parity, c)))
        | inr collides ↦ collides
      ]

  join_due : (e : Error) → split.total ≤ 2 ^ 16 → IsJoinDue h split top shards e → IsMemory e ⊎ Collides
  join_due (Memory e) few due = inl tt
  join_due TooMany few due = absurd (omega (arith, few, due))
  join_due Masks few (is, two) = inr (two_masks two)
  join_due (Rows e) few (is, due) = inr (rows_due e due)
  join_due Root few due = absurd due

  strict_due : (e : Error) → HaveOneRoot → split.total ≤ 2 ^ 16 → IsStrictDue h split top shards e → IsMemory e ⊎ Collides
  strict_due (Memory e) once few due = inl tt
  strict_due TooMany once few due = join_due TooMany few due
  strict_due Masks once few due = join_due Masks few due
  strict_due (Rows e) once few due = join_due (Rows e) few due
  strict_due Root once few (is, another) = inr (another_root once another)

pub own_shards_are_joined : HaveOneCodewordOf → HaveOneRoot → OwnShardsAreJoined
own_shards_are_joined law once h split mask block parity top shards e digests few bytes short c own (inl due) =
    join_due law h digests split mask block parity top shards bytes short c own e few due
own_shards_are_joined law once h split mask block parity top shards e digests few bytes short c own (inr due) =
    strict_due law h digests split mask block parity top shards bytes short c own e once few due
