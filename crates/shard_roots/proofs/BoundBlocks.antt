-- What the root of a block binds, and that there is one.
use Rattle.std.proofs.Common.{◌≡◌, ◌∙◌, inl, inr, ℕ, ◌-◌, ◌*◌, ◌<◌, ◌≤◌, List, [], length, get_or, sym, ap, ap₂, subst, arith}
use Rattle.std.specs.List.{range_with_len}
use Rattle.std.proofs.lemmas.Bool.{cases_lt}
use Rattle.std.proofs.lemmas.Bool.Decides.{nat_tests}
use Rattle.std.proofs.lemmas.List.{length-map}
use Rattle.std.proofs.lemmas.List.FromFn.{get_or-map-range_with_len, length-range_with_len}
use Rattle.hash_trees.specs.Binding.{leaves}
use Rattle.hash_trees.specs.Trees.{leaf_message}
use Rattle.hash_trees.proofs.BoundRecords.{roots_are_bound}
use Rattle.systematic_shards.specs.declared.split.Split.{Split}
use Rattle.systematic_shards.specs.Masks.{IsLeastMask}
use Rattle.systematic_shards.specs.Shards.{AreShards, HaveOneEncoding}
use Rattle.systematic_shards.specs.Splits.{width_of}
use Rattle.systematic_shards.specs.Words.{word_of_bytes}
use Rattle.shard_roots.specs.Commitments.{AreParityOf, BlocksAreBound, HaveOneRoot}
use Rattle.shard_roots.specs.Records.{record_of, row_at, row_of, shard_records, shards_root}
use Rattle.shard_roots.proofs.RecordBytes.{AreSameParts, each_place, record_parts, rows_give, size_within, words_give}

-- the record of an index
pub record-at : (split : Split) (mask : ℕ) (block parity : List ℕ) (i : ℕ) → i < split.total
    → get_or (shard_records split mask block parity) i [] ≡ record_of split mask i (row_of split block parity i)
record-at split mask block parity i l =
    get_or-map-range_with_len (λ index. record_of split mask index (row_of split block parity index)) 0 split.total i i [] l (omega arith)

pub count-records : (split : Split) (mask : ℕ) (block parity : List ℕ) → length (shard_records split mask block parity) ≡ split.total
count-records split mask block parity =
    length-map (range_with_len 0 split.total) (λ index. record_of split mask index (row_of split block parity index)) ∙ length-range_with_len 0 split.total

pub row-data : (split : Split) (block parity : List ℕ) (i : ℕ) → i < split.min → row_of split block parity i ≡ row_at (8 * split.width) block i
row-data split block parity i l = grind (arith, nat_tests)

pub row-parity : (split : Split) (block parity : List ℕ) (i : ℕ) → split.min ≤ i → row_of split block parity i ≡ row_at (8 * split.width) parity (i - split.min)
row-parity split block parity i l = grind (arith, nat_tests)

module _ (s t : Split) (m o : ℕ) (a b p q : List ℕ) (total : s.total ≡ t.total) (x : AreParityOf s m a p) (y : AreParityOf t o b q)
    (same : shard_records s m a p ≡ shard_records t o b q) where
  parts : (i : ℕ) → i < s.total → AreSameParts s t m o i i (row_of s a p i) (row_of t b q i)
  parts i l =
      let less : i < t.total = rw (sym total) l in
      record_parts s t m o i i (row_of s a p i) (row_of t b q i) (omega (arith, l, s.short)) (omega (arith, l, s.short)) (omega (arith, x.short)) (omega (arith, y.short))
      (sym (record-at s m a p i l) ∙ ap (λ records. get_or records i []) same ∙ record-at t o b q i less)

  blocks_same : (a ≡ b) × (s.min ≡ t.min)
  blocks_same =
      let first = parts 0 (omega (arith, s.some, s.within)) in
      let width : s.width ≡ t.width = s.wide ∙ ap₂ width_of first.size first.min ∙ sym t.wide in
      let size = size_within s in
      let turned : 8 * (s.min * s.width) ≡ s.min * (8 * s.width) = grind arith in
      let bytes : length a ≡ length b = x.size ∙ first.size ∙ sym y.size in
      let within : length a ≤ s.min * (8 * s.width) = omega (arith, size, turned, x.size) in
      let rows : (i : ℕ) → i < s.min → row_at (8 * s.width) a i ≡ row_at (8 * s.width) b i =
      λ i l.
      let less : i < t.min = rw (sym first.min) l in
      sym (row-data s a p i l) ∙ (parts i (omega (arith, l, s.within))).row ∙ row-data t b q i less ∙ ap (λ w. row_at (8 * w) b i) (sym width) in
      (rows_give (8 * s.width) s.min a b bytes within rows, first.min)

pub blocks_are_bound : BlocksAreBound
blocks_are_bound h s t m o a b p q top d total x y =
    let count : length (shard_records s m a p) ≡ length (shard_records t o b q) = count-records s m a p ∙ total ∙ sym (count-records t o b q) in
    elim (roots_are_bound h (shard_records s m a p) (shard_records t o b q) d count (sym x.root ∙ y.root)) [
      | inl same ↦ inl (blocks_same s t m o a b p q total x.made y.made same)
      | inr c ↦ inr c
    ]

-- there is one least mask
one_mask : (n : ℕ) (word : ℕ → ℕ) (m o : ℕ) → IsLeastMask n word m → IsLeastMask n word o → m ≡ o
one_mask n word m o x y = elim (cases_lt m o) [
  | inl l ↦ absurd (y.least m l x.free)
  | inr g ↦ elim (cases_lt o m) [ inl l ↦ absurd (x.least o l y.free) | inr g' ↦ omega (arith, g, g') ]
]

pub have_one_root : HaveOneEncoding → HaveOneRoot
have_one_root law h split block top other (m, p, x) (o, q, y) =
    let mask : m ≡ o = one_mask (split.min * split.width) (word_of_bytes block) m o x.made.least y.made.least in
    let shards : AreShards split m (word_of_bytes block) (word_of_bytes q) = subst (λ k. AreShards split k (word_of_bytes block) (word_of_bytes q)) (sym mask) y.made.shards in
    let words = law split m (word_of_bytes block) (word_of_bytes p) (word_of_bytes q) x.made.short x.made.shards shards in
    let turned : (split.total - split.min) * (8 * split.width) ≡ 8 * ((split.total - split.min) * split.width) = grind arith in
    let parity : p ≡ q =
    words_give ((split.total - split.min) * split.width) p q x.made.bytes y.made.bytes (x.made.room ∙ sym y.made.room) (omega (arith, x.made.room, turned))
    (each_place (split.total - split.min) split.width (word_of_bytes p) (word_of_bytes q) words) in
    x.root ∙ ap₂ (λ k bytes. shards_root h split k block bytes) mask parity ∙ sym y.root

pub count-leaves : (h : List ℕ → List ℕ) (split : Split) (mask : ℕ) (block parity : List ℕ) → length (leaves h (shard_records split mask block parity)) ≡ split.total
count-leaves h split mask block parity = length-map (shard_records split mask block parity) (λ content. h (leaf_message content)) ∙ count-records split mask block parity
