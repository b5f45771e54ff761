-- What a root binds: who shows two records of one root has two messages with one digest, and both are among those that were hashed.
use Rattle.std.specs.Prelude.{◌≡◌, ◌≢◌, ◌⊎◌, ℕ, ◌<◌, ◌≤◌, List, [], ◌∷◌, ◌++◌, map, length, slice_index_or}
use Rattle.hash_trees.specs.Trees.{LeadsTo, above, in_tree, leaf_message, on_path, path, root}

-- two different messages at one place of two lists have the same digest
abbrev pub Collide : (List ℕ → List ℕ) → List (List ℕ) → List (List ℕ) → Type 0
Collide h [] others = ⊥
Collide h (m ∷ messages) [] = ⊥
Collide h (m ∷ messages) (n ∷ others) = ((m ≢ n) × (h m ≡ h n)) ⊎ Collide h messages others

-- a hash function whose digests have 32 bytes
abbrev pub HasDigests : (List ℕ → List ℕ) → Type 0
HasDigests h = (m : List ℕ) → length (h m) ≡ 32

-- the digests of the leaves of some records
abbrev pub leaves : (List ℕ → List ℕ) → List (List ℕ) → List (List ℕ)
leaves h records = map (λ content. h (leaf_message content)) records

-- the root of some records
abbrev pub records_root : (List ℕ → List ℕ) → List (List ℕ) → List ℕ
records_root h records = root h (leaves h records)

-- the path of the record at this index
abbrev pub record_path : (List ℕ → List ℕ) → List (List ℕ) → ℕ → List (List ℕ)
record_path h records index = path h (leaves h records) index

-- the messages that are hashed for the root of some records
abbrev pub in_records : (List ℕ → List ℕ) → List (List ℕ) → List (List ℕ)
in_records h records = map leaf_message records ++ in_tree h (leaves h records)

-- by this path the leaf at this index of `total` is under the root
abbrev pub IsLeafUnder : (List ℕ → List ℕ) → ℕ → ℕ → List ℕ → List (List ℕ) → List ℕ → Type 0
IsLeafUnder h total index leaf others top = (index < total) × LeadsTo h total index leaf others top

-- by this path the record at this index of `total` is under the root
abbrev pub IsUnder : (List ℕ → List ℕ) → ℕ → ℕ → List ℕ → List (List ℕ) → List ℕ → Type 0
IsUnder h total index content others top = IsLeafUnder h total index (h (leaf_message content)) others top

-- the messages that are hashed to see that a record is under a root
abbrev pub in_check : (List ℕ → List ℕ) → ℕ → ℕ → List ℕ → List (List ℕ) → List (List ℕ)
in_check h total index content others = leaf_message content ∷ on_path h total index (h (leaf_message content)) others

-- the root of one leaf is that leaf, and the root of more is the root of the level above
abbrev pub RootsGoUp : Type 0
RootsGoUp =
    (h : List ℕ → List ℕ) (nodes : List (List ℕ)) → 1 ≤ length nodes
    → ((length nodes ≡ 1) × (nodes ≡ root h nodes ∷ [])) ⊎ ((2 ≤ length nodes) × (root h nodes ≡ root h (above h nodes)))

-- two records that are under one root at one index are the same, or two different messages that were hashed to see it have the same digest
abbrev pub RecordsAreBound : Type 0
RecordsAreBound =
    (h : List ℕ → List ℕ) (total index : ℕ) (content other top : List ℕ) (p q : List (List ℕ)) → HasDigests h
    → IsUnder h total index content p top → IsUnder h total index other q top
    → (content ≡ other) ⊎ Collide h (in_check h total index content p) (in_check h total index other q)

-- equally many records with one root are the same, or two different messages that were hashed for it have the same digest
abbrev pub RootsAreBound : Type 0
RootsAreBound =
    (h : List ℕ → List ℕ) (records others : List (List ℕ)) → HasDigests h → length records ≡ length others
    → records_root h records ≡ records_root h others → (records ≡ others) ⊎ Collide h (in_records h records) (in_records h others)

-- each of some records is under their root by its path
abbrev pub PathsLeadUp : Type 0
PathsLeadUp =
    (h : List ℕ → List ℕ) (index : ℕ) (records : List (List ℕ)) → index < length records
    → IsUnder h (length records) index (slice_index_or records index []) (record_path h records index) (records_root h records)

-- two different messages that were hashed have the same digest: to see that the shown record is under the root, and that the record of its index is
abbrev pub CollidesAt : (List ℕ → List ℕ) → List (List ℕ) → ℕ → List ℕ → List (List ℕ) → Type 0
CollidesAt h records index content others =
    Collide h (in_check h (length records) index content others)
    (in_check h (length records) index (slice_index_or records index []) (record_path h records index))

-- a record that is under the root of some records is the one at its index, or two different messages that were hashed have the same digest
abbrev pub OnlyRecordsAreUnder : Type 0
OnlyRecordsAreUnder =
    (h : List ℕ → List ℕ) (index : ℕ) (records : List (List ℕ)) (content : List ℕ) (others : List (List ℕ)) → HasDigests h
    → IsUnder h (length records) index content others (records_root h records)
    → (content ≡ slice_index_or records index []) ⊎ CollidesAt h records index content others

-- a digest that is under the root of some leaves, as long as the leaf at its index, is that leaf, or two different messages that were hashed have the
-- same digest: to see that it is under the root, and that the leaf is
abbrev pub OnlyLeavesAreUnder : Type 0
OnlyLeavesAreUnder =
    (h : List ℕ → List ℕ) (index : ℕ) (leaves : List (List ℕ)) (leaf : List ℕ) (others : List (List ℕ)) → HasDigests h
    → length leaf ≡ length (slice_index_or leaves index []) → IsLeafUnder h (length leaves) index leaf others (root h leaves)
    → (leaf ≡ slice_index_or leaves index [])
    ⊎ Collide h (on_path h (length leaves) index leaf others) (on_path h (length leaves) index (slice_index_or leaves index []) (path h leaves index))

-- a record that is shown: its index, its bytes, and its path
pub record Shown : Type 0 where
  pub index : ℕ
  pub content : List ℕ
  pub others : List (List ℕ)

-- each of these records is under the root
abbrev pub AreUnder : (List ℕ → List ℕ) → ℕ → List ℕ → List Shown → Type 0
AreUnder h total top [] = Unit {0}
AreUnder h total top (s ∷ shown) = IsUnder h total s.index s.content s.others top × AreUnder h total top shown

-- each of these records is the record of its index
abbrev pub AreOf : List (List ℕ) → List Shown → Type 0
AreOf records [] = Unit {0}
AreOf records (s ∷ shown) = (s.content ≡ slice_index_or records s.index []) × AreOf records shown

-- for one of these records two different messages that were hashed have the same digest
abbrev pub SomeCollide : (List ℕ → List ℕ) → List (List ℕ) → List Shown → Type 0
SomeCollide h records [] = ⊥
SomeCollide h records (s ∷ shown) = CollidesAt h records s.index s.content s.others ⊎ SomeCollide h records shown

-- records that are shown to be under the root of some records are all records of these, or two different messages that were hashed have the
-- same digest
abbrev pub OnlyRecordsAreShown : Type 0
OnlyRecordsAreShown =
    (h : List ℕ → List ℕ) (records : List (List ℕ)) (shown : List Shown) → HasDigests h
    → AreUnder h (length records) (records_root h records) shown → AreOf records shown ⊎ SomeCollide h records shown
