-- The root of a file, over its numbers and the root of the tree of its blocks.
use Rattle.std.specs.Prelude.{◌≡◌, ◌⊎◌, ℕ, ◌<◌, ◌^◌, List, [], ◌∷◌, ◌++◌, length}
use Rattle.std.specs.Int.{to_be_bytes, w64}
use Rattle.hash_trees.specs.declared.files.FileNumbers.{FileNumbers}
use Rattle.hash_trees.specs.Trees.{LeadsTo, on_path, root}
use Rattle.hash_trees.specs.Binding.{Collide, HasDigests, IsUnder, in_check}

-- each of the numbers fits a word
pub record AreWords (f : FileNumbers) : Type 0 where
  pub min : f.min < 2 ^ 64
  pub total : f.total < 2 ^ 64
  pub block : f.block_size < 2 ^ 64
  pub size : f.size < 2 ^ 64

-- what is hashed for a file: a byte of two, its numbers, a word each, the highest byte first, and the root of the tree over the roots of its blocks
abbrev pub file_message : FileNumbers → List ℕ → List ℕ
file_message f top = 2 ∷ (to_be_bytes w64 f.min ++ (to_be_bytes w64 f.total ++ (to_be_bytes w64 f.block_size ++ (to_be_bytes w64 f.size ++ top))))

-- the root of a file, over the root of the tree of its blocks
abbrev pub file_root_over : (List ℕ → List ℕ) → FileNumbers → List ℕ → List ℕ
file_root_over h f top = h (file_message f top)

-- the root of a file whose blocks have these roots
abbrev pub file_root : (List ℕ → List ℕ) → FileNumbers → List (List ℕ) → List ℕ
file_root h f block_roots = file_root_over h f (root h block_roots)

-- two files with one root have the same numbers and the same tree of blocks, or their messages collide
abbrev pub FilesAreBound : Type 0
FilesAreBound =
    (h : List ℕ → List ℕ) (f g : FileNumbers) (top other : List ℕ) → AreWords f → AreWords g → file_root_over h f top ≡ file_root_over h g other
    → ((f ≡ g) × (top ≡ other)) ⊎ Collide h (file_message f top ∷ []) (file_message g other ∷ [])

-- a record of a block, which is under the root of the block by one path, which is under the root of the file by another
pub record IsInFile (h : List ℕ → List ℕ) (f : FileNumbers) (count block index : ℕ) (content : List ℕ) (others : List (List ℕ)) (block_root : List ℕ) (blocks : List (List ℕ)) (top file : List ℕ) : Type 0 where
  pub within : block < count
  pub record_under : IsUnder h f.total index content others block_root
  pub block_under : LeadsTo h count block block_root blocks top
  pub size : length block_root ≡ 32
  pub root : file ≡ file_root_over h f top

-- two records of one block and index that are under the root of one file are the same, or two different messages that were hashed have the
-- same digest: messages of the files, of the ways up from the block, or of the ways up from the record
abbrev pub FileRecordsAreBound : Type 0
FileRecordsAreBound =
    (h : List ℕ → List ℕ) (f g : FileNumbers) (count block index : ℕ) (content other : List ℕ) (p q : List (List ℕ)) (a b : List ℕ) (up over : List (List ℕ)) (top high file : List ℕ)
    → HasDigests h → AreWords f → AreWords g → IsInFile h f count block index content p a up top file → IsInFile h g count block index other q b over high file
    → (content ≡ other) ⊎ (
    Collide h (file_message f top ∷ []) (file_message g high ∷ [])
    ⊎ (Collide h (on_path h count block a up) (on_path h count block b over) ⊎ Collide h (in_check h f.total index content p) (in_check h f.total index other q))
    )
