-- What the root of a file binds.
use Rattle.std.proofs.Common.{◌≡◌, ℕ, ◌<◌, ◌^◌, List, [], ◌∷◌, ◌++◌, append_assoc, refl, sym, ap, ◌∙◌, subst, inl, inr}
use Rattle.std.specs.Int.{from_be_bytes, to_be_bytes, w64}
use Rattle.std.proofs.lemmas.Nat.{from_be_bytes-to_be_bytes_8}
use Rattle.hash_trees.specs.declared.files.FileNumbers.{FileNumbers}
use Rattle.hash_trees.specs.Trees.{LeadsTo}
use Rattle.hash_trees.specs.Binding.{IsUnder}
use Rattle.hash_trees.specs.Files.{AreWords, FileRecordsAreBound, FilesAreBound, file_message}
use Rattle.hash_trees.proofs.Collisions.{apart, same_or_not}
use Rattle.hash_trees.proofs.BoundPaths.{path_binds}
use Rattle.hash_trees.proofs.BoundRecords.{records_are_bound}

-- a word in front is read, and what follows it
pub word_apart : (m n : ℕ) (x y : List ℕ) → m < 2 ^ 64 → n < 2 ^ 64 → to_be_bytes w64 m ++ x ≡ to_be_bytes w64 n ++ y → (m ≡ n) × (x ≡ y)
word_apart m n x y a b e =
    let parts = apart (to_be_bytes w64 m) (to_be_bytes w64 n) x y refl e in
    (sym (from_be_bytes-to_be_bytes_8 m a) ∙ ap (from_be_bytes w64) parts.0 ∙ from_be_bytes-to_be_bytes_8 n b, parts.1)

equal_numbers : (f g : FileNumbers) → f.min ≡ g.min → f.total ≡ g.total → f.block_size ≡ g.block_size → f.size ≡ g.size → f ≡ g
equal_numbers f g a b c d = rw (a, b, c, d) refl

messages_apart : (f g : FileNumbers) (top other : List ℕ) → AreWords f → AreWords g → file_message f top ≡ file_message g other → (f ≡ g) × (top ≡ other)
messages_apart f g top other k j e =
    let tail :
    to_be_bytes w64 f.min ++ (to_be_bytes w64 f.total ++ (to_be_bytes w64 f.block_size ++ (to_be_bytes w64 f.size ++ top)))
    ≡ to_be_bytes w64 g.min ++ (to_be_bytes w64 g.total ++ (to_be_bytes w64 g.block_size ++ (to_be_bytes w64 g.size ++ other))) = cc in
    let min = word_apart f.min g.min _ _ k.min j.min tail in
    let total = word_apart f.total g.total _ _ k.total j.total min.1 in
    let block = word_apart f.block_size g.block_size _ _ k.block j.block total.1 in
    let size = word_apart f.size g.size _ _ k.size j.size block.1 in
    (equal_numbers f g min.0 total.0 block.0 size.0, size.1)

-- the pieces that are hashed one after the other are the message
pub joined_message : (f : FileNumbers) (a b c d top : List ℕ) → a ≡ to_be_bytes w64 f.min → b ≡ to_be_bytes w64 f.total → c ≡ to_be_bytes w64 f.block_size → d ≡ to_be_bytes w64 f.size
    → (((((2 ∷ []) ++ a) ++ b) ++ c) ++ d) ++ top ≡ file_message f top
joined_message f a b c d top p q r s = rw (append_assoc, p, q, r, s) refl

pub files_are_bound : FilesAreBound
files_are_bound h f g top other k j e = elim (same_or_not (file_message f top) (file_message g other)) [
  | inl same ↦ inl (messages_apart f g top other k j same)
  | inr differ ↦ inr (inl (differ, e))
]

pub file_records_are_bound : FileRecordsAreBound
file_records_are_bound h f g count block index content other p q a b up over top high file s k j x y =
    elim (files_are_bound h f g top high k j (sym x.root ∙ y.root)) [
      | inr c ↦ inr (inl c)
      | inl same ↦
          elim (path_binds h count count block a b up over high s (x.size ∙ sym y.size)
          (subst (λ (z : List ℕ). LeadsTo h count block a up z) same.1 x.block_under) y.block_under) [
            | inr c ↦ inr (inr (inl c))
            | inl root ↦
                elim (records_are_bound h f.total index content other b p q s
                (subst (λ (z : List ℕ). IsUnder h f.total index content p z) root x.record_under)
                (subst (λ (n : FileNumbers). IsUnder h n.total index other q b) (sym same.0) y.record_under)) [
                  | inr c ↦ inr (inr (inr c))
                  | inl e ↦ inl e
                ]
          ]
    ]
