-- Shards as words, a shard a row.
use Rattle.std.proofs.Common.{◌≡◌, ◌∙◌, ℕ, ◌+◌, ◌*◌, List, [], ◌∷◌, ◌++◌, length, replicate, refl, sym, ap, arith}
use Rattle.std.specs.List.{All, flat_map}
use Rattle.std.proofs.lemmas.List.{length-append, length-map, length-replicate, map-append}
use Rattle.std.proofs.lemmas.List.Elements.{All-head, All-tail}
use Rattle.math_fields.specs.declared.goldilocks.F.{F}
use Rattle.math_fields.specs.Elements.{number}
use Rattle.math_splitting.specs.declared.shards.Shard.{Shard}
use Rattle.math_splitting.specs.Shards.{AreShardsOf, width_for}
use Rattle.c_calls.specs.WordElements.{numbers}
use Rattle.c_calls.specs.WordShards.{AreWordsOfShards, HaveShardSizes}

-- shards of so many words have one size
pub same_size : (words min total m n : ℕ) → HaveShardSizes words min total m → HaveShardSizes words min total n → m ≡ n
same_size words min total m n h k =
    let e : length (replicate words 0) ≡ words = length-replicate words 0 in
    h.count (replicate words 0) e ∙ sym (k.count (replicate words 0) e)

-- which is the width of their rows
pub only_size : (words min total cells n : ℕ) → ((xs : List ℕ) → length xs ≡ words → width_for min xs ≡ cells) → HaveShardSizes words min total n → n ≡ cells
only_size words min total cells n h k =
    let e : length (replicate words 0) ≡ words = length-replicate words 0 in
    k.count (replicate words 0) e ∙ h (replicate words 0) e

abbrev pub cells_of : Shard → List F
cells_of s = s.cells.items

abbrev pub word_row : Shard → List ℕ
word_row s = numbers s.cells.items

-- shards of one size have so many cells
count_of_all : (w : ℕ) (shards : List Shard) → All (λ (s : Shard). length s.cells.items ≡ w) shards → length (flat_map cells_of shards) ≡ length shards * w
count_of_all w [] h = omega arith
count_of_all w (s ∷ shards) h =
    let first : length s.cells.items ≡ w = All-head (λ (t : Shard). length t.cells.items ≡ w) s shards h in
    let rest : length (flat_map cells_of shards) ≡ length shards * w = count_of_all w shards (All-tail (λ (t : Shard). length t.cells.items ≡ w) s shards h) in
    let both : length (flat_map cells_of (s ∷ shards)) ≡ length s.cells.items + length (flat_map cells_of shards) = length-append s.cells.items (flat_map cells_of shards) in
    omega (arith, first, rest, both)

-- the numbers of all cells are the rows of words
pub numbers_of_all : (shards : List Shard) → numbers (flat_map cells_of shards) ≡ flat_map word_row shards
numbers_of_all [] = refl
numbers_of_all (s ∷ shards) = map-append number s.cells.items (flat_map cells_of shards) ∙ ap (λ xs. word_row s ++ xs) (numbers_of_all shards)

-- the numbers of the cells of a split are its shards as words
pub words_of_split : (words : List ℕ) (min total : ℕ) (shards : List Shard) (cells : List ℕ) → AreShardsOf words min total shards → cells ≡ numbers (flat_map cells_of shards)
    → AreWordsOfShards words min total cells
words_of_split words min total shards cells h e = grind (arith, length-map, count_of_all, numbers_of_all)
