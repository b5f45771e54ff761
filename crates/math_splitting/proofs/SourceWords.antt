-- The words of a slice among those of data.
use Rattle.std.proofs.Common.{◌≡◌, ◌∙◌, ℕ, ◌+◌, ◌≤◌, ◌<◌, List, ◌++◌, length, map, take, drop, get_or, refl, ap, arith}
use Rattle.std.proofs.lemmas.List.{drop-map, get_or_append_left, get_or-append-add, length-map, take-map}
use Rattle.math_transforms.proofs.WrittenRows.{part-read}
use Rattle.math_splitting.specs.declared.shards.sources.Source.{Source}
use Rattle.math_splitting.specs.DataWords.{front_count, words_in}

-- some words of a list, each of them read
pub part-mapped : {W : Type 0} (word : W → ℕ) (items : List W) (from m j : ℕ) → j < m → get_or (map word (take m (drop from items))) j 0 ≡ get_or (map word items) (from + j) 0
part-mapped word items from m j l =
    let block : map word (take m (drop from items)) ≡ take m (drop from (map word items)) = rw (drop-map word from items, take-map word m (drop from items)) refl in
    ap (λ xs. get_or xs j 0) block ∙ part-read 0 (map word items) from m j l

-- some words of the slice are words of the data
pub slice-read : {W : Type 0} (word : W → ℕ) (source : Source W) (from m j : ℕ) → from + m ≤ length source.words.now → j < m
    → get_or (map word (take m (drop from source.words.now))) j 0 ≡ get_or (words_in word source) (front_count source + (from + j)) 0
slice-read word source from m j fits l = grind (arith, part-mapped, get_or-append-add, get_or_append_left, length-map)
