-- A shard that is spelled is read again, and no spelling begins another.
use Rattle.std.proofs.Common.{◌≡◌, ℕ, ◌<◌, List, ◌++◌, refl, sym, ap, ◌∙◌, append_assoc}
use Rattle.math_numbers.specs.Goldilocks.{P}
use Rattle.math_codec.specs.Encodings.{ReadsAgain, SpellsApart}
use Rattle.math_codec.specs.Lengths.{length_spelling}
use Rattle.math_codec.specs.LengthLaws.{length_again, lengths_apart}
use Rattle.math_codec.specs.Lists.{list_spelling}
use Rattle.math_codec.specs.ListLaws.{list_again, list_apart}
use Rattle.math_fields.specs.Elements.{number, same}
use Rattle.math_fields.specs.ElementEncoding.{scan_element}
use Rattle.math_fields.specs.ElementEncodingLaws.{element_again, element_apart}
use Rattle.math_splitting.specs.declared.shards.Shard.{Shard}
use Rattle.math_splitting.specs.ShardEncoding.{at_most, cell_spelling, shard_spelling, AreSameShards, AdmitsShard, scan_shard}

abbrev after_total : Shard → List ℕ → List ℕ
after_total s rest = list_spelling cell_spelling s.cells.items ++ rest

abbrev after_min : Shard → List ℕ → List ℕ
after_min s rest = length_spelling s.total ++ after_total s rest

abbrev after_index : Shard → List ℕ → List ℕ
after_index s rest = length_spelling s.min ++ after_min s rest

-- the four parts stand one after the other, and then what follows the shard
parts : (s : Shard) (rest : List ℕ) → shard_spelling s ++ rest ≡ length_spelling s.index ++ after_index s rest
parts s rest =
    let cells = list_spelling cell_spelling s.cells.items in
    let total = length_spelling s.total in
    let min = length_spelling s.min in
    append_assoc (length_spelling s.index) (min ++ (total ++ cells)) rest
    ∙ ap (λ (x : List ℕ). length_spelling s.index ++ x) (append_assoc min (total ++ cells) rest ∙ ap (λ (x : List ℕ). min ++ x) (append_assoc total cells rest))

pub shard_again : (most_cells : ℕ) → ReadsAgain shard_spelling (AdmitsShard most_cells) (scan_shard most_cells)
unfolding scan_shard
shard_again most_cells s rest h =
    let index = length_again s.index (after_index s rest) h.index_fits in
    let min = length_again s.min (after_min s rest) h.min_fits in
    let total = length_again s.total (after_total s rest) h.total_fits in
    let cells = list_again cell_spelling (λ a. number a < P) scan_element (λ a. element_again (number a)) (at_most most_cells) s.cells.items rest h.cells in
    ap (scan_shard most_cells) (parts s rest) ∙ rw (index, min, total, cells) refl

pub shard_apart : (most_cells : ℕ) → SpellsApart shard_spelling (AdmitsShard most_cells) AreSameShards
shard_apart most_cells s t x y h k e =
    let index = lengths_apart s.index t.index (after_index s x) (after_index t y) h.index_fits k.index_fits (sym (parts s x) ∙ e ∙ parts t y) in
    let min = lengths_apart s.min t.min (after_min s x) (after_min t y) h.min_fits k.min_fits index.1 in
    let total = lengths_apart s.total t.total (after_total s x) (after_total t y) h.total_fits k.total_fits min.1 in
    let cells = list_apart cell_spelling (λ a. number a < P) same (λ a b. element_apart (number a) (number b)) (at_most most_cells) s.cells.items t.cells.items x y h.cells k.cells total.1 in
    (record { index = index.0; least = min.0; most = total.0; cells = cells.0 }, cells.1)
