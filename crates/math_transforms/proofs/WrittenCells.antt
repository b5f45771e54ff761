-- Items that are written over some cells of a list.
use Rattle.std.proofs.Common.{◌≡◌, ◌∙◌, ℕ, ◌+◌, ◌*◌, ◌<◌, ◌≤◌, List, ◌++◌, length, take, drop, arith}
use Rattle.std.proofs.lemmas.List.{drop-drop, length-append, length-take-le, length-drop}
use Rattle.math_base.proofs.WholeWrites.{take-written}

-- a row lies within the cells
pub row-within : (i rows cols : ℕ) → i < rows → i * cols + cols ≤ rows * cols
row-within i rows cols l = grind (arith, l)

-- items stand between the cells before them and those after them
pub cells-between : {A : Type 0} (n from : ℕ) (cells items : List A) → n ≡ length cells → from + length items ≤ length cells
    → take n ((take from cells ++ (items ++ drop (length items) (drop from cells))) ++ drop (length (take from cells ++ (items ++ drop (length items) (drop from cells)))) cells)
    ≡ take from cells ++ (items ++ drop (from + length items) cells)
cells-between n from cells items e within = grind (arith, drop-drop, length-take-le, length-append, length-drop, take-written)
