-- The rows that data fill.
use Rattle.std.proofs.Common.{◌≡◌, ℕ, ◌+◌, ◌-◌, ◌*◌, ◌/◌, ◌%◌, ◌<◌, ◌≤◌, List, [], ◌∷◌, length, replicate, refl, ap₂, arith}
use Rattle.std.specs.Int.{div_ceil}
use Rattle.std.specs.List.{All}
use Rattle.std.proofs.lemmas.List.Elements.{All-head, All-tail}
use Rattle.std.proofs.lemmas.List.{length-append, length-replicate}
use Rattle.math_numbers.specs.Bits.{piece_count}
use Rattle.math_fields.specs.Elements.{residue, same}
use Rattle.math_fields.specs.declared.goldilocks.F.{F}
use Rattle.math_fields.proofs.ElementNumbers.{same_number}
use Rattle.math_numbers.proofs.BitPieces.{piece_count-enough}
use Rattle.math_splitting.specs.Shards.{rows_for, width_for}

-- elements that are zero
pub zeros_alone : (xs : List F) → All (λ x. same x (residue 0)) xs → xs ≡ replicate (length xs) (residue 0)
zeros_alone [] h = refl
zeros_alone (x ∷ xs) h = ap₂ (λ y ys. y ∷ ys) (same_number x (residue 0) (All-head (λ x. same x (residue 0)) x xs h)) (zeros_alone xs (All-tail (λ x. same x (residue 0)) x xs h))

-- the quotient rounded up is how many pieces there are
pub rounded_up : (x y : ℕ) → 0 < y → div_ceil x y ≡ piece_count y x
rounded_up x y h = grind arith

-- the rows hold all elements, and zeros where some cells are left
pub rows_are_whole : (min : ℕ) (words : List ℕ) → 1 ≤ min → length (rows_for min words).cells ≡ min * width_for min words
rows_are_whole min words some = grind (arith, piece_count-enough, length-append, length-replicate)
