-- Lists by their items of even and of odd index, and bit-reversed order.
use Rattle.std.specs.Prelude.{ℕ, zero, suc, ◌^◌, List, [], ◌∷◌, take, drop, reverse}
use Rattle.math_numbers.specs.Bits.{bits, number}

-- the items of even index
abbrev pub even_items : {A : Type 0} → List A → List A
even_items [] = []
even_items (a ∷ []) = a ∷ []
even_items (a ∷ b ∷ rest) = a ∷ even_items rest

-- the items of odd index
abbrev pub odd_items : {A : Type 0} → List A → List A
odd_items [] = []
odd_items (a ∷ []) = []
odd_items (a ∷ b ∷ rest) = b ∷ odd_items rest

-- the items of both lists in turn, and then what is left of the longer one
abbrev pub interleaved : {A : Type 0} → List A → List A → List A
interleaved [] ys = ys
interleaved (x ∷ xs) [] = x ∷ xs
interleaved (x ∷ xs) (y ∷ ys) = x ∷ y ∷ interleaved xs ys

-- the number whose lg bits are those of i in the opposite order
abbrev pub bit_reversed : ℕ → ℕ → ℕ
bit_reversed lg i = number (reverse (bits lg i))

-- 2 ^ lg items, each moved to the place whose bits are those of its own place in the opposite order
abbrev pub bit_reversed_order : {A : Type 0} → ℕ → List A → List A
bit_reversed_order zero items = items
bit_reversed_order (suc lg) items = interleaved (bit_reversed_order lg (take (2 ^ lg) items)) (bit_reversed_order lg (drop (2 ^ lg) items))
