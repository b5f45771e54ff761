-- How many coefficients are stored.
use Rattle.std.specs.Prelude.{ℕ, List, [], ◌∷◌, length, max}

-- the greatest of the lengths of the lists, and at least 1
abbrev pub greatest_count : {A : Type 0} → List (List A) → ℕ
greatest_count [] = 1
greatest_count (a ∷ lists) = max (length a) (greatest_count lists)
