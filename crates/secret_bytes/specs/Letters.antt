-- Bytes as letters and digits, two for each byte, in groups of four with a dash before each.
use Rattle.std.specs.Prelude.{ℕ, ◌/◌, ◌%◌, List, [], ◌∷◌, ◌++◌, Bool, true, false, not, slice_index_or, codes}

-- the sixteen letters and digits, none of which is mistaken for another
abbrev pub letters : List ℕ
letters = codes "34679ACEFHJKMRTX"

-- the letter or digit for a number below 16
abbrev pub letter : ℕ → ℕ
letter d = slice_index_or letters d 0

-- the code of the dash
abbrev pub dash : ℕ
dash = 45

-- a dash before the first byte of a group, and nothing before the second
abbrev pub gap : Bool → List ℕ
gap true = dash ∷ []
gap false = []

-- the bytes in groups of two, two letters for each; whether the first byte begins a group
abbrev pub grouped : Bool → List ℕ → List ℕ
grouped first [] = []
grouped first (b ∷ bytes) = gap first ++ (letter (b / 16) ∷ letter (b % 16) ∷ grouped (not first) bytes)
