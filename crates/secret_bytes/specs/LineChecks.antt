-- The check of a text: the value at a fixed point of the polynomial of its bytes.
use Rattle.std.specs.Prelude.{ℕ, List, [], ◌∷◌}
use Rattle.std.specs.Int.{to_be_bytes, w64}
use Rattle.math_fields.specs.declared.goldilocks.F.{F}
use Rattle.math_fields.specs.Elements.{number, residue, sum, product}

-- the fixed point of the check: the first 64 bits of the golden ratio after the point, an element other than zero and one
abbrev pub check_point : ℕ
check_point = 0x9e3779b97f4a7c15

-- the check by Horner's rule: c times a power of the fixed point, and the bytes times lower powers
abbrev pub check_from : F → List ℕ → F
check_from c [] = c
check_from c (b ∷ bytes) = check_from (sum (product c (residue check_point)) (residue b)) bytes

-- the value at a fixed point of the polynomial whose coefficients are the bytes, the last one being the constant
abbrev pub check_value : List ℕ → F
check_value bytes = check_from (residue 0) bytes

-- the check as eight bytes
abbrev pub check_bytes : List ℕ → List ℕ
check_bytes bytes = to_be_bytes w64 (number (check_value bytes))
