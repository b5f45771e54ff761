-- Lengths: groups of seven bits, lowest first, with bit 7 set on each byte but the last.
use Rattle.std.specs.Prelude.{◌≡◌, ℕ, zero, suc, ◌+◌, ◌-◌, ◌*◌, ◌/◌, ◌%◌, ◌<◌, ◌≤◌, List, [], ◌∷◌, Result, Ok, Err, nat_lt, ◌==◌, if◌then◌else◌}
use Rattle.math_codec.specs.Faults.{Fault, EndOfBuffer, InvalidVarint, ◌>>=◌}

-- n may be the last byte, at this place: bit 7 is clear, it is zero only as the first, and as the fifth it is at most 15
pub record IsLastByte (place n : ℕ) : Type 0 where
  pub clear : n < 128
  pub zero_first : n ≡ 0 → place ≡ 0
  pub fifth : place ≡ 4 → n ≤ 15

-- from this place on the bytes spell n: the last is n itself, and one before it is 128 and the lowest seven bits of n
abbrev pub SpellsFrom : ℕ → ℕ → List ℕ → Type 0
SpellsFrom place n [] = ⊥
SpellsFrom place n (byte ∷ []) = (byte ≡ n) × IsLastByte place n
SpellsFrom place n (byte ∷ next ∷ after) = (byte ≡ 128 + n % 128) × (place < 4) × SpellsFrom (place + 1) (n / 128) (next ∷ after)

-- the bytes spell the length n: groups of seven bits, the lowest first, in at most five bytes, of which each but the last has bit 7 set
abbrev pub SpellsLength : ℕ → List ℕ → Type 0
SpellsLength n bytes = SpellsFrom 0 n bytes

-- the groups of n, of which there are at most more + 1
unfoldable pub groups : ℕ → ℕ → List ℕ
groups zero n = n ∷ []
groups (suc more) n = if nat_lt n 128 then n ∷ [] else (128 + n % 128) ∷ groups more (n / 128)

-- the bytes that a length is spelled by
abbrev pub length_spelling : ℕ → List ℕ
length_spelling n = groups 4 n

-- the number that the bytes after the first spell, at least one and at most more + 1, and what follows; or the first fault
unfoldable pub rest_at : ℕ → List ℕ → Result (ℕ × List ℕ) Fault
rest_at more [] = Err EndOfBuffer
rest_at zero (byte ∷ after) = if byte == 0 then Err InvalidVarint else if nat_lt byte 16 then Ok (byte, after) else Err InvalidVarint
rest_at (suc more) (byte ∷ after) = if byte == 0 then Err InvalidVarint else if nat_lt byte 128 then Ok (byte, after) else (rest_at more after >>= λ high. Ok (byte - 128 + 128 * high.0, high.1))

-- the length that stands in front, and what follows; or the first fault
unfoldable pub length_at : List ℕ → Result (ℕ × List ℕ) Fault
length_at [] = Err EndOfBuffer
length_at (byte ∷ after) = if nat_lt byte 128 then Ok (byte, after) else (rest_at 3 after >>= λ high. Ok (byte - 128 + 128 * high.0, high.1))

-- the number that was read, or 0 at a fault
abbrev number_read : Result (ℕ × List ℕ) Fault → ℕ
number_read (Ok x) = x.0
number_read (Err f) = 0

-- the length that stands in front, or 0 where none does
unfoldable pub length_in_front : List ℕ → ℕ
length_in_front bytes = number_read (length_at bytes)
