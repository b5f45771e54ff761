-- Words where they lie in memory, as they are or as bytes. The words of some memory are a function of their number.
use Rattle.std.specs.Prelude.{ℕ, ◌-◌, ◌*◌, ◌<◌, ◌^◌, List, drop}
use Rattle.std.specs.Int.{from_le_bytes, w64}

-- word k of bytes: the eight bytes from byte 8 k on, the lowest first; bytes past the end count as zeros
abbrev pub word_of_bytes : List ℕ → ℕ → ℕ
word_of_bytes bytes k = from_le_bytes w64 (drop (8 * k) bytes)

-- the bytes of word k that lie past the first `size` bytes are zeros
abbrev pub IsWithin : ℕ → ℕ → ℕ → Type 0
IsWithin size k word = word < 2 ^ (8 * (size - 8 * k))
