-- How a block of bytes is cut into rows of words.
use Rattle.std.specs.Prelude.{ℕ, ◌-◌, ◌*◌, ◌<◌, ◌≤◌, ◌^◌, min}
use Rattle.std.specs.Int.{div_ceil}

-- how many words a row has: the bytes of the block over the eight bytes of a word of each data row, rounded up
abbrev pub width_of : ℕ → ℕ → ℕ
width_of size least = div_ceil size (8 * least)

-- at least one row gives the block back, and there are no fewer rows than that
abbrev pub IsSplit : ℕ → ℕ → Type 0
IsSplit least total = (1 ≤ least) × (least ≤ total)

-- fewer than 2^31 words are data, and all rows have fewer than 2^60
abbrev pub HaveRoom : ℕ → ℕ → ℕ → Type 0
HaveRoom least total width = (least * width < 2 ^ 31) × (total * width < 2 ^ 60)

-- how many bytes of the block are in row i: as many as a row has, or those that are left
abbrev pub bytes_in_row : ℕ → ℕ → ℕ → ℕ
bytes_in_row size width i = min (8 * width) (size - i * (8 * width))
