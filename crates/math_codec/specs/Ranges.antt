-- The lengths that a range admits.
use Rattle.std.specs.Prelude.{ℕ, Bool, ◌&&◌, max, nat_le}
use Rattle.math_codec.specs.declared.codec.range.LengthRange.{LengthRange}

-- the length n is in the range
abbrev pub in_range : LengthRange → ℕ → Bool
in_range range n = nat_le range.low n && nat_le n range.high

-- the lengths of the range but 0
abbrev pub nonzero : LengthRange → LengthRange
nonzero range = record { low = max range.low 1; high = range.high }
