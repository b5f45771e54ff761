-- The version of the library, as one number.
use Rattle.std.specs.Prelude.{ℕ, ◌+◌, ◌*◌}

-- the version of the library as one number: major, minor and patch
abbrev pub version : ℕ
version = 10000 * 1 + 100 * 0 + 0
