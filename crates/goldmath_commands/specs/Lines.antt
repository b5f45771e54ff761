-- The lines that the program writes.
use Rattle.std.specs.Prelude.{ℕ, List, [], ◌∷◌, ◌++◌, codes}
use Rattle.std.specs.Fmt.{decimal}
use Rattle.math_codec.specs.declared.codec.error.Error.{Error}
use Rattle.math_codec.specs.declared.codec.error.Error.TheVariants.{Memory, EndOfBuffer, InvalidVarint, InvalidLength, Invalid, ExtraData}
use Rattle.goldmath_commands.specs.declared.engine.ToolError.{ToolError}
use Rattle.goldmath_commands.specs.declared.engine.ToolError.TheVariants.{Usage, Refused}

-- the end of a line
abbrev pub line_end : List ℕ
line_end = 10 ∷ []

-- what is wrong with the bytes, in words
abbrev pub refusal_of : Error → List ℕ
refusal_of (Memory _) = codes "out of memory"
refusal_of EndOfBuffer = codes "end of buffer"
refusal_of InvalidVarint = codes "invalid varint"
refusal_of (InvalidLength length) = codes "invalid length " ++ decimal length
refusal_of (Invalid name text) = codes "invalid " ++ name.now ++ codes ": " ++ text.now
refusal_of (ExtraData count) = codes "extra data " ++ decimal count

-- the line for standard error that reports a fault, with its line end
abbrev pub line_of : ToolError → List ℕ
line_of Usage = codes "usage: goldmath eval POINT | goldmath recover LG ROW.." ++ line_end
line_of (Refused error) = codes "refused: " ++ refusal_of error ++ line_end
