use Rattle.std.proofs.Common.{string_bytes, map, take}
use Rattle.std.specs.List.{AllZip}
use Rattle.goldmath_commands.specs.Numerals.{WritesRow}
use Rattle.goldmath_commands.proofs.recovery.rows_in.Given as goal

abbrev pub invariant-loop-word : goal.invariant-loop-word
invariant-loop-word l = AllZip (WritesRow l.lg) (map string_bytes (take l.word-index l.words)) l.rows.items
