use Rattle.std.proofs.Common.{◌≡◌, ◌≢◌, ◌<◌, ◌^◌, ℕ, length, get_or}
use Rattle.goldmath_commands.specs.Recoveries.{MarksFirst}
use Rattle.goldmath_commands.proofs.recovery.are_distinct.Given as goal

abbrev pub invariant-loop-row : goal.invariant-loop-row
invariant-loop-row l = record {
  size : length l.seen ≡ 2 ^ l.lg;
  distinct : (i j : ℕ) → i < j → j < l.row-index → get_or l.rows i 0 ≢ get_or l.rows j 0;
  marks : MarksFirst l.rows l.row-index l.seen;
}
