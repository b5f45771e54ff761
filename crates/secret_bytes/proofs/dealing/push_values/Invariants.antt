use Rattle.std.proofs.Common.{◌≡◌, ◌<◌, ◌≤◌, ℕ, get_or, length}
use Rattle.secret_bytes.specs.declared.dealing.Row.{Row}
use Rattle.secret_bytes.specs.Rows.{IsGrown}
use Rattle.secret_bytes.proofs.dealing.push_values.Given as goal

-- the rows so far have one value more, and the others are as they were
abbrev pub invariant-loop-row : goal.invariant-loop-row
invariant-loop-row l = record {
  count : length l.rows ≡ length l.initial.rows;
  done : (k : ℕ) (r : Row) → k < l.row-index → IsGrown l.p (get_or l.initial.rows k r) (get_or l.rows k r);
  rest : (k : ℕ) (r : Row) → l.row-index ≤ k → get_or l.rows k r ≡ get_or l.initial.rows k r;
}
