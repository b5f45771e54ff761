use Rattle.std.proofs.Common.{◌++◌, ◌∙◌, List, ℕ, ap}
use Rattle.std.specs.Int.{to_be_bytes, w64}
use Rattle.shard_format.proofs.RowRecords.{behind}
use Rattle.shard_format.proofs.rows.row_at.Goals as goal

pub returns-clause-some : goal.returns-clause-some
returns-clause-some c =
    let p = c.in-Some.found in
    let taken = c.in-Some.ensures.some in
    let word = to_be_bytes w64 p.row.mask in
    let row = p.row.bytes.now in
    let rest = p.stored.now in
    let numbers = c.deref.ensures.value ∙ c.in_ok-numbers.ensures in
    (taken.0, (rest, taken.1 ∙ behind c.deref.result.now word row rest ∙ ap (λ (s : List ℕ). (s ++ (word ++ row)) ++ rest) numbers))
