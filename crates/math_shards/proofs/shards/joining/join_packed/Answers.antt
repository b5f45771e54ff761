use Rattle.std.proofs.Common.{arith, ◌∙◌, sym}
use Rattle.std.proofs.lemmas.Result.{err_from_is_err_and}
use Rattle.math_shards.specs.Joining.{HaveConflict}
use Rattle.math_splitting.specs.Shards.{JoinTo, distinct_indices}
use Rattle.math_shards.proofs.DueErrors.{due_beside, rows_due}
use Rattle.math_shards.proofs.JoinedRows.{join_of_fit}
use Rattle.math_shards.proofs.SoundShards.{rows_of_sound}
use Rattle.math_shards.proofs.shards.joining.join_packed.Goals as goal

pub joined_elements-requires : goal.joined_elements-requires
joined_elements-requires c = rows_of_sound c.in-Some.first.now c.args.shards.now c.new-layout.result c.new-layout.ensures.total (c.new-layout.ensures.width ∙ c.len.ensures ∙ c.in-Some.first.now.cells.ok.0) c.in_ok-check_numbers.ensures.ok

pub returns-in_err-check_numbers-clause-err : goal.returns-in_err-check_numbers-clause-err
returns-in_err-check_numbers-clause-err c = grind arith

pub returns-in_err-packed-clause-err : goal.returns-in_err-packed-clause-err
returns-in_err-packed-clause-err c =
    let q = err_from_is_err_and c.from_residual-in_err-packed.result c.from_residual-in_err-packed.ensures.1 in
    let item = c.in-Some.ensures.item in
    let first = c.in-Some.first.now in
    let shards = c.args.shards.now in
    let e = c.in_err-packed.field-0.0 in
    let due = rows_due first shards e c.in_ok-check_numbers.ensures.ok item.3.0 (rw (c.new-layout.ensures.min, c.new-layout.ensures.total) at c.in_err-packed.ensures.err) in
    rw (q.1, q.2) (due_beside HaveConflict distinct_indices JoinTo first shards e item.3.0 (sym item.1) due)

pub returns-clause-ok : goal.returns-clause-ok
returns-clause-ok c =
    let first = c.in-Some.first.now in
    let shards = c.args.shards.now in
    let sound = c.in_ok-check_numbers.ensures.ok in
    let found = rw (c.new-layout.ensures.min, c.new-layout.ensures.total) at c.in_ok-packed.ensures.ok in
    (found.0, found.1, join_of_fit found.0 first.min first.total shards (λ i d l. (sound i d l).0.least) (λ i d l. (sound i d l).0.most) found.2)
