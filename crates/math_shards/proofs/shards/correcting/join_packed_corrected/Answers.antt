use Rattle.std.proofs.Common.{arith, ◌∙◌, sym}
use Rattle.std.proofs.lemmas.Result.{err_from_is_err_and}
use Rattle.math_shards.specs.Correcting.{CorrectTo, settled_indices}
use Rattle.math_shards.proofs.DueErrors.{due_beside}
use Rattle.math_shards.proofs.JoinedCorrection.{joined_corrected}
use Rattle.math_shards.proofs.JoinedRows.{join_of_fit}
use Rattle.math_shards.proofs.SoundShards.{rows_of_sound}
use Rattle.math_shards.proofs.shards.correcting.join_packed_corrected.Goals as goal

pub fitted_elements-requires : goal.fitted_elements-requires
fitted_elements-requires c = rows_of_sound c.in-Some.first.now c.args.shards.now c.new-layout.result c.new-layout.ensures.total (c.new-layout.ensures.width ∙ c.len.ensures ∙ c.in-Some.first.now.cells.ok.0) c.in_ok-check_numbers.ensures.ok

pub returns-in_err-check_numbers-clause-err : goal.returns-in_err-check_numbers-clause-err
returns-in_err-check_numbers-clause-err c = grind arith

pub returns-in_err-joined-clause-err : goal.returns-in_err-joined-clause-err
returns-in_err-joined-clause-err c =
    let q = err_from_is_err_and c.from_residual-in_err-joined.result c.from_residual-in_err-joined.ensures.1 in
    let item = c.in-Some.ensures.item in
    let e = c.in_err-joined.field-0.0 in
    rw (q.1, q.2) (due_beside (λ _. ⊥) settled_indices CorrectTo c.in-Some.first.now c.args.shards.now e item.3.0 (sym item.1) c.in_err-joined.ensures.err)

pub returns-in-Some-2-clause-ok : goal.returns-in-Some-2-clause-ok
returns-in-Some-2-clause-ok c =
    let first = c.in-Some.first.now in
    let shards = c.args.shards.now in
    let sound = c.in_ok-check_numbers.ensures.ok in
    let found = rw (c.new-layout.ensures.min, c.new-layout.ensures.total) at (rw c.in-Some-2.is at c.in_ok-data.ensures.some) in (
      found.0,
      found.1,
      rw c.new.ensures.items (joined_corrected found.0 shards
          (join_of_fit found.0 first.min first.total shards (λ i d l. (sound i d l).0.least) (λ i d l. (sound i d l).0.most) found.2)),
    )
