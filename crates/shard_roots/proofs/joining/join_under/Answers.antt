use Rattle.std.proofs.Common.{◌≤◌, ◌∙◌, ◌^◌, ap, arith, subst}
use Rattle.std.proofs.lemmas.Result.{err_from_is_err_and}
use Rattle.sha2.specs.Sha512.{sha512_256}
use Rattle.shard_roots.specs.Joining.{HaveMask, rows_of}
use Rattle.shard_roots.proofs.Joined.{joined, masks_due, rows_due}
use Rattle.shard_roots.proofs.joining.join_under.Goals as goal

pub returns-in_err-mask-clause-due : goal.returns-in_err-mask-clause-due
returns-in_err-mask-clause-due c =
    let q = err_from_is_err_and c.from_residual-in_err-mask.result c.from_residual-in_err-mask.ensures.1 in
    let few : c.args.split.total ≤ 2 ^ 16 = omega arith in
    rw (q.1, q.2) (masks_due sha512_256 c.args.split c.args.top.now c.args.shards.now c.in_ok-selection.selection.kept.items c.in_ok-selection.ensures.kept c.deref.result.now
    c.in_err-mask.field-0.0 few c.deref.ensures.value c.in_err-mask.ensures.err)

pub returns-in_err-decode_rows-clause-due : goal.returns-in_err-decode_rows-clause-due
returns-in_err-decode_rows-clause-due c =
    let q = err_from_is_err_and c.from_residual-in_err-decode_rows.result c.from_residual-in_err-decode_rows.ensures.1 in
    let few : c.args.split.total ≤ 2 ^ 16 = omega arith in
    let one = subst (HaveMask c.in_ok-mask.mask) c.deref.ensures.value c.in_ok-mask.ensures.ok in
    let are = c.deref-3.ensures.value ∙ c.in_ok-rows.ensures ∙ ap rows_of c.deref-2.ensures.value in
    rw (q.1, q.2) (rows_due sha512_256 c.args.split c.args.top.now c.args.shards.now c.in_ok-selection.selection.kept.items c.in_ok-selection.ensures.kept
    c.in_ok-mask.mask c.deref-3.result.now c.in_err-decode_rows.field-0.0 few one are c.in_err-decode_rows.ensures.due)

pub returns-clause-ok : goal.returns-clause-ok
returns-clause-ok c =
    let one = subst (HaveMask c.in_ok-mask.mask) c.deref.ensures.value c.in_ok-mask.ensures.ok in
    let are = c.deref-3.ensures.value ∙ c.in_ok-rows.ensures ∙ ap rows_of c.deref-2.ensures.value in
    joined sha512_256 c.args.split c.args.top.now c.args.shards.now c.in_ok-selection.selection.kept.items c.in_ok-selection.ensures.kept
    c.in_ok-mask.mask c.deref-3.result.now c.decode_rows.new.block c.in_ok-decode_rows.ensures.ok.2 one are (c.decode_rows.auto.block ∙ c.requires)
    c.in_ok-decode_rows.ensures.ok.0 c.in_ok-decode_rows.ensures.ok.1
