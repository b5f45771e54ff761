use Rattle.std.proofs.Common.{◌∙◌, ◌-◌, ◌*◌, ap, arith, drop, sym, take}
use Rattle.shard_reading.proofs.RowsUnder.{same_bytes, same_digests, shard_under}
use Rattle.shard_reading.proofs.rooted.CommittedRows.contains.Goals as goal

pub returns : goal.returns
returns c = λ is_one.
    let rows = c.args.self.now in
    let split = rows.split in
    let shard = c.args.shard.now in
    let tree = rows.committed.commitment.tree in
    let row = same_bytes shard.cells.now c.row_in-row.result.now c.if-ne.ensures ∙ c.row_in-row.ensures
    ∙ ap (λ parity. take (8 * split.width) (drop ((shard.index - split.min) * (8 * split.width)) parity)) c.deref.ensures.value in
    let path = sym (same_digests c.as_slice.result.now shard.path.now c.eq.result c.eq.ensures is_one) ∙ c.as_slice.ensures.value
    ∙ c.in_ok-path.ensures.path (omega (arith, rows.count)) in
    shard_under split rows.committed.commitment.mask rows.parity.items tree shard rows.count rows.leaves c.if-shard-self.false c.if-self-shard.false c.if-shard-self-2.false row path
