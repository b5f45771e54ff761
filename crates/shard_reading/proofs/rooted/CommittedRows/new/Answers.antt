use Rattle.shard_reading.proofs.RowsUnder.{parity_leaves}
use Rattle.shard_reading.proofs.rooted.CommittedRows.new.Goals as goal

pub invariant_of-result : goal.invariant_of-result
invariant_of-result c =
    let committed = c.in_ok-committed in
    record {
      count = committed.ensures.count;
      leaves = parity_leaves c.args.split committed.committed.commitment.mask c.args.bytes.now c.new.new.parity.items committed.committed.commitment.tree committed.ensures.tree committed.ensures.room;
    }
