use Rattle.shard_reading.proofs.RowsUnder.{used_under}
use Rattle.shard_reading.proofs.used_rows.UsedRows.row.Goals as goal

pub returns : goal.returns
returns c =
    used_under c.args.self.now.root c.in_ok-is_under.is_under c.is_used.result c.in_ok-rows.rows c.args.self.now.records.split.header c.args.block.bytes c.in-Row.row.shard
    c.in_ok-rows.ensures c.in_ok-is_under.ensures c.is_used.ensures c.if-not-is_used.false
