use Rattle.std.proofs.Common.{◌-◌, ◌++◌, ◌∙◌, ap, drop, take, arith}
use Rattle.shard_roots.proofs.MadeRecords.{resized_row}
use Rattle.shard_roots.proofs.records.row.Goals as goal

pub returns : goal.returns
returns c =
    let part = c.in_ok-extend_from_slice.ensures.items ∙ ap (λ xs. xs ++ take (c.min-2.result - c.min.result) (drop c.min.result c.args.bytes.now)) c.in_ok-row.ensures.items in
    resized_row c.args.n c.args.bytes.now c.extend_from_slice.new.self.items c.args.i c.min.result c.min-2.result c.min.ensures c.min-2.ensures part c.resize.new.self.items _ (omega arith)
    c.in_ok-resize.ensures.items
