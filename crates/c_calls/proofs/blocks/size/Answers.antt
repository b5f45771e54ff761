use Rattle.std.proofs.Common.{◌≡◌, ◌*◌, ap, arith}
use Rattle.c_calls.proofs.ShardBytes.{only_shard_size, size_by_cells}
use Rattle.c_calls.proofs.blocks.size.Goals as goal

pub returns-in-Some-clause-some : goal.returns-in-Some-clause-some
returns-in-Some-clause-some c =
    size_by_cells c.args.bytes c.args.min c.args.total c.cells_for-cells.result c.cells_for-cells.ensures (omega (arith, c.in-Some.ensures, c.if-all-lt-BYTES.true))

pub returns-in_default-clause-none : goal.returns-in_default-clause-none
returns-in_default-clause-none c = λ n h.
    let e : c.args.total * n ≡ c.args.total * (8 * c.cells_for-cells.result) =
    ap (λ m. c.args.total * m) (only_shard_size c.args.bytes c.args.min c.args.total c.cells_for-cells.result n c.cells_for-cells.ensures h) in
    absurd (omega (arith, e, h.room, c.in-Some.ensures, c.if-all-lt-BYTES.false))

pub returns-in_default-2-clause-none : goal.returns-in_default-2-clause-none
returns-in_default-2-clause-none c = λ n h.
    let e : c.args.total * n ≡ c.args.total * (8 * c.cells_for-cells.result) =
    ap (λ m. c.args.total * m) (only_shard_size c.args.bytes c.args.min c.args.total c.cells_for-cells.result n c.cells_for-cells.ensures h) in
    absurd (omega (arith, e, h.room, c.in_default.ensures))
