use Rattle.std.proofs.Common.{◌≡◌, ◌+◌, ◌-◌, ◌*◌, ◌≤◌, length, arith}
use Rattle.math_transforms.proofs.WrittenCells.{row-within}
use Rattle.math_restoring.proofs.PlacedRows.{taken-more, untaken-more}
use Rattle.math_restoring.proofs.restoring.take_rows.Goals as goal

pub loop-r-preserved : goal.loop-r-preserved
loop-r-preserved c =
    let r = c.loop-r.r in
    let cols = c.args.cols in
    let width = c.args.width in
    let from = c.args.from in
    let n = r * width + from + cols - (r * width + from) in
    let m = r * cols + cols - r * cols in
    let e : n ≡ cols = omega arith in
    let q : m ≡ cols = omega arith in
    let inside : r * width + width ≤ length c.loop-r.cells = omega (arith, row-within r c.args.count width c.loop-r-test.true, c.requires.size, c.loop-r.auto.cells) in
    let there : r * cols + cols ≤ length c.args.room.now = omega (arith, row-within r c.args.count cols c.loop-r-test.true, c.requires.room) in
    rw c.copy_from_slice.ensures.after record {
      taken = taken-more width from cols r n m c.args.room.now c.args.cells.now c.loop-r.cells e q c.requires.within inside there c.loop-r.invariant.taken c.loop-r.invariant.left;
      left = untaken-more width from cols r n m c.args.room.now c.args.cells.now c.loop-r.cells e q c.requires.within inside there c.loop-r.invariant.left;
    }
