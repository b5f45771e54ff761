use Rattle.std.proofs.Common.{◌*◌, arith}
use Rattle.std.proofs.lemmas.Bool.{eq-eqb, ne_eqb}
use Rattle.math_fields.proofs.SixteenCells.{sixteen_back, sixteen_forward}
use Rattle.math_fields.proofs.goldilocks.sixteen.turn_sixteen.Goals as goal

pub turn_all-requires-clause-odd : goal.turn_all-requires-clause-odd
turn_all-requires-clause-odd g c = c.requires.odd c.args.place c.requires.some (omega (arith, c.requires.inside))

pub turn_each-requires-clause-odd : goal.turn_each-requires-clause-odd
turn_each-requires-clause-odd g c = λ k l. c.requires.odd _ (omega (arith, c.requires.some)) (omega (arith, c.requires.inside, l))

pub turn_each-requires-else-this-ne0-clause-odd : goal.turn_each-requires-else-this-ne0-clause-odd
turn_each-requires-else-this-ne0-clause-odd g c = λ k l. c.requires.odd _ (omega (arith, c.requires.some)) (omega (arith, c.requires.inside, l))

pub turn_all-requires-else-this-ne0-clause-odd : goal.turn_all-requires-else-this-ne0-clause-odd
turn_all-requires-else-this-ne0-clause-odd g c = c.requires.odd c.args.place c.requires.some (omega (arith, c.requires.inside))

pub returns-then-this-ne0 : goal.returns-then-this-ne0
returns-then-this-ne0 g c =
    let forward = ne_eqb g.row.FORWARD 0 c.if-this-ne0.true in
    rw forward
    (sixteen_forward c.args.roots.now c.args.place c.args.cells.now c.turn_all.new.cells c.turn_each.new.cells (omega (arith, c.turn_all.auto.cells, c.requires.size))
    (rw forward at c.turn_all.ensures) (rw forward at c.turn_each.ensures))

pub returns-else-this-ne0 : goal.returns-else-this-ne0
returns-else-this-ne0 g c =
    let back = eq-eqb g.row.FORWARD 0 c.if-this-ne0.false in
    rw back
    (sixteen_back c.args.roots.now c.args.place c.args.cells.now c.turn_each-else-this-ne0.new.cells c.turn_all-else-this-ne0.new.cells (omega (arith, c.turn_each-else-this-ne0.auto.cells, c.requires.size))
    (rw back at c.turn_each-else-this-ne0.ensures) (rw back at c.turn_all-else-this-ne0.ensures))
