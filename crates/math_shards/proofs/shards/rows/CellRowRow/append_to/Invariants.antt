use Rattle.std.proofs.Common.{◌≡◌, ◌++◌, map, take}
use Rattle.math_fields.specs.Elements.{residue}
use Rattle.math_shards.proofs.shards.rows.CellRowRow.append_to.Given as goal

-- behind the items stand the elements of the cells so far
abbrev pub invariant-loop-cell : goal.invariant-loop-cell
invariant-loop-cell g l = l.out.items ≡ l.initial.out.items ++ map residue (take l.cell-index (map g.C.Cell.number l.self.cells.now))
