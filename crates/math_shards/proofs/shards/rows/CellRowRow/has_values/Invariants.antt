use Rattle.std.proofs.Common.{◌↔◌, drop, map, take}
use Rattle.std.specs.Bool.{IsTrue}
use Rattle.std.specs.List.{AllZip}
use Rattle.math_fields.specs.Elements.{residue, same}
use Rattle.math_shards.proofs.shards.rows.CellRowRow.has_values.Given as goal

-- all were equal so far exactly where the values so far are the elements of the cells
abbrev pub invariant-loop-i : goal.invariant-loop-i
invariant-loop-i g l = IsTrue l.equal ↔ AllZip same (take l.i l.values) (take l.i (drop l.from (map residue (map g.C.Cell.number l.self.cells.now))))
