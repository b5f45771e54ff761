use Rattle.std.proofs.Common.{◌≡◌, ◌∙◌, ◌⊎◌, ◌≤◌, ◌++◌, sym, subst, arith}
use Rattle.std.proofs.lemmas.List.{length-take-le, map-id, take_all}
use Rattle.std.proofs.lemmas.Result.{err_from_is_err_and}
use Rattle.math_values.specs.Values.{AreElements}
use Rattle.math_shards.proofs.shards.joining_rows.join_rows.Goals as goal

pub join_cells-requires-clause-below : goal.join_cells-requires-clause-below
join_cells-requires-clause-below c = subst AreElements (sym (map-id c.args.cells.now)) c.requires.below

pub returns-in_err-data-clause-due : goal.returns-in_err-data-clause-due
returns-in_err-data-clause-due c = grind (arith, err_from_is_err_and, map-id)

pub returns-then-count-out-clause-none : goal.returns-then-count-out-clause-none
returns-then-count-out-clause-none c = grind (arith, map-id)

pub returns-clause-some : goal.returns-clause-some
returns-clause-some c = grind (arith, length-take-le, take_all, map-id)
