use Rattle.std.proofs.Common.{◌≡◌, ◌∙◌, ◌*◌, ◌+◌, ◌≤◌, ◌<◌, arith}
use Rattle.std.proofs.lemmas.List.Elements.{length_all_zip}
use Rattle.math_transforms.proofs.WrittenCells.{row-within, cells-between}
use Rattle.math_ntt.proofs.ntt.evaluations.EvaluationVector.fill_row.Goals as goal

pub returns-clause-ok : goal.returns-clause-ok
returns-clause-ok g c = grind (arith, length_all_zip, row-within, cells-between)
