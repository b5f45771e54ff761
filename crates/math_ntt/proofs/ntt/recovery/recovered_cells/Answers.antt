use Rattle.std.proofs.Common.{◌≡◌, ◌∙◌, ◌+◌, ◌*◌, ◌^◌, length, false, arith}
use Rattle.std.proofs.lemmas.List.{get_or-replicate}
use Rattle.std.proofs.lemmas.Nat.{mul-add-lt}
use Rattle.math_theory.proofs.recovery.RecoveredColumns.{fits-none, fits-all}
use Rattle.math_transforms.specs.DomainValues.{matrix_of}
use Rattle.math_transforms.specs.Matrices.{column_of}
use Rattle.math_transforms.proofs.DomainSteps.{column-cell}
use Rattle.math_transforms.proofs.MatrixRows.{length-column}
use Rattle.math_transforms.proofs.MissingPlaces.{count_both, all_missing}
use Rattle.math_transforms.proofs.PowersOfTwo.{power_of_two-same}
use Rattle.math_ntt.proofs.RecoveryOutcomes.{exact-transform, refusal-none, refusal-transform}
use Rattle.math_ntt.proofs.AddedWork.{on-err}
use Rattle.math_ntt.proofs.ntt.recovery.recovered_cells.Goals as goal

pub recover_cells-requires-clause-missing : goal.recover_cells-requires-clause-missing
recover_cells-requires-clause-missing g c = grind (arith, count_both)

pub returns-then-filled-size_of-clause-recovered : goal.returns-then-filled-size_of-clause-recovered
returns-then-filled-size_of-clause-recovered g c =
    let F = g.met.F in
    let E = F.Object.equality in
    let zero = g.F.Additive.zero in
    let lg = c.args.lg in
    let n = 2 ^ lg in
    let cols = c.args.cols in
    let cells = matrix_of n cols c.args.cells.now in
    let out = matrix_of n cols c.interpolate_cells-then-filled-size_of.new.cells in
    let filled = c.count_non_vanishing-filled.ensures in
    let size = c.size_of.ensures in
    record {
      fits = λ m k e b. rw (← power_of_two-same lg m e)
          (fits-all E F.Additive.group F.Multiplicative.commutes F.Ring.ring F.Field.field (g.F.FieldNTT.root lg) n (F.FieldNTT.roots.order lg c.requires.lg.domain) (column_of zero cells k)
          (column_of zero out k) c.args.points.now
          (length-column zero cells k) (length-column zero out k) (omega arith)
          (λ i l. rw (column-cell zero n cols k i c.args.cells.now l b) (E.symmetric _ _ (c.in_ok-interpolate_cells-2.ensures.values i k l b))));
      exact = exact-transform _ _ _ _ (λ some missing. omega (arith, missing, count_both c.args.points.now)) c.in_ok-interpolate_cells-2.ensures.work.counted
          c.in_ok-interpolate_cells-2.ensures.work.bounded.root_products;
    }

pub returns-then-filled-eq0-clause-recovered : goal.returns-then-filled-eq0-clause-recovered
returns-then-filled-eq0-clause-recovered g c =
    let F = g.met.F in
    let E = F.Object.equality in
    let zero = g.F.Additive.zero in
    let lg = c.args.lg in
    let n = 2 ^ lg in
    let cols = c.args.cols in
    let cells = matrix_of n cols c.args.cells.now in
    let out = matrix_of n cols c.interpolate_cells.new.cells in
    let filled = c.count_non_vanishing-filled.ensures in
    let none = all_missing c.args.points.now n c.requires.points (omega arith) in
    let long : length c.zeros.new.cells ≡ n * cols = c.zeros.auto.cells ∙ c.requires.size in
    record {
      fits = λ m k e b. rw (← power_of_two-same lg m e)
          (fits-none E F.Additive.group F.Multiplicative.commutes F.Ring.ring F.Field.field (g.F.FieldNTT.root lg) n (F.FieldNTT.roots.order lg c.requires.lg.domain) (column_of zero cells k)
          (column_of zero out k) c.args.points.now
          (length-column zero cells k) (length-column zero out k) (λ j l. rw none (get_or-replicate n j false false l))
          (λ i l. E.transitive _ _ _ (E.symmetric _ _ (c.in_ok-interpolate_cells.ensures.values i k l b))
          (c.in_ok-zeros.ensures (i * cols + k) zero (omega (arith, long, mul-add-lt i cols k n l b)))));
      exact = exact-transform _ _ _ _ (λ some missing. omega (arith, some)) c.in_ok-interpolate_cells.ensures.work.counted c.in_ok-interpolate_cells.ensures.work.bounded.root_products;
    }

pub returns-in_err-zeros-clause-refused : goal.returns-in_err-zeros-clause-refused
returns-in_err-zeros-clause-refused g c = on-err c.from_residual.result (refusal-none _ _ _ _)

pub returns-in_err-interpolate_cells-clause-refused : goal.returns-in_err-interpolate_cells-clause-refused
returns-in_err-interpolate_cells-clause-refused g c = grind arith

pub returns-in_err-interpolate_cells-2-clause-refused : goal.returns-in_err-interpolate_cells-2-clause-refused
returns-in_err-interpolate_cells-2-clause-refused g c = grind (arith, on-err, refusal-transform, count_both)
