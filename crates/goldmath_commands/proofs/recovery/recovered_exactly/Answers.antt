use Rattle.std.proofs.Common.{◌∙◌}
use Rattle.std.proofs.lemmas.Result.{err_from_is_err_and}
use Rattle.goldmath_commands.proofs.ReadMatrices.{scan_rows-read, encoded}
use Rattle.goldmath_commands.proofs.PlacedRows.{has_domain}
use Rattle.goldmath_commands.proofs.RecoveredMatrices.{encodes}
use Rattle.goldmath_commands.proofs.recovery.recovered_exactly.Goals as goal

pub returns-in_err-check_size-clause-exact : goal.returns-in_err-check_size-clause-exact
returns-in_err-check_size-clause-exact c =
    let m = c.in_ok-matrix.matrix in
    let taken = c.in_ok-matrix.ensures.taken in
    let q = err_from_is_err_and c.from_residual-in_err-check_size.result c.from_residual-in_err-check_size.ensures.1 in
    rw (q.1, q.2, scan_rows-read c.args.recovery.now.lg _ c.args.bytes.now m taken.0.rows_counted taken.0.cols_counted taken.1 c.in_ok-matrix.ensures.exact) c.in_err-check_size.ensures

pub returns-clause-answer : goal.returns-clause-answer
returns-clause-answer c =
    let lg = c.args.recovery.now.lg in
    let rows = c.args.recovery.now.rows.items in
    let m = c.in_ok-matrix.matrix in
    let v = c.in_ok-place_rows.field-0 in
    let q = c.in_ok-recover.field-0 in
    let taken = c.in_ok-matrix.ensures.taken in (
      m,
      encoded c.args.bytes.now m taken.0 taken.1,
      encodes lg rows m v q c.write.new.out.items c.in_ok-place_rows.ensures c.in_ok-recover.ensures.size c.args.recovery.now.below
          (λ k t. c.in_ok-recover.ensures.fits lg k c.in_ok-place_rows.ensures.size.0 t)
          (λ k t p e f. c.in_ok-recover.ensures.only lg k c.in_ok-place_rows.ensures.size.0 t p e f)
          (rw (c.new-out.ensures.items, c.data-polynomials.ensures) at c.in_ok-write.ensures.ok),
    )

pub returns-clause-exact : goal.returns-clause-exact
returns-clause-exact c =
    let m = c.in_ok-matrix.matrix in
    let taken = c.in_ok-matrix.ensures.taken in
    scan_rows-read c.args.recovery.now.lg _ c.args.bytes.now m taken.0.rows_counted taken.0.cols_counted taken.1 c.in_ok-matrix.ensures.exact ∙ c.in_ok-check_size.ensures

pub recover-requires : goal.recover-requires
recover-requires c = record { domain = has_domain c.args.recovery.now.lg c.in_ok-place_rows.field-0.matrix.rows c.args.recovery.now.small c.in_ok-place_rows.ensures.size.0 }
