use Rattle.std.proofs.Common.{◌∙◌, subst, sym}
use Rattle.std.proofs.lemmas.Result.{err_from_is_err_and}
use Rattle.c_calls.specs.RootedShards.{AreCommitted}
use Rattle.c_calls.proofs.roots.write_commitment.Goals as goal

pub returns-in_err-made-clause-due : goal.returns-in_err-made-clause-due
returns-in_err-made-clause-due c =
    let q = err_from_is_err_and c.from_residual.result c.from_residual.ensures.1 in
    rw (q.1, q.2) (c.in-Some.split, c.in-Some.ensures.some, c.in_err-made.ensures.due)

pub returns-clause-ok : goal.returns-clause-ok
returns-clause-ok c =
    let split = c.in-Some.split in
    let block = c.args.block.now in
    let made = c.in_ok-made.made in
    let parity = c.copy_from_slice.ensures.after ∙ c.deref.ensures.value in
    let paths = c.copy_from_slice-2.ensures.after ∙ c.deref-2.ensures.value in (
      split,
      c.in-Some.ensures.some,
      subst (λ ds. AreCommitted split block made.mask c.copy_from_slice.new.self made.root ds) (sym paths)
          (subst (λ bs. AreCommitted split block made.mask bs made.root made.paths.items) (sym parity) c.in_ok-made.ensures.ok),
    )
