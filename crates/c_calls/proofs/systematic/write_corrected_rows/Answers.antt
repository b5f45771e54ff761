use Rattle.std.proofs.Common.{◌≡◌, ◌∙◌, inr, ℕ, List, ◌++◌, length, drop, refl, sym, ap₂, subst, arith}
use Rattle.std.proofs.lemmas.List.{length-take}
use Rattle.std.proofs.lemmas.Result.{err_from_is_err_and}
use Rattle.c_calls.specs.SystematicRows.{AreRowsOf}
use Rattle.c_calls.proofs.AlikeShards.{rising_few}
use Rattle.c_calls.proofs.SystematicRows.{not-of-corrected}
use Rattle.c_calls.proofs.systematic.write_corrected_rows.Goals as goal

pub returns-in_err-found-clause-others : goal.returns-in_err-found-clause-others
returns-in_err-found-clause-others c = grind (arith, err_from_is_err_and, not-of-corrected)

pub returns-in_default-clause-due : goal.returns-in_default-clause-due
returns-in_default-clause-due c =
    let lie : AreRowsOf c.args.held.now c.deref.result.now = subst (AreRowsOf c.args.held.now) (sym c.deref.ensures.value) c.in_ok-rows.ensures in
    let found = c.in_ok-found.ensures in
    let none = rw c.in_default.is at found.none in
    inr (c.deref.result.now, lie, inr (refl, record { asked = found.asked; enough = found.enough; none = none }))

pub slice_bounds-copy_from_slice-end : goal.slice_bounds-copy_from_slice-end
slice_bounds-copy_from_slice-end c = grind (arith, rising_few)

pub slice_bounds-copy_from_slice-end-2 : goal.slice_bounds-copy_from_slice-end-2
slice_bounds-copy_from_slice-end-2 c = grind (arith, rising_few, length-take)

pub copy_from_slice-requires : goal.copy_from_slice-requires
copy_from_slice-requires c = grind (arith, rising_few, length-take)

pub returns-clause-ok : goal.returns-clause-ok
returns-clause-ok c =
    let lie : AreRowsOf c.args.held.now c.deref.result.now = subst (AreRowsOf c.args.held.now) (sym c.deref.ensures.value) c.in_ok-rows.ensures in
    let some = rw c.in-Some.is at c.in_ok-found.ensures.some in
    let few = rising_few c.in-Some.found.items (length c.deref.result.now) some.1.left_out.rising some.1.left_out.below in
    let found = c.in_ok-found.ensures in
    let positions = c.in-Some.found.items in
    let many : c.len-many.result ≡ length positions = omega (arith, c.len-many.ensures) in (
      c.deref.result.now,
      lie,
      (
        positions,
        record { asked = found.asked; enough = found.enough; codeword = some.0; corrected = some.1; written = some.2 },
        many,
        (omega (arith, c.requires.room, lie.count, few), ap₂ (λ (xs : List ℕ) (k : ℕ). xs ++ drop k c.args.left_out.now) (c.copy_from_slice.ensures.after ∙ c.deref-2.ensures.value) many),
      ),
    )
