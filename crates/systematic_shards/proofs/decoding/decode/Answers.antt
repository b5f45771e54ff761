use Rattle.std.proofs.Common.{◌≡◌, ◌∙◌, ◌-◌, ◌*◌, ◌<◌, ℕ, inl, inr, [], length, refl, ap, sym, subst, arith}
use Rattle.std.specs.List.{All, range_with_len}
use Rattle.std.proofs.lemmas.List.FromFn.{length-range_with_len}
use Rattle.std.proofs.lemmas.Result.{err_from_is_err_and}
use Rattle.systematic_shards.specs.Shards.{AreRowsAt, AreWithinAt, BelongTo, IsElementIn, IsRowOf}
use Rattle.systematic_shards.proofs.Held.{all-kept, enough-kept}
use Rattle.systematic_shards.proofs.Ranges.{range-rising}
use Rattle.systematic_shards.proofs.decoding.decode.Goals as goal

pub returns-in_err-check_rows-clause-due : goal.returns-in_err-check_rows-clause-due
returns-in_err-check_rows-clause-due g c =
    let q = err_from_is_err_and c.from_residual.result c.from_residual.ensures.1 in
    rw (q.1, q.2) (inl (c.in_err-check_rows.ensures.err c.args.code.mask []))

pub returns-in_err-held-clause-due : goal.returns-in_err-held-clause-due
returns-in_err-held-clause-due g c =
    let q = err_from_is_err_and c.from_residual-in_err-held.result c.from_residual-in_err-held.ensures.1 in
    rw (q.1, q.2) (inl (c.in_err-held.ensures.err [] (c.in_ok-check_rows.ensures.some, c.in_ok-check_rows.ensures.ok, λ k d l. absurd (omega (arith, l)))))

pub write_wanted-requires-clause-elements : goal.write_wanted-requires-clause-elements
write_wanted-requires-clause-elements g c =
    let code = c.args.code in
    let word = g.M.WordMemory.word in
    let H = c.in_ok-held.ensures.ok in
    all-kept word code.split.width c.args.rows.now c.in_ok-held.held.rows.items H.kept
    (λ row. (k : ℕ) → k < code.split.width → IsElementIn code.split.min code.mask row.index (word row.cells.now k)) H.elements

pub write_wanted-requires-clause-below : goal.write_wanted-requires-clause-below
write_wanted-requires-clause-below g c =
    let split = c.args.code.split in
    subst (λ xs. All (λ i. i < split.total) xs) (sym (c.deref.ensures.value ∙ c.in_ok-wanted.ensures)) (range-rising 0 (split.min - 0) split.total (omega (arith, split.within))).1

pub write_wanted-requires-clause-inside : goal.write_wanted-requires-clause-inside
write_wanted-requires-clause-inside g c =
    let split = c.args.code.split in
    let many : length c.deref.result.now ≡ split.min = ap length (c.deref.ensures.value ∙ c.in_ok-wanted.ensures) ∙ length-range_with_len 0 (split.min - 0) ∙ (let e : split.min - 0 ≡ split.min = omega arith in e) in
    omega (arith, ap (λ n. n * split.width) many, split.few)

pub returns-then-not-branch-clause-due : goal.returns-then-not-branch-clause-due
returns-then-not-branch-clause-due g c =
    let word = g.M.WordMemory.word in
    let code = c.args.code in
    let split = code.split in
    let rows = c.args.rows.now in
    let held = c.in_ok-held.held.rows.items in
    let H = c.in_ok-held.ensures.ok in
    let a = H.codeword.0 in
    let of_held : BelongTo word split code.mask held a = all-kept word split.width rows held H.kept (λ row. IsRowOf split code.mask a row.index (word row.cells.now)) H.codeword.2 in
    let wanted_are = c.deref.ensures.value ∙ c.in_ok-wanted.ensures ∙ ap (range_with_len 0) (let e : split.min - 0 ≡ split.min = omega arith in e) in
    inr (
      refl,
      (c.in_ok-check_rows.ensures.some, c.in_ok-check_rows.ensures.ok, λ k d l. absurd (omega (arith, l))),
      H.elements,
      enough-kept word split.width rows held H.kept split.min H.indexed.enough,
      (
        a,
        H.codeword.1,
        H.codeword.2,
        λ within.
            c.in_ok-write_wanted.ensures.no c.if-not-branch.true a H.codeword.1 of_held
            (subst (λ n. AreWithinAt n split code.mask a c.deref.result.now) (sym c.requires) (subst (AreWithinAt split.size split code.mask a) (sym wanted_are) within)),
      ),
    )

pub returns-clause-ok : goal.returns-clause-ok
returns-clause-ok g c =
    let word = g.M.WordMemory.word in
    let code = c.args.code in
    let split = code.split in
    let rows = c.args.rows.now in
    let held = c.in_ok-held.held.rows.items in
    let H = c.in_ok-held.ensures.ok in
    let a = H.codeword.0 in
    let of_held : BelongTo word split code.mask held a = all-kept word split.width rows held H.kept (λ row. IsRowOf split code.mask a row.index (word row.cells.now)) H.codeword.2 in
    let wanted_are = c.deref.ensures.value ∙ c.in_ok-wanted.ensures ∙ ap (range_with_len 0) (let e : split.min - 0 ≡ split.min = omega arith in e) in (
      a,
      H.codeword.1,
      H.codeword.2,
      subst (λ is. AreRowsAt split code.mask a is (word c.write_wanted.new.out)) wanted_are (c.in_ok-write_wanted.ensures.yes c.if-not-branch.false a H.codeword.1 of_held),
    )

pub returns-clause-enough : goal.returns-clause-enough
returns-clause-enough g c =
    let H = c.in_ok-held.ensures.ok in
    enough-kept g.M.WordMemory.word c.args.code.split.width c.args.rows.now c.in_ok-held.held.rows.items H.kept c.args.code.split.min H.indexed.enough
