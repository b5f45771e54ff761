use Rattle.std.proofs.Common.{◌*◌, ◌<◌, ℕ, length, get_or}
use Rattle.std.proofs.lemmas.Result.{err_from_is_err_and}
use Rattle.systematic_shards.specs.Shards.{AreWithinAt, BelongTo, IsElementIn, IsRowOf, word_in}
use Rattle.systematic_shards.proofs.Elements.{word-fits}
use Rattle.systematic_shards.proofs.Held.{all-kept, enough-kept}
use Rattle.systematic_shards.proofs.Ranges.{room-for}
use Rattle.systematic_shards.proofs.rebuilding.rebuild.Goals as goal

pub returns-in_err-check_rows-clause-due : goal.returns-in_err-check_rows-clause-due
returns-in_err-check_rows-clause-due g c =
    let q = err_from_is_err_and c.from_residual.result c.from_residual.ensures.1 in
    rw (q.1, q.2) (c.in_err-check_rows.ensures.err c.args.code.mask c.args.wanted.now)

pub returns-in_err-held-clause-due : goal.returns-in_err-held-clause-due
returns-in_err-held-clause-due g c =
    let q = err_from_is_err_and c.from_residual-in_err-held.result c.from_residual-in_err-held.ensures.1 in
    rw (q.1, q.2) (c.in_err-held.ensures.err c.args.wanted.now (c.in_ok-check_rows.ensures.some, c.in_ok-check_rows.ensures.ok, c.are_below.ensures.0 c.if-not-are_below.false))

pub write_wanted-requires-clause-elements : goal.write_wanted-requires-clause-elements
write_wanted-requires-clause-elements g c =
    let code = c.args.code in
    let word = g.M.WordMemory.word in
    let H = c.in_ok-held.ensures.ok in
    all-kept word code.split.width c.args.rows.now c.in_ok-held.held.rows.items H.kept
    (λ row. (k : ℕ) → k < code.split.width → IsElementIn code.split.min code.mask row.index (word row.cells.now k)) H.elements

pub unreachable-requires : goal.unreachable-requires
unreachable-requires g c =
    let word = g.M.WordMemory.word in
    let code = c.args.code in
    let split = code.split in
    let wanted = c.args.wanted.now in
    let held = c.in_ok-held.held.rows.items in
    let H = c.in_ok-held.ensures.ok in
    let a = H.codeword.0 in
    let of_held : BelongTo word split code.mask held a = all-kept word split.width c.args.rows.now held H.kept (λ row. IsRowOf split code.mask a row.index (word row.cells.now)) H.codeword.2 in
    let size = g.M.WordMemory.BYTES * length c.args.out.now in
    let within : AreWithinAt size split code.mask a wanted =
    λ t k l m. room-for size (length wanted) split.width t k (word_in split.min code.mask (get_or wanted t 0) (a (get_or wanted t 0) k)) c.requires.room l m
    (word-fits split.min code.mask (get_or wanted t 0) (a (get_or wanted t 0) k) code.short) in
    c.in_ok-write_wanted.ensures.no c.if-not-branch.true a H.codeword.1 of_held within

pub returns-clause-ok : goal.returns-clause-ok
returns-clause-ok g c =
    let word = g.M.WordMemory.word in
    let code = c.args.code in
    let split = code.split in
    let held = c.in_ok-held.held.rows.items in
    let H = c.in_ok-held.ensures.ok in
    let a = H.codeword.0 in
    let of_held : BelongTo word split code.mask held a = all-kept word split.width c.args.rows.now held H.kept (λ row. IsRowOf split code.mask a row.index (word row.cells.now)) H.codeword.2 in
    (a, H.codeword.1, H.codeword.2, c.in_ok-write_wanted.ensures.yes c.if-not-branch.false a H.codeword.1 of_held)

pub returns-clause-enough : goal.returns-clause-enough
returns-clause-enough g c =
    let H = c.in_ok-held.ensures.ok in
    enough-kept g.M.WordMemory.word c.args.code.split.width c.args.rows.now c.in_ok-held.held.rows.items H.kept c.args.code.split.min H.indexed.enough
