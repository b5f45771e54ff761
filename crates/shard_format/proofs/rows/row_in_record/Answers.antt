use Rattle.std.proofs.Common.{◌≡◌, ◌*◌, ◌++◌, ◌∙◌, ℕ, List, ap, length, refl, sym}
use Rattle.std.specs.Int.{to_be_bytes, w64}
use Rattle.std.proofs.lemmas.Bool.{false≢true}
use Rattle.shard_format.specs.Headers.{fingerprints_spelling}
use Rattle.shard_format.specs.Records.{numbers_spelling}
use Rattle.shard_format.specs.Rows.{IsRowOfHeader, row_elements, row_words}
use Rattle.shard_format.proofs.RowRecords.{behind, marks_same, marks_spelled, record_spelled, same_parts}
use Rattle.shard_format.proofs.rows.row_in_record.Goals as goal

pub returns-in_default-clause-none : goal.returns-in_default-clause-none
returns-in_default-clause-none c = λ f mask row r.
    let h = c.args.header.now in
    let block = c.args.block in
    let numbers = c.deref.ensures.value ∙ c.in_ok-numbers.ensures in
    let marks = fingerprints_spelling h.keys (row_words block h.index mask (row_elements h mask c.args.width row)) in
    let spelled = r.spelled ∙ sym (behind (numbers_spelling h c.args.width) (to_be_bytes w64 mask) row marks) ∙ ap (λ (s : List ℕ). s ++ (to_be_bytes w64 mask ++ (row ++ marks))) (sym numbers) in
    c.in_default.ensures.none refl mask row marks r.fits.short r.fits.size spelled

pub returns-then-not-branch-clause-none : goal.returns-then-not-branch-clause-none
returns-then-not-branch-clause-none c = λ f mask row r.
    let h = c.args.header.now in
    let block = c.args.block in
    let p = c.in-Some.parts in
    let numbers = c.deref.ensures.value ∙ c.in_ok-numbers.ensures in
    let taken = c.in-Some.ensures.some in
    let marks = fingerprints_spelling h.keys (row_words block h.index mask (row_elements h mask c.args.width row)) in
    let spelled = r.spelled ∙ sym (behind (numbers_spelling h c.args.width) (to_be_bytes w64 mask) row marks) ∙ ap (λ (s : List ℕ). s ++ (to_be_bytes w64 mask ++ (row ++ marks))) (sym numbers) in
    let long : length row ≡ length p.row.bytes.now = r.fits.size ∙ sym (p.row.size ∙ ap (λ n. 8 * n) taken.0) in
    let same = same_parts c.deref.result.now row p.row.bytes.now marks p.stored.now mask p.row.mask r.fits.short p.row.short long (sym spelled ∙ taken.1) in
    let fits : IsRowOfHeader h p.row.mask p.row.width p.row.bytes.now = rw (sym same.0, taken.0, sym same.1) r.fits in
    false≢true (sym c.if-not-branch.true ∙ c.in_ok-put_elements.ensures.fit.1 fits)

pub returns-then-not-are_words_of-clause-none : goal.returns-then-not-are_words_of-clause-none
returns-then-not-are_words_of-clause-none c = λ f mask row r.
    let h = c.args.header.now in
    let block = c.args.block in
    let p = c.in-Some.parts in
    let numbers = c.deref.ensures.value ∙ c.in_ok-numbers.ensures in
    let taken = c.in-Some.ensures.some in
    let marks = fingerprints_spelling h.keys (row_words block h.index mask (row_elements h mask c.args.width row)) in
    let spelled = r.spelled ∙ sym (behind (numbers_spelling h c.args.width) (to_be_bytes w64 mask) row marks) ∙ ap (λ (s : List ℕ). s ++ (to_be_bytes w64 mask ++ (row ++ marks))) (sym numbers) in
    let long : length row ≡ length p.row.bytes.now = r.fits.size ∙ sym (p.row.size ∙ ap (λ n. 8 * n) taken.0) in
    let same = same_parts c.deref.result.now row p.row.bytes.now marks p.stored.now mask p.row.mask r.fits.short p.row.short long (sym spelled ∙ taken.1) in
    let elements = c.deref-2.ensures.value ∙ c.in_ok-put_elements.ensures.words in
    let mine = marks_spelled h block p.row.mask p.row.width p.row.bytes.now c.deref-2.result.now c.row_fingerprints-fingerprints.result elements c.row_fingerprints-fingerprints.ensures in
    let one = marks_same h block mask p.row.mask c.args.width p.row.width row p.row.bytes.now same.0 (sym taken.0) same.1 in
    false≢true (sym c.if-not-are_words_of.true ∙ c.are_words_of.ensures.1 (sym same.2 ∙ one ∙ sym mine))

pub returns-clause-some : goal.returns-clause-some
returns-clause-some c =
    let h = c.args.header.now in
    let block = c.args.block in
    let p = c.in-Some.parts in
    let numbers = c.deref.ensures.value ∙ c.in_ok-numbers.ensures in
    let taken = c.in-Some.ensures.some in
    let width = c.args.width in
    let mask = p.row.mask in
    let row = p.row.bytes.now in
    let front = c.deref.result.now ++ (to_be_bytes w64 mask ++ row) in
    let fits = rw taken.0 at (c.in_ok-put_elements.ensures.fit.0 c.if-not-branch.false) in
    let elements = c.deref-2.ensures.value ∙ c.in_ok-put_elements.ensures.words ∙ ap (λ n. row_elements h mask n row) taken.0 in (
      taken.0,
      record {
        fits = fits;
        spelled = record_spelled h block mask width row c.args.bytes.now front p.stored.now c.deref-2.result.now c.row_fingerprints-fingerprints.result
            (ap (λ (s : List ℕ). s ++ (to_be_bytes w64 mask ++ row)) numbers) elements c.row_fingerprints-fingerprints.ensures
            (c.are_words_of.ensures.0 c.if-not-are_words_of.false) (taken.1 ∙ behind c.deref.result.now (to_be_bytes w64 mask) row p.stored.now);
      },
    )
