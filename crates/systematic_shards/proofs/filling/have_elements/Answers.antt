use Rattle.std.proofs.Common.{◌≡◌, ◌∙◌, inl, inr, ◌+◌, ◌-◌, ◌*◌, ◌<◌, ◌≤◌, ℕ, List, length, take, drop, get_or, sym, ap, ap₂, subst, true≢false, arith}
use Rattle.std.proofs.lemmas.Bool.{cases_lt}
use Rattle.std.proofs.lemmas.List.{get_or_default}
use Rattle.math_fields.specs.declared.goldilocks.F.{F}
use Rattle.math_fields.specs.Elements.{number, residue, same}
use Rattle.math_restoring.specs.Restored.{item}
use Rattle.math_transforms.proofs.WrittenRows.{part-read}
use Rattle.systematic_shards.specs.declared.rows.Row.{Row}
use Rattle.systematic_shards.specs.Masks.{masked_number}
use Rattle.systematic_shards.specs.Shards.{element_in}
use Rattle.systematic_shards.proofs.Made.{length-run}
use Rattle.row_interpolation.proofs.WeightedSums.{turn}
use Rattle.systematic_shards.proofs.filling.have_elements.Goals as goal

pub loop-j-preserved : goal.loop-j-preserved
loop-j-preserved g c = λ i k d b m.
    let word = g.M.WordMemory.word in
    let s = c.args.strip.now in
    let code = s.code in
    let rows : List (Row g.row.M.Denot) = c.args.rows.now in
    let made : List F = s.elements.now in
    let cols : ℕ = s.cols in
    let j : ℕ = c.loop-j.j in
    let p : ℕ = s.from + k in
    let run : List ℕ = c.words_from-words.result.now in
    let row : Row g.row.M.Denot = c.index-rows-j.result in
    let inside : j < length rows = c.loop-j-test.true in
    let q : ℕ = (j + 1) * cols - j * cols in
    let e : q ≡ cols = turn j cols in
    let room : length rows * cols ≤ length made = omega (arith, ap (λ n. n * cols) c.requires, s.room) in
    let long : length (take q (drop (j * cols) made)) ≡ cols = length-run cols j q (length rows) made e inside room in
    elim (cases_lt i j) as (λ _. same (element_in code.split.min code.mask (get_or rows i d).index (word (get_or rows i d).cells.now p)) (item made (i * cols + k))) [
      | inl before ↦ c.loop-j.invariant i k d before m
      | inr after ↦
          let is : j ≡ i = omega (arith, after, b) in
          let row_is : row ≡ get_or rows j d = c.index-rows-j.is ∙ get_or_default rows j row d inside in
          subst (λ r. same (element_in code.split.min code.mask (get_or rows r d).index (word (get_or rows r d).cells.now p)) (item made (r * cols + k))) is
          (ap (λ (r : Row g.row.M.Denot). number (element_in code.split.min code.mask r.index (word r.cells.now p))) (sym row_is)
          ∙ sym (ap₂ (λ x y. number (residue (masked_number x y))) c.row_mask-mask.ensures (c.words_from-words.ensures.words k m))
          ∙ c.are_words_of.ensures.0 c.if-not-are_words_of.false k (omega (arith, m, long))
          ∙ ap number (part-read (residue 0) made (j * cols) q k (omega (arith, m, e))))
    ]

pub returns-then-not-are_words_of : goal.returns-then-not-are_words_of
returns-then-not-are_words_of g c =
    let word = g.M.WordMemory.word in
    let s = c.args.strip.now in
    let code = s.code in
    let rows : List (Row g.row.M.Denot) = c.args.rows.now in
    let made : List F = s.elements.now in
    let cols : ℕ = s.cols in
    let j : ℕ = c.loop-j.j in
    let run : List ℕ = c.words_from-words.result.now in
    let row : Row g.row.M.Denot = c.index-rows-j.result in
    let inside : j < length rows = c.loop-j-test.true in
    let q : ℕ = (j + 1) * cols - j * cols in
    let e : q ≡ cols = turn j cols in
    let room : length rows * cols ≤ length made = omega (arith, ap (λ n. n * cols) c.requires, s.room) in
    let long : length (take q (drop (j * cols) made)) ≡ cols = length-run cols j q (length rows) made e inside room in (
      λ f. absurd (true≢false (sym f)),
      λ have. sym c.if-not-are_words_of.true
          ∙ c.are_words_of.ensures.1 (λ k l.
          let m : k < cols = omega (arith, l, long) in
          ap₂ (λ x y. number (residue (masked_number x y))) c.row_mask-mask.ensures (c.words_from-words.ensures.words k m)
          ∙ ap (λ (r : Row g.row.M.Denot). number (element_in code.split.min code.mask r.index (word r.cells.now (s.from + k)))) c.index-rows-j.is
          ∙ have j k row inside m
          ∙ sym (ap number (part-read (residue 0) made (j * cols) q k (omega (arith, m, e))))),
    )

pub are_words_of-requires : goal.are_words_of-requires
are_words_of-requires g c =
    let s = c.args.strip.now in
    let cols : ℕ = s.cols in
    let j : ℕ = c.loop-j.j in
    let run : List ℕ = c.words_from-words.result.now in
    let long : length run ≡ cols = c.words_from-words.ensures.size in
    let room : length c.args.rows.now * cols ≤ length s.elements.now = omega (arith, ap (λ n. n * cols) c.requires, s.room) in
    omega (arith, long, length-run cols j ((j + 1) * cols - j * cols) (length c.args.rows.now) s.elements.now (turn j cols) c.loop-j-test.true room)
