use Rattle.std.proofs.Common.{◌≡◌, ◌∙◌, ℕ, List, length, get_or, refl, sym, ap, true≢false, arith}
use Rattle.std.proofs.lemmas.List.{length-map}
use Rattle.systematic_shards.specs.declared.rows.Row.{Row}
use Rattle.systematic_shards.specs.Made.{AreCellsOf}
use Rattle.systematic_shards.specs.Refusals.{AreElements}
use Rattle.systematic_shards.specs.Shards.{BelongTo, word_in}
use Rattle.systematic_shards.proofs.Made.{strip-words, words-strip}
use Rattle.systematic_shards.proofs.Written.{below-run}
use Rattle.systematic_shards.proofs.filling.are_targets.Goals as goal

pub have_elements-requires : goal.have_elements-requires
have_elements-requires g c = sym (ap length c.strip_of-strip.ensures.targets ∙ ap length c.requires.further ∙ length-map c.args.further.now (λ row. row.index))

pub loop-from-preserved : goal.loop-from-preserved
loop-from-preserved g c =
    let w = c.args.maker.now in
    let word = g.M.WordMemory.word in
    let s = c.strip_of-strip.ensures in
    let strip = c.strip_of-strip.result in
    let further : List (Row g.row.M.Denot) = c.args.further.now in
    let from : ℕ = c.loop-from.from in
    let cols : ℕ = c.min-cols.result in
    record {
      within = omega (arith, c.loop-from.invariant.within, c.min-cols.ensures);
      words = λ a through k j d b l.
          let cells : AreCellsOf a strip.targets.now strip.from strip.cols strip.elements.now = rw (s.targets, s.columns.0, s.columns.1, s.elements) (c.make.ensures a through) in
          let elements : AreElements word strip.code.split strip.code.mask further = rw s.code c.requires.elements in
          let words = rw (s.code, s.columns.0, s.columns.1) at (strip-words word strip strip.code.short further (s.targets ∙ c.requires.further) a cells elements (c.have_elements.ensures.0 c.if-not-have_elements.false)) in
          below-run (λ i. word (get_or further j d).cells.now i ≡ word_in w.code.split.min w.code.mask (get_or further j d).index (a (get_or further j d).index i)) from cols
          (λ i before. c.loop-from.invariant.words a through i j d before l) (λ i inside. words i j d inside l) k b;
    }

pub returns-then-not-have_elements : goal.returns-then-not-have_elements
returns-then-not-have_elements g c = λ a through.
    let word = g.M.WordMemory.word in
    let s = c.strip_of-strip.ensures in
    let strip = c.strip_of-strip.result in
    let further : List (Row g.row.M.Denot) = c.args.further.now in
    let cells : AreCellsOf a strip.targets.now strip.from strip.cols strip.elements.now = rw (s.targets, s.columns.0, s.columns.1, s.elements) (c.make.ensures a through) in (
      λ f. absurd (true≢false (sym f)),
      λ belong.
          let of_strip : BelongTo word strip.code.split strip.code.mask further a = rw s.code belong in
          sym c.if-not-have_elements.true ∙ c.have_elements.ensures.1 (words-strip word strip strip.code.short further (s.targets ∙ c.requires.further) a cells of_strip),
    )

pub returns : goal.returns
returns g c = λ a through. (λ _ j d l k m. c.loop-from.invariant.words a through k j d (omega (arith, m, c.loop-from-test.false)) l, λ _. refl)
