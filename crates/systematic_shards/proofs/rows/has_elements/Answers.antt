use Rattle.std.proofs.Common.{◌≡◌, ◌∙◌, ℕ, ◌+◌, ◌<◌, List, length, refl, sym, subst, true≢false, arith}
use Rattle.systematic_shards.specs.Shards.{IsElementIn}
use Rattle.systematic_shards.proofs.Written.{below-run}
use Rattle.systematic_shards.proofs.rows.has_elements.Goals as goal

pub loop-from-preserved : goal.loop-from-preserved
loop-from-preserved g c =
    let code = c.args.code in
    let row = c.args.row.now in
    let n : ℕ = c.min-some.result in
    let run : List ℕ = c.words_from-words.result.now in
    let long : length run ≡ n = c.words_from-words.ensures.size in
    let elements = c.are_words_in.ensures.0 c.if-not-are_words_in.false in
    record {
      within = omega (arith, c.loop-from.invariant.within, c.min-some.ensures);
      elements = below-run (λ i. IsElementIn code.split.min code.mask row.index (g.M.WordMemory.word row.cells.now i)) c.loop-from.from n c.loop-from.invariant.elements
          (λ k b. subst (IsElementIn code.split.min code.mask row.index) (c.words_from-words.ensures.words k b) (elements k (omega (arith, b, long))));
    }

pub returns-then-not-are_words_in : goal.returns-then-not-are_words_in
returns-then-not-are_words_in g c =
    let code = c.args.code in
    let row = c.args.row.now in
    let n : ℕ = c.min-some.result in
    let run : List ℕ = c.words_from-words.result.now in
    let long : length run ≡ n = c.words_from-words.ensures.size in (
      λ e. absurd (true≢false (sym e)),
      λ elements. sym c.if-not-are_words_in.true
          ∙ c.are_words_in.ensures.1
          (λ k l. let b : k < n = omega (arith, l, long) in
          subst (IsElementIn code.split.min code.mask row.index) (sym (c.words_from-words.ensures.words k b))
          (elements (c.loop-from.from + k) (omega (arith, b, c.loop-from.invariant.within, c.min-some.ensures)))),
    )

pub returns : goal.returns
returns g c = (λ _ k l. c.loop-from.invariant.elements k (omega (arith, l, c.loop-from-test.false)), λ _. refl)
