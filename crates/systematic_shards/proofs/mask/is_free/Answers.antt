use Rattle.std.proofs.Common.{◌≡◌, ◌∙◌, ℕ, ◌+◌, ◌<◌, ◌^◌, List, length, refl, sym, subst, true≢false, arith}
use Rattle.std.proofs.lemmas.List.Elements.{All-from_get_or}
use Rattle.systematic_shards.specs.Masks.{IsFreeOf}
use Rattle.systematic_shards.proofs.Written.{below-run}
use Rattle.systematic_shards.proofs.mask.is_free.Goals as goal

pub loop-from-preserved : goal.loop-from-preserved
loop-from-preserved g c =
    let word : ℕ → ℕ = g.M.WordMemory.word c.args.cells.now in
    let mask = c.args.mask in
    let n : ℕ = c.min-some.result in
    let run : List ℕ = c.words_from-words.result.now in
    let long : length run ≡ n = c.words_from-words.ensures.size in
    let free = c.are_free_of.ensures.free.0 c.if-not-are_free_of.false in
    record {
      within = omega (arith, c.loop-from.invariant.within, c.min-some.ensures);
      free = below-run (λ i. (word i < 2 ^ 64) × IsFreeOf mask (word i)) c.loop-from.from n c.loop-from.invariant.free
          (λ k b.
          let is = c.words_from-words.ensures.words k b in
          let inside : k < length run = omega (arith, b, long) in
          (subst (λ (w : ℕ). w < 2 ^ 64) is (c.are_free_of.ensures.fit k 0 inside), subst (IsFreeOf mask) is (free k 0 inside)));
    }

pub returns-then-not-are_free_of-clause-free : goal.returns-then-not-are_free_of-clause-free
returns-then-not-are_free_of-clause-free g c =
    let mask = c.args.mask in
    let n : ℕ = c.min-some.result in
    let run : List ℕ = c.words_from-words.result.now in
    let long : length run ≡ n = c.words_from-words.ensures.size in (
      λ e. absurd (true≢false (sym e)),
      λ free. sym c.if-not-are_free_of.true
          ∙ c.are_free_of.ensures.free.1
          (All-from_get_or (IsFreeOf mask) run 0
          (λ k l. let b : k < n = omega (arith, l, long) in
          subst (IsFreeOf mask) (sym (c.words_from-words.ensures.words k b)) (free (c.loop-from.from + k) (omega (arith, b, c.loop-from.invariant.within, c.min-some.ensures))))),
    )

pub returns-clause-free : goal.returns-clause-free
returns-clause-free g c = (λ _ k l. (c.loop-from.invariant.free k (omega (arith, l, c.loop-from-test.false))).1, λ _. refl)
