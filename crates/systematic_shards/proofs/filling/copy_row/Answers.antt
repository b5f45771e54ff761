use Rattle.std.proofs.Common.{◌≡◌, ◌+◌, ◌*◌, ◌<◌, ℕ, List, length, get_or, refl, sym, subst, arith}
use Rattle.row_interpolation.specs.Written.{AreWritten}
use Rattle.systematic_shards.specs.Words.{IsWithin}
use Rattle.systematic_shards.proofs.Written.{run-more, same-run, written-none}
use Rattle.systematic_shards.proofs.filling.copy_row.Goals as goal

pub loop-from-init : goal.loop-from-init
loop-from-init g c = record {
  within = omega arith;
  written = written-none (λ k. c.args.place * c.args.width + k) (g.M.WordMemory.word c.args.cells.now) (g.M.WordMemory.word c.args.out.now);
}

pub write_run-requires-clause-place : goal.write_run-requires-clause-place
write_run-requires-clause-place g c =
    let n : ℕ = c.min-some.result in
    let run : List ℕ = c.words_from-words.result.now in
    let width : ℕ = c.args.width in
    let long : length run ≡ n = c.words_from-words.ensures.size in
    let next : (c.args.place + 1) * width ≡ c.args.place * width + width = grind arith in
    omega (arith, long, next, c.requires.inside, c.loop-from.invariant.within, c.min-some.ensures)

pub write_run-requires-clause-fits : goal.write_run-requires-clause-fits
write_run-requires-clause-fits g c = λ k l.
    let n : ℕ = c.min-some.result in
    let run : List ℕ = c.words_from-words.result.now in
    let from : ℕ = c.loop-from.from in
    let at : ℕ = c.args.place * c.args.width in
    let word : ℕ → ℕ = g.M.WordMemory.word c.args.cells.now in
    let long : length run ≡ n = c.words_from-words.ensures.size in
    let b : k < n = omega (arith, l, long) in
    subst (IsWithin (g.M.WordMemory.BYTES * length c.loop-from.out) (at + from + k)) (sym (c.words_from-words.ensures.words k b))
    (subst (λ i. IsWithin (g.M.WordMemory.BYTES * length c.loop-from.out) i (word (from + k))) (let e : at + (from + k) ≡ at + from + k = omega arith in e)
    (subst (λ i. IsWithin (g.M.WordMemory.BYTES * i) (at + (from + k)) (word (from + k))) (sym c.loop-from.auto.out)
    (c.requires.fits (from + k) (omega (arith, b, c.loop-from.invariant.within, c.min-some.ensures)))))

pub loop-from-preserved : goal.loop-from-preserved
loop-from-preserved g c =
    let n : ℕ = c.min-some.result in
    let run : List ℕ = c.words_from-words.result.now in
    let from : ℕ = c.loop-from.from in
    let at : ℕ = c.args.place * c.args.width in
    let word : ℕ → ℕ = g.M.WordMemory.word c.args.cells.now in
    let value : ℕ → ℕ = λ k. get_or run k 0 in
    let old = g.M.WordMemory.word c.args.out.now in
    let now = g.M.WordMemory.word c.loop-from.out in
    let new = g.M.WordMemory.word c.write_run.new.cells in
    let long : length run ≡ n = c.words_from-words.ensures.size in
    record {
      within = omega (arith, c.loop-from.invariant.within, c.min-some.ensures);
      written = run-more at from n word value old now new (λ k b. c.words_from-words.ensures.words k b)
          (same-run (at + from) (length run) n value value now new long (λ k b. refl) c.write_run.ensures) c.loop-from.invariant.written;
    }

pub returns : goal.returns
returns g c =
    let width : ℕ = c.args.width in
    let all : c.loop-from.from ≡ width = omega (arith, c.loop-from-test.false, c.loop-from.invariant.within) in
    subst (λ n. AreWritten (λ k. c.args.place * width + k) (g.M.WordMemory.word c.args.cells.now) n (g.M.WordMemory.word c.args.out.now) (g.M.WordMemory.word c.loop-from.out)) all c.loop-from.invariant.written
