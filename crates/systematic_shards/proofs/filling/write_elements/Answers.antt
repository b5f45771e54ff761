use Rattle.std.proofs.Common.{◌≡◌, ◌+◌, ◌*◌, ◌<◌, ℕ, List, length, get_or, sym, subst, arith}
use Rattle.math_fields.specs.Elements.{number}
use Rattle.math_restoring.specs.Restored.{item}
use Rattle.systematic_shards.specs.Masks.{masked_number}
use Rattle.systematic_shards.specs.Words.{IsWithin}
use Rattle.systematic_shards.proofs.Written.{same-run}
use Rattle.systematic_shards.proofs.filling.write_elements.Goals as goal

pub write_run-requires-clause-fits : goal.write_run-requires-clause-fits
write_run-requires-clause-fits g c = λ k l.
    let n : ℕ = length c.args.elements.now in
    let words : List ℕ = c.words_of-words.result.now in
    let long : length words ≡ n = c.words_of-words.ensures.size in
    let b : k < n = omega (arith, l, long) in
    subst (IsWithin (g.M.WordMemory.BYTES * length c.args.out.now) (c.args.at + k)) (sym (c.words_of-words.ensures.words k b)) (c.requires.fits k b)

pub returns : goal.returns
returns g c =
    let n : ℕ = length c.args.elements.now in
    let words : List ℕ = c.words_of-words.result.now in
    let long : length words ≡ n = c.words_of-words.ensures.size in
    same-run c.args.at (length words) n (λ k. get_or words k 0) (λ k. masked_number c.args.mask (number (item c.args.elements.now k))) (g.M.WordMemory.word c.args.out.now)
    (g.M.WordMemory.word c.write_run.new.cells) long (λ k b. c.words_of-words.ensures.words k b) c.write_run.ensures
