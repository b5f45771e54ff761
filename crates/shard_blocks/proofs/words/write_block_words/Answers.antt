use Rattle.std.proofs.Common.{◌≡◌, ◌∙◌, ◌+◌, ◌*◌, ◌≤◌, ℕ, List, drop, length, length-append, refl, take, sym, ap, arith}
use Rattle.std.proofs.lemmas.List.{length-drop, length-take-le, take_all}
use Rattle.std.specs.Int.{to_le_bytes, w64}
use Rattle.std.specs.List.{flat_map}
use Rattle.shard_blocks.proofs.PutWords.{run_put}
use Rattle.shard_blocks.proofs.words.write_block_words.Goals as goal

pub loop-done-preserved : goal.loop-done-preserved
loop-done-preserved c =
    let done = c.loop-done.done in
    let next = c.min-next.result in
    let some : List ℕ = c.loop-done.some in
    let out = c.write.new.out in
    let short : next ≤ 63 = omega (arith, c.min-next.ensures) in
    let up : done + next ≤ c.args.count = omega (arith, c.min-next.ensures, c.loop-done-test.true) in
    let room : length (take next some) ≡ next = length-take-le next some (omega (arith, short, c.loop-done.invariant.run)) in
    let long : length out ≡ next = c.write.auto.out ∙ room in
    record {
      within = up;
      run = omega (arith, length-append out (drop next some), length-drop next some, long, short, c.loop-done.invariant.run);
      written = λ words h l.
          run_put done next _ c.loop-done.bytes c.put_words.new.bytes (drop next some) out words refl (omega (arith, up, c.loop-done.auto.bytes, c.requires)) c.put_words.ensures long
          (c.write.ensures words h (omega (arith, up, room, l)) ∙ ap (λ m. take m (drop (1 + done) words)) room) (c.loop-done.invariant.written words h l);
    }

pub returns : goal.returns
returns c = λ words h l.
    let all : c.loop-done.done ≡ c.args.count = omega (arith, c.loop-done.invariant.within, c.loop-done-test.false) in
    sym (take_all (8 * c.loop-done.done) c.loop-done.bytes (omega (arith, all, c.loop-done.auto.bytes, c.requires)))
    ∙ c.loop-done.invariant.written words h l ∙ ap (λ m. flat_map (to_le_bytes w64) (take m (drop 1 words))) all
