use Rattle.std.proofs.Common.{◌≡◌, ◌∙◌, inl, ◌+◌, ◌*◌, ◌≤◌, ◌<◌, ◌^◌, List, ℕ, get_or, length, take, refl, ap, sym, subst, arith}
use Rattle.std.specs.Int.{to_le_bytes, w64}
use Rattle.std.proofs.lemmas.List.{take_all}
use Rattle.row_interpolation.specs.Written.{AreWritten}
use Rattle.systematic_shards.specs.Words.{word_of_bytes}
use Rattle.systematic_shards.proofs.Bytes.{put_at, word-kept, word-written}
use Rattle.systematic_shards.proofs.Written.{next-written}
use Rattle.systematic_shards.proofs.memory.write_whole_words.Goals as goal

pub loop-k-preserved : goal.loop-k-preserved
loop-k-preserved c =
    let p : ℕ = c.args.at + c.loop-k.k in
    let w : ℕ = get_or c.args.words.now c.loop-k.k 0 in
    let now : List ℕ = c.loop-k.cells in
    let part : List ℕ = c.to_le_bytes.result in
    let long : length part ≡ 8 = ap length c.to_le_bytes.ensures in
    let room : 8 * p + 8 ≤ length now = omega (arith, c.requires, c.loop-k-test.true, c.loop-k.auto.cells) in
    let fits : w < 2 ^ 64 = omega (arith, c.type_inv.words c.loop-k.k) in
    let whole : part ≡ take 8 (to_le_bytes w64 w) = c.to_le_bytes.ensures ∙ sym (take_all 8 (to_le_bytes w64 w) (omega arith)) in
    next-written c.args.at c.loop-k.k (λ j. get_or c.args.words.now j 0) (word_of_bytes c.args.cells.now) (word_of_bytes now) (word_of_bytes c.write_bytes.new.bytes)
    (ap (λ xs. word_of_bytes xs p) (c.write_bytes.ensures ∙ ap (λ bs. put_at (8 * p) bs now) whole) ∙ word-written p 8 w now (omega arith) room (inl refl) fits fits)
    (λ i other. ap (λ xs. word_of_bytes xs i) c.write_bytes.ensures ∙ word-kept p i part now (omega (arith, long)) (omega (arith, long, room)) other)
    c.loop-k.invariant

pub returns : goal.returns
returns c =
    let all : c.loop-k.k ≡ length c.args.words.now = omega (arith, c.loop-k-test.false, c.loop-k.auto.k-end) in
    subst (λ n. AreWritten (λ j. c.args.at + j) (λ j. get_or c.args.words.now j 0) n (word_of_bytes c.args.cells.now) (word_of_bytes c.loop-k.cells)) all c.loop-k.invariant
