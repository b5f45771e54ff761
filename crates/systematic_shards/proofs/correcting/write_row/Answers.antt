use Rattle.std.proofs.Common.{◌≡◌, ◌∙◌, ◌+◌, ◌*◌, ◌<◌, length, ap, ap₂, subst, arith}
use Rattle.std.proofs.lemmas.List.{get_or_default}
use Rattle.math_fields.specs.Elements.{number, residue}
use Rattle.systematic_shards.specs.Correcting.{cells_at}
use Rattle.systematic_shards.specs.Masks.{masked_number}
use Rattle.systematic_shards.specs.Shards.{word_in}
use Rattle.row_interpolation.specs.Written.{AreWritten}
use Rattle.systematic_shards.proofs.Bytes.{within-room}
use Rattle.systematic_shards.proofs.Written.{next-written}
use Rattle.systematic_shards.proofs.correcting.write_row.Goals as goal

pub write-requires-clause-fits : goal.write-requires-clause-fits
write-requires-clause-fits g c =
    let width = c.args.code.split.width in
    let next : (c.args.place + 1) * width ≡ c.args.place * width + width = grind arith in
    within-room _ (c.args.place * width + c.loop-k.k) c.word_of.result
    (omega (arith, next, c.requires.room, c.loop-k-test.true, ap (λ n. g.M.WordMemory.BYTES * n) c.loop-k.auto.out)) c.word_of.type_inv

pub loop-k-preserved : goal.loop-k-preserved
loop-k-preserved g c =
    let word = g.M.WordMemory.word in
    let split = c.args.code.split in
    let mask = c.args.code.mask in
    let cells = c.args.cells.now in
    let index = c.args.index in
    let k = c.loop-k.k in
    let place = index * split.width + k in
    let next : (index + 1) * split.width ≡ index * split.width + split.width = grind arith in
    let inside : place < length cells = omega (arith, next, c.requires.cells, c.loop-k-test.true) in
    let element = c.index-cells-from.is ∙ get_or_default cells place c.index-cells-from.result (residue 0) inside in
    let value : c.word_of.result ≡ word_in split.min mask index (cells_at split.width cells index k) =
    c.word_of.ensures ∙ ap₂ (λ m x. masked_number m (number x)) c.row_mask-mask.ensures element in
    next-written (c.args.place * split.width) k (λ i. word_in split.min mask index (cells_at split.width cells index i)) (word c.args.out.now) (word c.loop-k.out) (word c.write.new.cells)
    (c.write.ensures.written ∙ value) c.write.ensures.others c.loop-k.invariant

pub returns : goal.returns
returns g c =
    let split = c.args.code.split in
    let index = c.args.index in
    let all : c.loop-k.k ≡ split.width = omega (arith, c.loop-k-test.false, c.loop-k.auto.k-end) in
    subst (λ n. AreWritten (λ k. c.args.place * split.width + k) (λ k. word_in split.min c.args.code.mask index (cells_at split.width c.args.cells.now index k)) n (g.M.WordMemory.word c.args.out.now)
    (g.M.WordMemory.word c.loop-k.out)) all c.loop-k.invariant
