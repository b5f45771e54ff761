use Rattle.std.proofs.Common.{◌≡◌, ◌∙◌, ◌+◌, ◌*◌, ◌<◌, ℕ, length, ap₂, subst, arith}
use Rattle.std.proofs.Math.ListN.{set}
use Rattle.std.proofs.lemmas.List.{get_or-set_other, get_or-set_same}
use Rattle.math_fields.specs.declared.goldilocks.F.{F}
use Rattle.math_fields.specs.Elements.{residue}
use Rattle.math_restoring.specs.Restored.{item}
use Rattle.systematic_shards.specs.Masks.{masked_number}
use Rattle.systematic_shards.specs.Shards.{element_in}
use Rattle.row_interpolation.specs.Written.{AreWritten}
use Rattle.systematic_shards.proofs.Written.{next-written}
use Rattle.systematic_shards.proofs.correcting.put_elements.Goals as goal

pub loop-k-preserved : goal.loop-k-preserved
loop-k-preserved g c =
    let split = c.args.code.split in
    let row = c.args.row.now in
    let k = c.loop-k.k in
    let now = c.loop-k.cells in
    let at : ℕ = row.index * split.width in
    let next : (row.index + 1) * split.width ≡ row.index * split.width + split.width = grind arith in
    let inside : at + k < length now = omega (arith, next, c.requires, c.loop-k-test.true, c.loop-k.auto.cells) in
    let element : ℕ → F = λ i. element_in split.min c.args.code.mask row.index (g.M.WordMemory.word row.cells.now i) in
    let is : c.element_of.result ≡ element k = c.element_of.ensures ∙ ap₂ (λ m w. residue (masked_number m w)) c.row_mask-mask.ensures c.read.ensures in
    next-written at k element (item c.args.cells.now) (item now) (item (set now (at + k) c.element_of.result))
    (get_or-set_same now (at + k) c.element_of.result (residue 0) inside ∙ is) (λ i apart. get_or-set_other now (at + k) i c.element_of.result (residue 0) apart) c.loop-k.invariant

pub returns : goal.returns
returns g c =
    let split = c.args.code.split in
    let row = c.args.row.now in
    let all : c.loop-k.k ≡ split.width = omega (arith, c.loop-k-test.false, c.loop-k.auto.k-end) in
    subst (λ n. AreWritten (λ k. row.index * split.width + k) (λ k. element_in split.min c.args.code.mask row.index (g.M.WordMemory.word row.cells.now k)) n (item c.args.cells.now) (item c.loop-k.cells)) all
    c.loop-k.invariant
