use Rattle.std.proofs.Common.{◌≡◌, ◌∙◌, ◌+◌, ◌*◌, ◌<◌, ℕ, length, get_or, subst, arith}
use Rattle.std.proofs.Math.ListN.{set}
use Rattle.std.proofs.lemmas.List.{get_or-set_other, get_or-set_same}
use Rattle.std.proofs.lemmas.Nat.{mul-add-lt, same_from_place}
use Rattle.math_fields.specs.Elements.{residue}
use Rattle.math_restoring.specs.Restored.{item}
use Rattle.systematic_shards.specs.Masks.{masked_number}
use Rattle.row_interpolation.specs.Written.{AreWritten}
use Rattle.systematic_shards.proofs.Written.{written-more}
use Rattle.systematic_shards.proofs.making.scatter.Goals as goal

pub loop-c-preserved : goal.loop-c-preserved
loop-c-preserved c =
    let at = c.args.at in
    let step = c.args.step in
    let k = c.loop-c.c in
    let p : ℕ = k * step + at in
    let items = c.loop-c.items in
    let x = c.element_of.result in
    let place : p < length items = omega (arith, mul-add-lt k step at (length c.args.words.now) c.loop-c-test.true c.requires.within, c.requires.room, c.loop-c.auto.items) in
    written-more (λ i. i * step + at) (λ i. residue (masked_number c.args.mask (get_or c.args.words.now i 0))) k (item c.args.items.now) (item items) (item (set items p x))
    (λ i b e. let q = same_from_place i at k at step c.requires.within c.requires.within e in omega (arith, b, q.0))
    (get_or-set_same items p x (residue 0) place ∙ c.element_of.ensures)
    (λ i other. get_or-set_other items p i x (residue 0) other)
    c.loop-c.invariant

pub returns : goal.returns
returns c =
    let all : c.loop-c.c ≡ length c.args.words.now = omega (arith, c.loop-c-test.false, c.loop-c.auto.c-end) in
    subst (λ n. AreWritten (λ i. i * c.args.step + c.args.at) (λ i. residue (masked_number c.args.mask (get_or c.args.words.now i 0))) n (item c.args.items.now) (item c.loop-c.items)) all c.loop-c.invariant
