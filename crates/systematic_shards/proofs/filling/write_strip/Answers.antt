use Rattle.std.proofs.Common.{◌≡◌, ◌+◌, ◌-◌, ◌*◌, ◌<◌, ◌≤◌, ◌^◌, ℕ, List, length, take, drop, get_or, refl, sym, subst, arith}
use Rattle.math_fields.specs.declared.goldilocks.F.{F}
use Rattle.math_fields.specs.Elements.{number}
use Rattle.math_restoring.specs.Restored.{item}
use Rattle.row_interpolation.proofs.WeightedSums.{turn}
use Rattle.systematic_shards.specs.Masks.{masked_number}
use Rattle.systematic_shards.specs.Strips.{IsStripFilled, strip_word}
use Rattle.systematic_shards.specs.Words.{IsWithin}
use Rattle.systematic_shards.proofs.Filled.{runs-more}
use Rattle.systematic_shards.proofs.Made.{length-run, made-run}
use Rattle.systematic_shards.proofs.Written.{same-run}
use Rattle.systematic_shards.proofs.filling.write_strip.Goals as goal

pub write_elements-requires-clause-few : goal.write_elements-requires-clause-few
write_elements-requires-clause-few g c =
    let s = c.args.strip.now in
    let j : ℕ = c.loop-j.j in
    let l : j < length s.targets.now = omega (arith, c.loop-j-test.true, c.requires.places.count) in
    omega (arith, s.few, length-run s.cols j ((j + 1) * s.cols - j * s.cols) (length s.targets.now) s.elements.now (turn j s.cols) l s.room)

pub write_elements-requires-clause-place : goal.write_elements-requires-clause-place
write_elements-requires-clause-place g c =
    let s = c.args.strip.now in
    let j : ℕ = c.loop-j.j in
    let p : ℕ = get_or c.args.places.now j 0 in
    let width : ℕ = s.code.split.width in
    let l : j < length s.targets.now = omega (arith, c.loop-j-test.true, c.requires.places.count) in
    let long = length-run s.cols j ((j + 1) * s.cols - j * s.cols) (length s.targets.now) s.elements.now (turn j s.cols) l s.room in
    let inside : (p + 1) * width ≤ 2 ^ 61 = c.requires.places.inside j 0 c.loop-j-test.true in
    let next : (p + 1) * width ≡ p * width + width = grind arith in
    omega (arith, long, inside, next, s.within)

pub write_elements-requires-clause-fits : goal.write_elements-requires-clause-fits
write_elements-requires-clause-fits g c = λ k b.
    let s = c.args.strip.now in
    let split = s.code.split in
    let targets = s.targets.now in
    let j : ℕ = c.loop-j.j in
    let p : ℕ = get_or c.args.places.now j 0 in
    let l : j < length targets = omega (arith, c.loop-j-test.true, c.requires.places.count) in
    let q : ℕ = (j + 1) * s.cols - j * s.cols in
    let long = length-run s.cols j q (length targets) s.elements.now (turn j s.cols) l s.room in
    let inside : k < s.cols = omega (arith, b, long) in
    let is = made-run split s.code.mask c.row_mask-mask.result targets s.cols j q s.elements.now (turn j s.cols) c.row_mask-mask.ensures k inside in
    subst (IsWithin (g.M.WordMemory.BYTES * length c.loop-j.out) (p * split.width + s.from + k)) (sym is)
    (subst (λ i. IsWithin (g.M.WordMemory.BYTES * length c.loop-j.out) i (strip_word s j k)) (let e : p * split.width + (s.from + k) ≡ p * split.width + s.from + k = omega arith in e)
    (subst (λ n. IsWithin (g.M.WordMemory.BYTES * n) (p * split.width + (s.from + k)) (strip_word s j k)) (sym c.loop-j.auto.out) (c.requires.fits j k c.loop-j-test.true inside)))

pub loop-j-preserved : goal.loop-j-preserved
loop-j-preserved g c =
    let s = c.args.strip.now in
    let split = s.code.split in
    let targets = s.targets.now in
    let j : ℕ = c.loop-j.j in
    let places : List ℕ = c.args.places.now in
    let at : ℕ = get_or places j 0 * split.width + s.from in
    let l : j < length targets = omega (arith, c.loop-j-test.true, c.requires.places.count) in
    let q : ℕ = (j + 1) * s.cols - j * s.cols in
    let part : List F = take q (drop (j * s.cols) s.elements.now) in
    let long : length part ≡ s.cols = length-run s.cols j q (length targets) s.elements.now (turn j s.cols) l s.room in
    let value : ℕ → ℕ = λ k. masked_number c.row_mask-mask.result (number (item part k)) in
    let now = g.M.WordMemory.word c.loop-j.out in
    let new = g.M.WordMemory.word c.write_elements.new.out in
    runs-more split.width s.from s.cols j at places (strip_word s) value (g.M.WordMemory.word c.args.out.now) now new c.requires.places.apart c.loop-j-test.true s.within (omega arith)
    (made-run split s.code.mask c.row_mask-mask.result targets s.cols j q s.elements.now (turn j s.cols) c.row_mask-mask.ensures)
    (same-run at (length part) s.cols value value now new long (λ k b. refl) c.write_elements.ensures) c.loop-j.invariant

pub returns : goal.returns
returns g c =
    let places : List ℕ = c.args.places.now in
    let all : c.loop-j.j ≡ length places = omega (arith, c.loop-j-test.false, c.loop-j.auto.j-end) in
    subst (λ n. IsStripFilled c.args.strip.now places n (g.M.WordMemory.word c.args.out.now) (g.M.WordMemory.word c.loop-j.out)) all c.loop-j.invariant
