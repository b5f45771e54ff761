use Rattle.std.proofs.Common.{◌≡◌, ◌∙◌, ℕ, ◌+◌, ◌*◌, subst, arith}
use Rattle.math_shards.specs.Weights.{ArePutBefore}
use Rattle.math_shards.proofs.PutCoefficients.{columns-none, strips-more}
use Rattle.math_shards.proofs.shards.weighing.put_strips.Goals as goal

pub loop-s-init : goal.loop-s-init
loop-s-init c = columns-none c.args.weights.now c.args.shape.count c.args.shape.width c.args.cells.now

pub loop-s-preserved : goal.loop-s-preserved
loop-s-preserved c =
    let shape = c.args.shape in
    let weights = c.args.weights.now in
    let s : ℕ = c.loop-s.s in
    let next : s * 32 + 32 ≡ (s + 1) * 32 = omega arith in
    subst (λ n. ArePutBefore weights shape.count shape.width c.args.cells.now n c.put_strip.new.cells) next
    (strips-more weights shape.count shape.width (s * 32) 32 c.args.cells.now c.loop-s.cells c.put_strip.new.cells c.requires.size (c.loop-s.auto.cells ∙ c.requires.size)
    (omega (arith, c.loop-s-test.true)) c.put_strip.ensures c.loop-s.invariant)
