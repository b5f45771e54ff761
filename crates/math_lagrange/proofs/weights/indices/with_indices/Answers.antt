use Rattle.std.proofs.Common.{inl, inr, arith}
use Rattle.math_transforms.proofs.PresentIndices.{parts-all}
use Rattle.math_lagrange.proofs.weights.indices.with_indices.Goals as goal

pub returns-clause-indices : goal.returns-clause-indices
returns-clause-indices g c =
    (parts-all c.args.indices.items c.args.weights.items c.loop-index.out.items c.loop-index.index-iterator.a.rest.items c.loop-index.index-iterator.b.rest.items c.requires.count
    c.loop-index.invariant.indices c.loop-index.invariant.weights
    (elim c.in-None.ensures.steps [
      | inl a ↦ inl (omega (arith, a.1.0, c.loop-index.index-iterator.a.rest.ok))
      | inr b ↦ inr (omega (arith, b.1.0, c.loop-index.index-iterator.b.rest.ok))
    ])).0

pub returns-clause-weights : goal.returns-clause-weights
returns-clause-weights g c =
    (parts-all c.args.indices.items c.args.weights.items c.loop-index.out.items c.loop-index.index-iterator.a.rest.items c.loop-index.index-iterator.b.rest.items c.requires.count
    c.loop-index.invariant.indices c.loop-index.invariant.weights
    (elim c.in-None.ensures.steps [
      | inl a ↦ inl (omega (arith, a.1.0, c.loop-index.index-iterator.a.rest.ok))
      | inr b ↦ inr (omega (arith, b.1.0, c.loop-index.index-iterator.b.rest.ok))
    ])).1
