use Rattle.std.proofs.Common.{◌≡◌, ◌∙◌, ◌<◌, ◌++◌, ◌∷◌, [], true, length, ap, subst, sym, arith}
use Rattle.std.proofs.Math.ListN.{set}
use Rattle.std.proofs.lemmas.List.{length-set}
use Rattle.math_transforms.specs.RootWeights.{AreTrueAt}
use Rattle.math_transforms.proofs.PresentIndices.{true_at-push, true_at-skip}
use Rattle.math_lagrange.proofs.weights.indices.present_points.Goals as goal

pub loop-index-preserved-then-index-total : goal.loop-index-preserved-then-index-total
loop-index-preserved-then-index-total g c =
    let goes = c.in-Some.ensures.goes.on c.loop-index.invariant.1 in
    let i : c.from-then-index-total.result ≡ c.in-Some.index = c.from-then-index-total.ensures in
    let filled : c.set_non_vanishing.new.self ≡ set c.loop-index.points c.in-Some.index true = c.set_non_vanishing.ensures ∙ ap (λ k. set c.loop-index.points k true) i in
    let within : c.in-Some.index < length c.loop-index.points = omega (arith, c.loop-index.invariant.2, c.requires.covers, c.if-index-total.true) in (
      goes.0,
      goes.1,
      ap length filled ∙ length-set c.loop-index.points c.in-Some.index true ∙ c.loop-index.invariant.2,
      subst (AreTrueAt c.args.total (c.loop-index.yielded ++ (c.in-Some.index ∷ []))) (sym filled)
          (true_at-push c.args.total c.in-Some.index c.loop-index.yielded c.loop-index.points c.if-index-total.true within c.loop-index.invariant.3),
    )

pub loop-index-preserved : goal.loop-index-preserved
loop-index-preserved g c =
    let goes = c.in-Some.ensures.goes.on c.loop-index.invariant.1 in
    (goes.0, goes.1, c.loop-index.invariant.2, true_at-skip c.args.total c.in-Some.index c.loop-index.yielded c.loop-index.points (omega arith) c.loop-index.invariant.3)
