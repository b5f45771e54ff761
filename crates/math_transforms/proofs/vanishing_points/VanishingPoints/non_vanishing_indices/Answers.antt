use Rattle.std.proofs.Common.{◌∙◌, ap, arith}
use Rattle.math_transforms.proofs.PresentIndices.{read, places-true, places-false, places-all}
use Rattle.math_transforms.proofs.vanishing_points.VanishingPoints.non_vanishing_indices.Goals as goal
use Rattle.math_transforms.proofs.vanishing_points.VanishingPoints.non_vanishing_indices.Goals.{then-get+in_ok-push, else-get}

pub loop-i-preserved : goal.loop-i-preserved
loop-i-preserved c =
    let filled = c.args.self.now in
    let i = c.loop-i.i in
    elim c.if-get.branch [
      | then-get+in_ok-push w ↦ places-true c.loop-i.out.items c.if-get.out.items filled i (omega arith) (read filled i c.get.result c.get.ensures ∙ w.if-get.true) c.loop-i.invariant
          (ap (λ v. v.items) w.out-is ∙ w.in_ok-push.ensures.items)
      | else-get w ↦ ap (λ v. v.items) w.out-is ∙ places-false c.loop-i.out.items filled i (omega arith) (read filled i c.get.result c.get.ensures ∙ w.if-get.false) c.loop-i.invariant
    ]

pub returns : goal.returns
returns c = places-all c.loop-i.out.items c.args.self.now c.loop-i.i (omega arith) c.loop-i.invariant
