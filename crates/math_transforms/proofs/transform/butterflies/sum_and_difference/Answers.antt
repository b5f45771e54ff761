use Rattle.math_transforms.proofs.transform.butterflies.sum_and_difference.Goals as goal

pub returns-clause-difference : goal.returns-clause-difference
returns-clause-difference g c =
    let F = g.met.F in
    F.Object.equality.transitive _ _ _ c.in_ok-sub_assign.ensures.ok (F.Additive.group.respects_sum _ _ _ _ c.in_ok-difference.ensures.ok (F.Object.equality.reflexive _))
