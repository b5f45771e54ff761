use Rattle.math_transforms.proofs.transform.butterflies.combine_rows.Goals as goal

pub combine_columns-requires-clause-one : goal.combine_columns-requires-clause-one
combine_columns-requires-clause-one g c = λ _. g.met.F.Object.equality.transitive _ _ _ (c.in_ok-at_one.ensures.ok.0 c.if-at_one.true) c.in_ok-one.ensures.ok
