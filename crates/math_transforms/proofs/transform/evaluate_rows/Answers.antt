use Rattle.math_transforms.proofs.transform.evaluate_rows.Goals as goal

pub returns-clause-values : goal.returns-clause-values
returns-clause-values g c = λ j k l m. rw (c.reverse_rows.ensures j k l m) (c.in_ok-evaluate_rows_reversed.ensures.values j k l m)
