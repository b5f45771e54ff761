use Rattle.std.proofs.Common.{◌∙◌, refl}
use Rattle.math_ntt.proofs.PaddedPolynomials.{next_power_of_two-once}
use Rattle.rows_ntt.proofs.transforms.evaluated_columns.Goals as goal

pub evaluate_counted-values-requires-clause-domain : goal.evaluate_counted-values-requires-clause-domain
evaluate_counted-values-requires-clause-domain g c = λ lg e.
    let same = next_power_of_two-once _ _ _ c.in-Some.ensures (rw c.in-Some-2.is at c.in_ok-v.ensures) in
    c.if-not-has_domain.ensures refl lg (same ∙ e)
