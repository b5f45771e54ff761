use Rattle.std.proofs.Common.{refl}
use Rattle.math_ntt.proofs.PaddedPolynomials.{next_power_of_two-once}
use Rattle.rows_runs.proofs.calls.root_weights.domain_of.Goals as goal

pub returns : goal.returns
returns g c = λ lg next.
    c.if-not-has_domain.ensures refl lg (next_power_of_two-once _ _ _ c.in-Some-checked_next_power_of_two.ensures (rw c.get.ensures.value next))
