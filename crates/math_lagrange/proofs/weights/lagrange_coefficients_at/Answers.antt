use Rattle.std.proofs.Common.{◌≡◌, ◌<◌, ◌≤◌, ◌^◌, ◌∙◌, length, subst, arith}
use Rattle.std.proofs.Math.Pow.{pow_mono}
use Rattle.std.specs.Map.{keys_of}
use Rattle.math_theory.specs.Recovery.{filled_places}
use Rattle.math_transforms.specs.RootWeights.{AreIndicesBelow}
use Rattle.math_transforms.proofs.PresentIndices.{lg-only, places-below}
use Rattle.math_lagrange.proofs.RootWeightCases.{indices-of}
use Rattle.math_lagrange.proofs.weights.lagrange_coefficients_at.Goals as goal

pub with_indices-requires-clause-below : goal.with_indices-requires-clause-below
with_indices-requires-clause-below g c k d l =
    let points = c.in_ok-points.points in
    let within : k < length (filled_places points) = rw c.in_ok-places.ensures at l in
    let most : 2 ^ c.lg_of_domain-lg.result ≤ 2 ^ 32 = pow_mono c.lg_of_domain-lg.ensures.small in
    rw c.in_ok-places.ensures (omega (arith, places-below points k d within, c.in_ok-points.ensures.size, most))

pub returns-clause-indices : goal.returns-clause-indices
returns-clause-indices g c =
    let made = c.in_ok-points.ensures.present in (
      made.0,
      made.1,
      made.2,
      made.3,
      subst (λ t. AreIndicesBelow t made.1 (keys_of c.in_ok-out.out.items)) c.get.ensures.value
          (indices-of c.get.result made.1 (keys_of c.in_ok-out.out.items) c.in_ok-points.points made.4 (c.in_ok-out.ensures.indices ∙ c.in_ok-places.ensures)),
    )

pub returns-clause-weights : goal.returns-clause-weights
returns-clause-weights g c = λ lg h.
    let same_lg : lg ≡ c.lg_of_domain-lg.result =
    lg-only c.args.total.value lg c.lg_of_domain-lg.result (omega (arith, c.get.ensures.nonzero, c.get.ensures.value)) h c.lg_of_domain-lg.ensures.value in
    rw (same_lg, c.in_ok-out.ensures.indices, c.in_ok-out.ensures.weights) (rw c.deref.ensures.value at c.in_ok-weights.ensures)
