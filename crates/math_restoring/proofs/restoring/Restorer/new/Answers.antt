use Rattle.std.proofs.Common.{◌≡◌}
use Rattle.math_restoring.proofs.restoring.Restorer.new.Goals as goal

pub invariant_of-result : goal.invariant_of-result
invariant_of-result c =
    let D = c.in_ok-division.ensures in
    let same_indices : c.in_ok-indices.indices.items ≡ c.args.indices.now = c.in_ok-indices.ensures.items in
    record {
      tables = D.division.tables;
      divides = ∣ D.division ∣₁;
      below = rw (same_indices, D.sizes.0) c.requires.below;
      distinct = rw same_indices c.requires.distinct;
      are_places = rw (same_indices, D.sizes.0) c.in_ok-places.ensures;
      filled = rw (same_indices, D.points) c.in_ok-points.ensures.filled.1;
      count = rw (same_indices, D.points) c.in_ok-points.ensures.count;
    }
