-- The places at which a restorer works.
use Rattle.std.proofs.Common.{◌≡◌, ℕ, ◌<◌, ◌^◌, length, get_or, arith}
use Rattle.math_theory.proofs.transforms.BitOrder.{bit_reversed-below}
use Rattle.math_restoring.specs.declared.restoring.Restorer.{Restorer}
use Rattle.math_restoring.specs.Restored.{AreDistinct}
use Rattle.math_restoring.specs.Restorers.{indices_of, lg_of, places_of}
use Rattle.math_restoring.proofs.PlacedRows.{distinct-places}

-- there is one for each index
pub places-count : (r : Restorer) → length (places_of r) ≡ length (indices_of r)
places-count r = r.are_places.count

-- no two are equal
pub places-distinct : (r : Restorer) → AreDistinct (places_of r)
places-distinct r = distinct-places r.division.lg r.indices.items r.places.items r.below r.distinct r.are_places

-- each is a row of the room
pub place-inside : (r : Restorer) (t : ℕ) → t < length (indices_of r) → get_or (places_of r) t 0 < 2 ^ lg_of r
place-inside r t l = omega (arith, r.are_places.each t l, bit_reversed-below r.division.lg (get_or r.indices.items t 0))
