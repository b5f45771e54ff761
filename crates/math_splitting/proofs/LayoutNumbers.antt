-- The numbers of a layout.
use Rattle.std.proofs.Common.{◌^◌, refl, arith}
use Rattle.std.specs.Int.{IsNextPowerOfTwo}
use Rattle.math_splitting.specs.declared.shards.layouts.Layout.{Layout}

-- its points are the least power of two that is `total` or more
pub next_of : (layout : Layout) → IsNextPowerOfTwo layout.total (2 ^ layout.lg)
next_of layout = ((layout.lg, refl), layout.points, omega (arith, layout.least, layout.some, layout.within))
