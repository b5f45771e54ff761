-- Lanes of vectors as elements.
use Rattle.std.specs.Prelude.{◌≡◌, ℕ, List, slice_index}
use Rattle.math_fields.specs.Elements.{number}
use Rattle.math_fields.specs.declared.goldilocks.F.{F}

-- lane j is the number of the element
abbrev pub IsLane : List ℕ → ℕ → F → Type 0
IsLane lanes j x = slice_index lanes j ≡ number x
