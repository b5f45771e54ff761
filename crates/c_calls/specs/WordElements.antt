-- Words as elements of the Goldilocks field.
use Rattle.std.specs.Prelude.{ℕ, List, map}
use Rattle.math_fields.specs.declared.goldilocks.F.{F}
use Rattle.math_fields.specs.Elements.{number}
pub use Rattle.math_fields.specs.Elements.{goldilocks}
pub use Rattle.math_values.specs.Values.{AreElements, elements}

-- the numbers of elements
abbrev pub numbers : List F → List ℕ
numbers items = map number items
