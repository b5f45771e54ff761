-- A table of powers.
use Rattle.math_fields.specs.declared.goldilocks.F.{F}
use Rattle.math_values.specs.declared.values.PowerTable.{PowerTable}

-- the point of which a table has the first powers
abbrev pub point : PowerTable → F
point table = table.point
