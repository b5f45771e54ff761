-- The room in which an interpolation makes rows.
use Rattle.std.specs.Prelude.{◌+◌, ◌*◌, ◌≤◌, List, length}
use Rattle.math_fields.specs.declared.goldilocks.F.{F}
use Rattle.row_interpolation.specs.declared.interpolation.Interpolation.{Interpolation}

-- the room has elements for the columns that are made at a time, and for what is made of them
abbrev pub IsRoomFor : Interpolation → List F → Type 0
IsRoomFor made room = (made.height + length made.targets.items) * made.cols ≤ length room
