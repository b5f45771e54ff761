-- What the program answers.
use Rattle.std.specs.Prelude.{◌≡◌, ◌⊎◌, Result, Ok, Err, IfNone}
use Rattle.math_codec.specs.Faults.{Fault, fault_of, Reports, IsMemory}
use Rattle.goldmath_commands.specs.declared.engine.ToolError.{ToolError}
use Rattle.goldmath_commands.specs.declared.engine.ToolError.TheVariants.{Usage, Refused}

-- the words are wrong
abbrev pub IsUsage : ToolError → Type 0
IsUsage Usage = Unit {0}
IsUsage (Refused error) = ⊥

-- memory ran out
abbrev pub IsOutOfMemory : ToolError → Type 0
IsOutOfMemory Usage = ⊥
IsOutOfMemory (Refused error) = IsMemory error

-- the words are wrong, or memory ran out
abbrev pub IsUsageOrOutOfMemory : ToolError → Type 0
IsUsageOrOutOfMemory fault = IsUsage fault ⊎ IsOutOfMemory fault

-- the refusal reports the expected fault, or memory ran out
abbrev pub Refuses : {A : Type 0} → ToolError → Result A Fault → Type 0
Refuses Usage expected = ⊥
Refuses (Refused error) expected = Reports error expected

-- an answer where no fault was expected, or the refusal of the fault
abbrev pub Meets : {X A : Type 0} → Result X ToolError → Result A Fault → Type 0
Meets (Ok x) expected = (a : _) × (expected ≡ Ok a)
Meets (Err e) expected = Refuses e expected

-- where memory ran out, P holds
abbrev pub WhereOutOfMemory : ToolError → Type 0 → Type 0
WhereOutOfMemory Usage P = Unit {0}
WhereOutOfMemory (Refused error) P = IfNone (fault_of error) P
