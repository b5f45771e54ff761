use Rattle.std.proofs.Common.{◌≡◌, take}
use Rattle.c_calls.specs.WordElements.{numbers}
use Rattle.c_calls.proofs.elements.write_numbers.Given as goal

-- the numbers of the elements so far
abbrev pub invariant-loop-i : goal.invariant-loop-i
invariant-loop-i l = take l.i l.words ≡ numbers (take l.i l.items)
