use Rattle.std.proofs.Common.{◌≡◌, ◌++◌, take}
use Rattle.c_calls.specs.WordElements.{elements}
use Rattle.c_calls.proofs.rows.push_elements.Given as goal

-- the elements of the words so far behind what was there
abbrev pub invariant-loop-word : goal.invariant-loop-word
invariant-loop-word l = l.out.items ≡ l.initial.out.items ++ elements (take l.word-index l.words)
