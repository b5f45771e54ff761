use Rattle.std.proofs.Common.{◌≡◌, length, take, vec_capacity}
use Rattle.c_calls.specs.WordElements.{elements}
use Rattle.c_calls.proofs.elements.elements.Given as goal

-- the elements of the words so far, and the room for all
abbrev pub invariant-loop-word : goal.invariant-loop-word
invariant-loop-word l = record {
  count : length l.out.items ≡ l.word-index;
  room : vec_capacity l.out ≡ length l.words;
  items : l.out.items ≡ elements (take l.word-index l.words);
}
