use Rattle.std.proofs.Common.{◌≡◌, true, false, length, take, vec_capacity}
use Rattle.c_calls.specs.WordElements.{AreElements, elements}
use Rattle.c_calls.proofs.elements.elements_below.Given as goal

-- the elements of the words so far, the room for all, and whether the words so far are below P
abbrev pub invariant-loop-word : goal.invariant-loop-word
invariant-loop-word l = record {
  count : length l.out.items ≡ l.word-index;
  room : vec_capacity l.out ≡ length l.words;
  items : l.out.items ≡ elements (take l.word-index l.words);
  below : l.below ≡ true → AreElements (take l.word-index l.words);
  not_below : l.below ≡ false → ¬ (AreElements l.words);
}
