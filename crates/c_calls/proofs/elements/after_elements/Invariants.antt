use Rattle.std.proofs.Common.{◌≡◌, ◌-◌, ◌++◌, ℕ, List, length}
use Rattle.math_codec.specs.Lists.{scan_items}
use Rattle.math_fields.specs.ElementEncoding.{scan_element}
use Rattle.c_calls.specs.WordElements.{AreElements}
use Rattle.c_calls.proofs.WrittenWords.{bytes_of}
use Rattle.c_calls.proofs.elements.after_elements.Given as goal

-- the words so far stand in front of what is left
abbrev pub invariant-loop : goal.invariant-loop
invariant-loop l = record {
  taken : (words : List ℕ) × (length words ≡ l.counter) × AreElements words × (l.bytes ≡ bytes_of words ++ l.rest);
  exact : scan_items scan_element (l.count - l.counter) l.rest ≡ scan_items scan_element l.count l.bytes;
}
