-- Arguments that are iterators, or become iterators.
use Rattle.std.specs.Prelude.{List}

-- x becomes an iterator from whose start `gives` says which items it gives, and P holds of these items
abbrev pub ItemsMeet : {U S A : Type 0} → (U → S → Type 0) → (S → List A → Type 0) → U → (List A → Type 0) → Type 0
ItemsMeet {S = S} {A = A} becomes gives x P = (start : S) × (items : List A) × becomes x start × gives start items × P items
