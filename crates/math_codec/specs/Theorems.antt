-- What the laws say.
use Rattle.std.specs.Prelude.{◌≡◌, ◌⊎◌, ◌↔◌, ℕ, ◌<◌, ◌≤◌, ◌^◌, List, ◌++◌, length, Result, Ok, Err}
use Rattle.std.specs.List.{All}
use Rattle.math_codec.specs.Faults.{Fault, EndOfBuffer, InvalidVarint}
use Rattle.math_codec.specs.Lengths.{length_spelling, length_at, SpellsLength}

-- each number below 2^32 is spelled, by its groups
abbrev pub EachLengthIsSpelled : Type 0
EachLengthIsSpelled = (n : ℕ) → n < 2 ^ 32 → SpellsLength n (length_spelling n)

-- a number has no other spelling than its groups
abbrev pub EachLengthHasOneSpelling : Type 0
EachLengthHasOneSpelling = (n : ℕ) (bytes : List ℕ) → SpellsLength n bytes → bytes ≡ length_spelling n

-- only numbers below 2^32 are spelled
abbrev pub OnlyLengthsAreSpelled : Type 0
OnlyLengthsAreSpelled = (n : ℕ) (bytes : List ℕ) → SpellsLength n bytes → n < 2 ^ 32

-- a length is read exactly where a spelling of it stands in front of the rest
abbrev pub LengthIsReadWhereSpelled : Type 0
LengthIsReadWhereSpelled = (n : ℕ) (bytes rest : List ℕ) → All (λ byte. byte < 256) bytes
    → (length_at bytes ≡ Ok (n, rest)) ↔ ((spelling : List ℕ) × SpellsLength n spelling × (bytes ≡ spelling ++ rest))

-- a read of a length meets the end exactly where fewer than five bytes remain, each with bit 7 set
abbrev pub LengthEndsWhereMarked : Type 0
LengthEndsWhereMarked = (bytes : List ℕ) → (length_at bytes ≡ Err EndOfBuffer) ↔ ((length bytes < 5) × All (λ byte. 128 ≤ byte) bytes)

-- every other fault of a length is an invalid varint
abbrev pub OtherLengthsAreInvalid : Type 0
OtherLengthsAreInvalid = (bytes : List ℕ) (fault : Fault) → length_at bytes ≡ Err fault → (fault ≡ EndOfBuffer) ⊎ (fault ≡ InvalidVarint)

-- where two spellings begin the same bytes, they are one spelling, of one value, and what follows is the same
abbrev pub NoSpellingBeginsAnother : {T : Type 0} → (T → List ℕ) → (T → Type 0) → (T → T → Type 0) → Type 0
NoSpellingBeginsAnother {T} spelling admits alike = (v w : T) (x y : List ℕ) → admits v → admits w → spelling v ++ x ≡ spelling w ++ y → alike v w × (spelling v ≡ spelling w) × (x ≡ y)

-- where a value is spelled in front, reading meets no fault, and takes that spelling
abbrev pub TakesEachSpelling : {T : Type 0} → (T → List ℕ) → (T → Type 0) → (List ℕ → Result (List ℕ) Fault) → Type 0
TakesEachSpelling {T} spelling admits scan = (v : T) (bytes rest : List ℕ) → admits v → bytes ≡ spelling v ++ rest → scan bytes ≡ Ok rest
