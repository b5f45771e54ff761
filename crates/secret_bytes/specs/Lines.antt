-- The line of a share, the lines of several, and lines with one character changed or two neighbours exchanged.
use Rattle.std.specs.Prelude.{◌≡◌, ◌≢◌, ℕ, List, [], ◌∷◌, ◌++◌, true, codes}
use Rattle.secret_bytes.specs.declared.share.SecretShare.{SecretShare}
use Rattle.secret_bytes.specs.SecretShares.{share_spelling}
use Rattle.secret_bytes.specs.Letters.{grouped}
use Rattle.secret_bytes.specs.LineChecks.{check_bytes}

-- what stands before the check: the mark with the version, and the bytes of the share as letters
abbrev pub body_spelling : SecretShare → List ℕ
body_spelling s = codes "S1" ++ grouped true (share_spelling s)

-- a text, and after it its check as letters
abbrev pub with_check : List ℕ → List ℕ
with_check body = body ++ grouped true (check_bytes body)

-- the line of a share
abbrev pub line_spelling : SecretShare → List ℕ
line_spelling s = with_check (body_spelling s)

-- the line of each share, and the end of the line after it
abbrev pub lines_spelling : List SecretShare → List ℕ
lines_spelling [] = []
lines_spelling (s ∷ shares) = line_spelling s ++ (10 ∷ lines_spelling shares)

-- the texts differ in exactly one character
abbrev pub DifferInOne : List ℕ → List ℕ → Type 0
DifferInOne x y = (before : List ℕ) × (after : List ℕ) × (a : ℕ) × (b : ℕ) × (a ≢ b) × (x ≡ before ++ (a ∷ after)) × (y ≡ before ++ (b ∷ after))

-- the texts differ in that two neighbours, which are not equal, stand in the other order
abbrev pub DifferByExchange : List ℕ → List ℕ → Type 0
DifferByExchange x y = (before : List ℕ) × (after : List ℕ) × (a : ℕ) × (b : ℕ) × (a ≢ b) × (x ≡ before ++ (a ∷ b ∷ after)) × (y ≡ before ++ (b ∷ a ∷ after))

-- no line of a share becomes one of any share by one other character, or by the exchange of two neighbours
abbrev pub SlipsAreSeen : Type 0
SlipsAreSeen = (s u : SecretShare) → (¬ (DifferInOne (line_spelling s) (line_spelling u))) × (¬ (DifferByExchange (line_spelling s) (line_spelling u)))
