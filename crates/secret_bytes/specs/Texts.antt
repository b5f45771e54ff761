-- The lines of a text, and the shares that they are.
use Rattle.std.specs.Prelude.{◌≡◌, ◌⊎◌, ◌+◌, ◌<◌, ◌≤◌, ◌^◌, ◌==◌, ℕ, List, [], ◌∷◌, ◌++◌, if◌then◌else◌, length, map, take, All}
use Rattle.std.specs.List.{AllZip, onto_first, range_with_len}
use Rattle.secret_bytes.specs.declared.share.SecretShare.{SecretShare}
use Rattle.secret_bytes.specs.Lines.{line_spelling, lines_spelling}
use Rattle.secret_bytes.specs.Readings.{has_mark, letters_of, plain}
use Rattle.secret_bytes.specs.Refusals.{IsDueRefusal, IsMemory}
use Rattle.secret_bytes.specs.SecretShares.{AdmitsShare, AreSameShares}
use Rattle.secret_bytes.specs.declared.line.LineError.{LineError}
use Rattle.secret_bytes.specs.declared.line.LineError.TheVariants.{Behind, NoShare}
use Rattle.secret_bytes.specs.declared.text.LineFault.{LineFault}

-- the lines of a text, without their ends: each goes up to the next byte 10, the last one perhaps up to the end of the text
abbrev pub text_lines : List ℕ → List (List ℕ)
text_lines [] = []
text_lines (b ∷ text) = if b == 10 then [] ∷ text_lines text else onto_first b (text_lines text)

-- of the lines, those before the first that begins a share
abbrev pub going_on : List (List ℕ) → List (List ℕ)
going_on [] = []
going_on (line ∷ lines) = if has_mark (letters_of line) then [] else line ∷ going_on lines

-- the letters of the lines, one line after the other
abbrev pub all_letters : List (List ℕ) → List ℕ
all_letters [] = []
all_letters (line ∷ lines) = letters_of line ++ all_letters lines

-- for each line that begins a share its number, counted from n, and this line with those after it up to the next that begins a share
abbrev pub parts : ℕ → List (List ℕ) → List (ℕ × List (List ℕ))
parts n [] = []
parts n (line ∷ lines) = if has_mark (letters_of line) then (n, line ∷ going_on lines) ∷ parts (n + 1) lines else parts (n + 1) lines

-- the letters, written plainly, are the line of the share
abbrev pub IsLineOf : List ℕ → SecretShare → Type 0
IsLineOf text s = plain text ≡ line_spelling s

-- the letters are the line of the share, which has at most 2^20 values, and of no share that is not the same
pub record IsReadAs (text : List ℕ) (s : SecretShare) : Type 0 where
  pub admitted : AdmitsShare (2 ^ 20) s
  pub line : IsLineOf text s
  pub only : (u : SecretShare) → AdmitsShare (2 ^ 20) u → IsLineOf text u → AreSameShares s u

-- the letters are the line of no share of at most 2^20 values
abbrev pub IsOfNone : List ℕ → Type 0
IsOfNone text = (s : SecretShare) → AdmitsShare (2 ^ 20) s → ¬ (IsLineOf text s)

-- the lines before the first that begins a share have no letters; the letters of each that begins one, and of those that go on with it, fit the share at its place; and these lines have these numbers
pub record FitShares (fits : List ℕ → SecretShare → Type 0) (lines : List (List ℕ)) (shares : List SecretShare) (numbers : List ℕ) : Type 0 where
  pub before : all_letters (going_on lines) ≡ []
  pub fit : AllZip (λ part s. fits (all_letters part.1) s) (parts 1 lines) shares
  pub places : numbers ≡ map (λ part. part.0) (parts 1 lines)

-- the lines of the text are the lines of these shares, in order, each in one line or in several, and these are the numbers of the lines
-- that they begin with, from 1 on
abbrev pub AreLinesOf : List ℕ → List SecretShare → List ℕ → Type 0
AreLinesOf text shares numbers = FitShares IsLineOf (text_lines text) shares numbers

-- the lines of the text are the lines of these shares, in order, and of no shares that are not the same, and these are the numbers of the
-- lines that they begin with, from 1 on
abbrev pub AreReadAs : List ℕ → List SecretShare → List ℕ → Type 0
AreReadAs text shares numbers = FitShares IsReadAs (text_lines text) shares numbers

-- the line of this number is the first that has letters, and neither it nor one before begins a share
pub record IsFirstStray (text : List ℕ) (number : ℕ) : Type 0 where
  pub before : List (List ℕ)
  pub line : List ℕ
  pub after : List (List ℕ)
  pub split : going_on (text_lines text) ≡ before ++ (line ∷ after)
  pub none : all_letters before ≡ []
  pub some : 0 < length (letters_of line)
  pub place : number ≡ length before + 1

-- the letter at place k stands in the line of this number, where the first of the lines has the number n
pub record IsInLine (n : ℕ) (lines : List (List ℕ)) (k number : ℕ) : Type 0 where
  pub before : List (List ℕ)
  pub line : List ℕ
  pub after : List (List ℕ)
  pub split : lines ≡ before ++ (line ∷ after)
  pub place : number ≡ n + length before
  pub from : length (all_letters before) ≤ k
  pub below : k < length (all_letters before) + length (letters_of line)

-- why lines are refused of which the first has the number n and begins a share, and the number of the line that is meant: the first k
-- letters are the line of a share, and the next letter stands in that line; or the letters are the line of no share for this reason, and
-- the line is the first
abbrev pub IsDueAt : ℕ → List (List ℕ) → ℕ → LineError → Type 0
IsDueAt n lines number Behind = (k : ℕ) × (s : SecretShare) × IsLineOf (take k (all_letters lines)) s × IsInLine n lines k number
IsDueAt n lines number why = (number ≡ n) × IsDueRefusal (plain (all_letters lines)) why

-- in the line of this number, or from it on, stands the first that is no share, and this is why
pub record IsFirstWrong (text : List ℕ) (number : ℕ) (why : LineError) : Type 0 where
  pub before : all_letters (going_on (text_lines text)) ≡ []
  pub read : List (ℕ × List (List ℕ))
  pub n : ℕ
  pub lines : List (List ℕ)
  pub after : List (ℕ × List (List ℕ))
  pub split : parts 1 (text_lines text) ≡ read ++ ((n, lines) ∷ after)
  pub shares : List SecretShare
  pub fit : AllZip (λ part s. IsReadAs (all_letters part.1) s) read shares
  pub none : IsOfNone (all_letters lines)
  pub due : IsDueAt n lines number why

-- the number and the reason belong to a line that begins no share and goes on with none, or to the first share that is none
abbrev pub IsFirstNoLine : List ℕ → ℕ → LineError → Type 0
IsFirstNoLine text number why = (IsFirstStray text number × (why ≡ NoShare)) ⊎ IsFirstWrong text number why

-- memory ran out, or the fault names the first line that is none, and says why
abbrev pub IsDueReading : List ℕ → LineFault → Type 0
IsDueReading text fault = IsMemory fault.why ⊎ IsFirstNoLine text fault.number fault.why

-- the lines of shares that can be lines are refused only because memory ran out, and read as shares that are the same, with their numbers
-- from 1 on
abbrev pub LinesAreReadBack : Type 0
LinesAreReadBack = (shares : List SecretShare) → All (AdmitsShare (2 ^ 20)) shares
    → ((fault : LineFault) → IsDueReading (lines_spelling shares) fault → IsMemory fault.why)
    × ((found : List SecretShare) (numbers : List ℕ) → AreReadAs (lines_spelling shares) found numbers → AllZip AreSameShares found shares × (numbers ≡ range_with_len 1 (length shares)))
