-- How the lines of a text are gathered to shares, one after the other.
use Rattle.std.specs.Prelude.{◌≡◌, ◌+◌, ◌<◌, ◌≤◌, ℕ, false, List, [], ◌∷◌, ◌++◌, length}
use Rattle.secret_bytes.specs.Readings.{has_mark, letters_of}
use Rattle.secret_bytes.specs.Texts.{all_letters, going_on, text_lines}

-- the first of the lines, and those after it up to the next that begins a share
abbrev pub own_lines : List (List ℕ) → List (List ℕ)
own_lines [] = []
own_lines (line ∷ lines) = line ∷ going_on lines

-- the text has a first line, which begins no share and has these letters, and this is what follows it
pub record IsNextGoingOn (text letters after : List ℕ) : Type 0 where
  pub line : List ℕ
  pub lines : text_lines text ≡ line ∷ text_lines after
  pub unmarked : has_mark (letters_of line) ≡ false
  pub has : letters ≡ letters_of line
  pub shorter : length after < length text

-- the text goes on, after lines without letters, with the line of this number
pub record IsPassed (text : List ℕ) (number : ℕ) (rest : List ℕ) : Type 0 where
  pub before : List (List ℕ)
  pub lines : text_lines text ≡ before ++ text_lines rest
  pub none : all_letters before ≡ []
  pub place : number ≡ length before + 1
  pub few : number + length rest ≤ length text + 1

-- the text is empty or begins with a share
abbrev pub IsAtShare : List ℕ → Type 0
IsAtShare text = going_on (text_lines text) ≡ []

-- `count` lines are the first one and those that go on with it, and this is what follows them
pub record AreOwn (text : List ℕ) (count : ℕ) (after : List ℕ) : Type 0 where
  pub lines : text_lines text ≡ own_lines (text_lines text) ++ text_lines after
  pub number : count ≡ length (own_lines (text_lines text))
  pub some : 0 < count
  pub at_share : IsAtShare after
  pub few : count + length after ≤ length text
