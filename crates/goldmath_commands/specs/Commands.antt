-- The words of no command, and what the commands answer.
use Rattle.std.specs.Prelude.{◌≡◌, ℕ, List, length, Result, IfOk, IfErr, MatchResult}
use Rattle.std.specs.Global.{Vec}
use Rattle.math_fields.specs.declared.goldilocks.F.{F}
use Rattle.math_transforms.specs.Matrices.{MatrixOf}
use Rattle.goldmath_commands.specs.declared.engine.ToolError.{ToolError}
use Rattle.goldmath_commands.specs.Answers.{IsUsage, IsOutOfMemory, IsUsageOrOutOfMemory, Meets, WhereOutOfMemory}
use Rattle.goldmath_commands.specs.Evaluations.{AreEvalWords, IsEncodedPolynomial, PolynomialGrows, eval_line, scan_polynomial}
use Rattle.goldmath_commands.specs.Recoveries.{AreRecoverWords, EncodesRecovered, HasSize, IsEncodedMatrix, scan_rows}

-- the words are not `recover`, LG and rows
abbrev pub AreNoRecoverWords : List (List ℕ) → Type 0
AreNoRecoverWords words = (lg : ℕ) (rows : List ℕ) → AreRecoverWords words lg rows → ⊥

-- the words are no command
abbrev pub AreWrongWords : List (List ℕ) → Type 0
AreWrongWords words = ((point : ℕ) → AreEvalWords words point → ⊥) × AreNoRecoverWords words

-- only wrong words are refused with `Usage`; and they are, or memory ran out
pub record IsUsageExactly (AreWrong : Type 0) (result : Result (Vec ℕ) ToolError) : Type 0 where
  pub usage : IfErr result (λ fault. IsUsage fault → AreWrong)
  pub wrong : AreWrong → MatchResult result (λ _. ⊥) IsUsageOrOutOfMemory

-- the answer at the point: only the value of the polynomial that the bytes encode, wherever they encode one, memory aside; and otherwise
-- their first fault
pub record AnswersEvalAt (point : ℕ) (bytes : List ℕ) (result : Result (Vec ℕ) ToolError) : Type 0 where
  pub eval : IfOk result (λ line. (p : List F) × IsEncodedPolynomial bytes p × (line.items ≡ eval_line p point))
  pub eval_encoded : (p : List F) → IsEncodedPolynomial bytes p → MatchResult result (λ line. line.items ≡ eval_line p point) IsOutOfMemory
  pub eval_exact : Meets result (scan_polynomial bytes)
  pub eval_memory : IfErr result (λ fault. WhereOutOfMemory fault (PolynomialGrows bytes))

-- where the words are `eval` and a point, it is the answer at the point
abbrev pub AnswersEval : List (List ℕ) → List ℕ → Result (Vec ℕ) ToolError → Type 0
AnswersEval words bytes result = (point : ℕ) → AreEvalWords words point → AnswersEvalAt point bytes result

-- the answer for lg and the rows: only the encoding of the one matrix that is recovered from the matrix which the bytes encode, wherever
-- they encode one of the right size, memory aside; and otherwise their first fault
pub record AnswersRecoverAt (lg : ℕ) (rows : List ℕ) (bytes : List ℕ) (result : Result (Vec ℕ) ToolError) : Type 0 where
  pub recover : IfOk result (λ out. (m : MatrixOf F) × IsEncodedMatrix bytes m × EncodesRecovered lg rows m out.items)
  pub recover_encoded : (m : MatrixOf F) → IsEncodedMatrix bytes m → HasSize lg (length rows) m → MatchResult result (λ out. EncodesRecovered lg rows m out.items) IsOutOfMemory
  pub recover_exact : Meets result (scan_rows lg (length rows) bytes)

-- where the words are `recover`, LG and rows, it is the answer for these
abbrev pub AnswersRecover : List (List ℕ) → List ℕ → Result (Vec ℕ) ToolError → Type 0
AnswersRecover words bytes result = (lg : ℕ) (rows : List ℕ) → AreRecoverWords words lg rows → AnswersRecoverAt lg rows bytes result
