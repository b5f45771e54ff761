-- Words that are wrong.
use Rattle.std.proofs.Common.{ℕ, List, Result, Ok, Err}
use Rattle.std.specs.Prelude.{IfErr}
use Rattle.goldmath_commands.specs.declared.engine.ToolError.{ToolError}
use Rattle.goldmath_commands.specs.Answers.{IsUsage}
use Rattle.goldmath_commands.specs.Commands.{AreNoRecoverWords, AreWrongWords}
use Rattle.goldmath_commands.specs.Evaluations.{AreEvalWords}

-- words that are not those of `eval`, and wrong for `recover`, are wrong
pub wrong_for_both : {X : Type 0} (words : List (List ℕ)) (result : Result X ToolError) → ((point : ℕ) → AreEvalWords words point → ⊥)
    → IfErr result (λ fault. IsUsage fault → AreNoRecoverWords words) → IfErr result (λ fault. IsUsage fault → AreWrongWords words)
wrong_for_both words (Ok x) none h = h
wrong_for_both words (Err fault) none h = λ usage. (none, h usage)
