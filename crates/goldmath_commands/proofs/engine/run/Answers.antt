use Rattle.std.proofs.Common.{map, string_bytes, rules}
use Rattle.goldmath_commands.proofs.WrongWords.{wrong_for_both}
use Rattle.goldmath_commands.proofs.engine.run.Goals as goal

pub returns-in_err-evaluate_polynomial-in-Some-clause-words : goal.returns-in_err-evaluate_polynomial-in-Some-clause-words
returns-in_err-evaluate_polynomial-in-Some-clause-words c = record { usage = search rules; wrong = λ wrong. absurd (wrong.0 _ c.in-Some.ensures.written) }

pub returns-in_ok-evaluate_polynomial-in-Some-clause-words : goal.returns-in_ok-evaluate_polynomial-in-Some-clause-words
returns-in_ok-evaluate_polynomial-in-Some-clause-words c = record { usage = tt; wrong = λ wrong. absurd (wrong.0 _ c.in-Some.ensures.written) }

pub returns-in-None-clause-words : goal.returns-in-None-clause-words
returns-in-None-clause-words c = record {
  usage = wrong_for_both (map string_bytes c.args.words.now) c.run_recover.result (λ point h. let e = c.in-None.ensures.found point h in absurd (cc e)) c.run_recover.ensures.words.usage;
  wrong = λ wrong. c.run_recover.ensures.words.wrong wrong.1;
}

pub returns-in-None-clause-eval : goal.returns-in-None-clause-eval
returns-in-None-clause-eval c = λ point h. let e = c.in-None.ensures.found point h in absurd (cc e)
