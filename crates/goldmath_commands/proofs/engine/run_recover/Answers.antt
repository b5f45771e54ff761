use Rattle.std.proofs.Common.{rules}
use Rattle.std.proofs.lemmas.Bool.{false≢true}
use Rattle.goldmath_commands.proofs.engine.run_recover.Goals as goal

pub returns-in_err-recover_matrix-in-Some-clause-recover : goal.returns-in_err-recover_matrix-in-Some-clause-recover
returns-in_err-recover_matrix-in-Some-clause-recover c = λ lg rows w.
    let found = rw c.in-Some.is at (c.in_ok-recovery.ensures.found lg rows w) in
    let exact = rw (found.1.0, found.1.1) at c.in_err-recover_matrix-in-Some.ensures.exact in
    record {
      recover = search rules;
      recover_encoded = λ m h size.
          let encoded = rw (found.1.0, found.1.1) at (c.in_err-recover_matrix-in-Some.ensures.encoded m h) in
          let refused = encoded size in
          search rules;
      recover_exact = search rules;
    }

pub returns-in_ok-recover_matrix-in-Some-clause-recover : goal.returns-in_ok-recover_matrix-in-Some-clause-recover
returns-in_ok-recover_matrix-in-Some-clause-recover c = λ lg rows w.
    let found = rw c.in-Some.is at (c.in_ok-recovery.ensures.found lg rows w) in
    record {
      recover = rw (found.1.0, found.1.1) at c.in_ok-recover_matrix-in-Some.ensures.answer;
      recover_encoded = λ m h size. let encoded = rw (found.1.0, found.1.1) at (c.in_ok-recover_matrix-in-Some.ensures.encoded m h) in encoded size;
      recover_exact = (tt, rw (found.1.0, found.1.1) at c.in_ok-recover_matrix-in-Some.ensures.exact);
    }

pub returns-in-None-clause-words : goal.returns-in-None-clause-words
returns-in-None-clause-words c = record {
  usage = λ _ lg rows w. let found = rw c.in-None.is at (c.in_ok-recovery.ensures.found lg rows w) in absurd (false≢true found.0);
  wrong = search rules;
}

pub returns-in-None-clause-recover : goal.returns-in-None-clause-recover
returns-in-None-clause-recover c = λ lg rows w. let found = rw c.in-None.is at (c.in_ok-recovery.ensures.found lg rows w) in absurd (false≢true found.0)
