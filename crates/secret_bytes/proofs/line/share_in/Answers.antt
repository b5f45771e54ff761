use Rattle.std.proofs.Common.{◌≡◌, ◌∙◌, ◌++◌, inl, length, true, sym, arith}
use Rattle.secret_bytes.specs.Letters.{grouped}
use Rattle.secret_bytes.specs.LineChecks.{check_bytes}
use Rattle.secret_bytes.specs.Lines.{body_spelling}
use Rattle.secret_bytes.proofs.LinesRead.{line_taken, line_parts, equal_texts, different_texts, none_due}
use Rattle.secret_bytes.proofs.line.share_in.Goals as goal

pub returns-then-ne-clause-again : goal.returns-then-ne-clause-again
returns-then-ne-clause-again c = λ s h e.
    let body = c.split_at.result.0.now in
    let check = c.split_at.result.1.now in
    let twenty : length check ≡ 20 = omega (arith, c.split_at.ensures.back_len, c.if-text-lt-CHECK_SIZE.false) in
    let parts = line_parts (body_spelling s) c.args.text.now body check c.split_at.ensures.by_index.0 twenty e in
    let due : c.push_check.new.out.items ≡ c.new-due.result.items ++ grouped true (check_bytes body) = c.in_ok-push_check.ensures in
    let same : c.as_slice.result.now ≡ grouped true (check_bytes body) = c.as_slice.ensures.value ∙ (rw c.new-due.ensures.items at due) in
    different_texts check c.as_slice.result.now (sym c.ne.ensures ∙ c.if-ne.true) (parts.1 ∙ sym same)

pub returns-clause-taken : goal.returns-clause-taken
returns-clause-taken c =
    let body = c.split_at.result.0.now in
    let check = c.split_at.result.1.now in
    let due : c.push_check.new.out.items ≡ c.new-due.result.items ++ grouped true (check_bytes body) = c.in_ok-push_check.ensures in
    let same : c.as_slice.result.now ≡ grouped true (check_bytes body) = c.as_slice.ensures.value ∙ (rw c.new-due.ensures.items at due) in
    line_taken c.share_of_body.result c.args.text.now body check c.as_slice.result.now c.split_at.ensures.by_index.0 same
    (equal_texts check c.as_slice.result.now (sym c.ne.ensures ∙ c.if-ne.false)) c.share_of_body.ensures.taken

pub returns-clause-again : goal.returns-clause-again
returns-clause-again c = λ s h e.
    let body = c.split_at.result.0.now in
    let check = c.split_at.result.1.now in
    let twenty : length check ≡ 20 = omega (arith, c.split_at.ensures.back_len, c.if-text-lt-CHECK_SIZE.false) in
    let parts = line_parts (body_spelling s) c.args.text.now body check c.split_at.ensures.by_index.0 twenty e in
    c.share_of_body.ensures.again s h parts.0

pub returns-then-text-lt-CHECK_SIZE-clause-due : goal.returns-then-text-lt-CHECK_SIZE-clause-due
returns-then-text-lt-CHECK_SIZE-clause-due c = inl (omega (arith, c.if-text-lt-CHECK_SIZE.true))

pub returns-then-ne-clause-due : goal.returns-then-ne-clause-due
returns-then-ne-clause-due c =
    let body = c.split_at.result.0.now in
    let check = c.split_at.result.1.now in
    let twenty : length check ≡ 20 = omega (arith, c.split_at.ensures.back_len, c.if-text-lt-CHECK_SIZE.false) in
    let due : c.push_check.new.out.items ≡ c.new-due.result.items ++ grouped true (check_bytes body) = c.in_ok-push_check.ensures in
    let same : c.as_slice.result.now ≡ grouped true (check_bytes body) = c.as_slice.ensures.value ∙ (rw c.new-due.ensures.items at due) in (
      omega (arith, c.if-text-lt-CHECK_SIZE.false),
      λ (b, e).
          let parts = line_parts b c.args.text.now body check c.split_at.ensures.by_index.0 twenty e in
          different_texts check c.as_slice.result.now (sym c.ne.ensures ∙ c.if-ne.true) (parts.1 ∙ sym same),
    )

pub returns-clause-due : goal.returns-clause-due
returns-clause-due c =
    let body = c.split_at.result.0.now in
    let check = c.split_at.result.1.now in
    let due : c.push_check.new.out.items ≡ c.new-due.result.items ++ grouped true (check_bytes body) = c.in_ok-push_check.ensures in
    let same : c.as_slice.result.now ≡ grouped true (check_bytes body) = c.as_slice.ensures.value ∙ (rw c.new-due.ensures.items at due) in
    none_due c.share_of_body.result c.args.text.now body check c.as_slice.result.now c.split_at.ensures.by_index.0 same
    (equal_texts check c.as_slice.result.now (sym c.ne.ensures ∙ c.if-ne.false)) c.share_of_body.ensures.due
