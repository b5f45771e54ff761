use Rattle.std.proofs.Common.{◌≡◌, ◌∙◌, ◌^◌, sym, ap, drop, true, arith}
use Rattle.secret_bytes.specs.Letters.{grouped}
use Rattle.secret_bytes.specs.SecretShares.{share_spelling}
use Rattle.secret_bytes.proofs.AdmittedShares.{admits-more}
use Rattle.secret_bytes.proofs.SharesAreBytes.{share-bytes}
use Rattle.secret_bytes.proofs.line.share_of_body.Goals as goal

pub returns-in_default-2-clause-again : goal.returns-in_default-2-clause-again
returns-in_default-2-clause-again c = λ s h e.
    let letters : c.in-Some.letters.now ≡ grouped true (share_spelling s) = ap (drop 2) (sym c.in-Some.ensures.some ∙ e) in
    (rw c.in_default-2.is at c.in_ok-bytes.ensures.none) (share_spelling s) (share-bytes 1048576 s h) letters

pub returns-in-Ok-clause-again : goal.returns-in-Ok-clause-again
returns-in-Ok-clause-again c = λ s h e.
    let letters : c.in-Some.letters.now ≡ grouped true (share_spelling s) = ap (drop 2) (sym c.in-Some.ensures.some ∙ e) in
    let found : c.in-Some-2.bytes.items ≡ share_spelling s = (rw c.in-Some-2.is at c.in_ok-bytes.ensures.again) (share_spelling s) (share-bytes 1048576 s h) letters in
    c.in-Ok.ensures.again s (admits-more (2 ^ 20) _ s (omega arith) h) (c.deref.ensures.value ∙ found)

pub returns : goal.returns
returns c = record {
  taken = tt;
  admitted = tt;
  again = λ s h e.
      let letters : c.in-Some.letters.now ≡ grouped true (share_spelling s) = ap (drop 2) (sym c.in-Some.ensures.some ∙ e) in
      let found : c.in-Some-2.bytes.items ≡ share_spelling s = (rw c.in-Some-2.is at c.in_ok-bytes.ensures.again) (share_spelling s) (share-bytes 1048576 s h) letters in
      c.refusal.ensures.memory.0 (c.in-Err.ensures.again s (admits-more (2 ^ 20) _ s (omega arith) h) (c.deref.ensures.value ∙ found));
  due = c.refusal.ensures.due;
}
