-- A text that is cut before its last twenty characters, and the line that it is.
use Rattle.std.proofs.Common.{◌≡◌, ◌∙◌, ℕ, List, ◌++◌, length, true, false, true≢false, not, nat_eq, ◌⊎◌, inl, inr, Result, Ok, Err, IfOk, IfErr, refl, sym, ap, arith}
use Rattle.std.specs.Cmp.{unsigned_Decides}
use Rattle.std.specs.Cmp.Lexicographic.{pointwise}
use Rattle.std.proofs.lemmas.Bool.{not-true, not-false}
use Rattle.std.proofs.lemmas.Slice.Eq.{slice_eq-Decides}
use Rattle.std.proofs.lemmas.List.{length-append}
use Rattle.secret_bytes.specs.declared.share.SecretShare.{SecretShare}
use Rattle.secret_bytes.specs.Letters.{grouped}
use Rattle.secret_bytes.specs.LineChecks.{check_bytes}
use Rattle.secret_bytes.specs.Lines.{body_spelling, line_spelling, with_check}
use Rattle.secret_bytes.specs.Refusals.{IsDueRefusal, IsMemory}
use Rattle.secret_bytes.specs.declared.line.LineError.{LineError}
use Rattle.secret_bytes.specs.declared.line.LineError.TheVariants.{Behind, Memory, NoShare, Mistyped}
use Rattle.secret_bytes.proofs.SeenSlips.{equal_parts, length-check}

-- a test for a difference of texts finds none
pub equal_texts : (a b : List ℕ) → not (pointwise nat_eq a b) ≡ false → a ≡ b
equal_texts a b h = (slice_eq-Decides unsigned_Decides a b (pointwise nat_eq a b) refl).0 (not-false (pointwise nat_eq a b) h)

-- a test for a difference of texts finds one
pub different_texts : (a b : List ℕ) → not (pointwise nat_eq a b) ≡ true → a ≡ b → ⊥
different_texts a b h e =
    let equal : pointwise nat_eq a b ≡ true = (slice_eq-Decides unsigned_Decides a b (pointwise nat_eq a b) refl).1 e in
    true≢false (sym equal ∙ not-true (pointwise nat_eq a b) h)

pub line_taken : {X : Type 0} (r : Result SecretShare X) (text body check due : List ℕ) → text ≡ body ++ check → due ≡ grouped true (check_bytes body) → check ≡ due
    → IfOk r (λ s. body ≡ body_spelling s) → IfOk r (λ s. text ≡ line_spelling s)
line_taken (Ok s) text body check due e d k h = e ∙ ap (λ x. body ++ x) (k ∙ d) ∙ ap (λ x. x ++ grouped true (check_bytes x)) h
line_taken (Err x) text body check due e d k h = tt

pub line_parts : (b text body check : List ℕ) → text ≡ body ++ check → length check ≡ 20 → text ≡ with_check b → (body ≡ b) × (check ≡ grouped true (check_bytes body))
line_parts b text body check e n h =
    let due = grouped true (check_bytes b) in
    let both : body ++ check ≡ b ++ due = sym e ∙ h in
    let sizes : length body ≡ length b = omega (arith, n, length-check b, length-append body check, length-append b due, ap length both) in
    let parts = equal_parts body check b due both sizes in
    (parts.0, parts.1 ∙ ap (λ x. grouped true (check_bytes x)) (sym parts.0))

-- the text ends with the check of what stands before it, and is that of no share
pub none_due : {X : Type 0} (r : Result X LineError) (text body check due : List ℕ) → text ≡ body ++ check → due ≡ grouped true (check_bytes body) → check ≡ due
    → IfErr r (λ why. IsMemory why ⊎ (why ≡ NoShare)) → IfErr r (IsDueRefusal text)
none_due (Ok x) text body check due e d k h = tt
none_due (Err (Memory x)) text body check due e d k h = tt
none_due (Err NoShare) text body check due e d k h = inr (body, e ∙ ap (λ x. body ++ x) (k ∙ d))
none_due (Err Mistyped) text body check due e d k (inl h) = absurd h
none_due (Err Mistyped) text body check due e d k (inr h) = cc
none_due (Err Behind) text body check due e d k (inl h) = absurd h
none_due (Err Behind) text body check due e d k (inr h) = cc
