-- The lines of shares that are written are read as these shares.
use Rattle.std.proofs.Common.{◌≡◌, ◌≢◌, ◌∙◌, inl, inr, true, ℕ, ◌+◌, ◌^◌, List, [], ◌∷◌, length, get_or, map, refl, sym, ap, ap₂, arith, subst}
use Rattle.std.specs.List.{All, AllZip, range_with_len}
use Rattle.std.proofs.lemmas.List.{append-nil}
use Rattle.std.proofs.lemmas.List.Elements.{All-head, All-tail}
use Rattle.secret_bytes.specs.declared.share.SecretShare.{SecretShare}
use Rattle.secret_bytes.specs.declared.text.LineFault.{LineFault}
use Rattle.secret_bytes.specs.Lines.{line_spelling, lines_spelling}
use Rattle.secret_bytes.specs.Readings.{has_mark, letters_of, plain}
use Rattle.secret_bytes.specs.Refusals.{IsMemory}
use Rattle.secret_bytes.specs.SecretShares.{AdmitsShare, AreSameShares}
use Rattle.secret_bytes.specs.Texts.{AreLinesOf, AreReadAs, IsDueReading, IsLineOf, LinesAreReadBack, all_letters, going_on, parts, text_lines}
use Rattle.secret_bytes.proofs.FittingLines.{no-fault, read-same}
use Rattle.secret_bytes.proofs.GatheredLines.{marked-first}
use Rattle.secret_bytes.proofs.PlainLines.{IsShown, line-shown, marked-line, plain-line}
use Rattle.secret_bytes.proofs.TextLines.{line-ended}

shown-ends : (line : List ℕ) → All IsShown line → All (λ b. b ≢ 10) line
shown-ends line h = λ k d l e. let shown : IsShown (get_or line k d) = h k d l in omega (arith, shown.0, e)

lines-of : (shares : List SecretShare) → All (AdmitsShare (2 ^ 20)) shares → text_lines (lines_spelling shares) ≡ map line_spelling shares
lines-of [] h = refl
lines-of (s ∷ shares) h =
    line-ended (line_spelling s) (lines_spelling shares) (shown-ends (line_spelling s) (line-shown s (All-head (AdmitsShare (2 ^ 20)) s shares h)))
    ∙ ap (λ ls. line_spelling s ∷ ls) (lines-of shares (All-tail (AdmitsShare (2 ^ 20)) s shares h))

marked-parts : (n : ℕ) (line : List ℕ) (lines : List (List ℕ)) → has_mark (letters_of line) ≡ true → parts n (line ∷ lines) ≡ (n, line ∷ going_on lines) ∷ parts (n + 1) lines
marked-parts n line lines e = rw e refl

going_on-none : (shares : List SecretShare) → All (AdmitsShare (2 ^ 20)) shares → going_on (map line_spelling shares) ≡ []
going_on-none [] h = refl
going_on-none (s ∷ shares) h = marked-first (line_spelling s) (map line_spelling shares) (marked-line s (All-head (AdmitsShare (2 ^ 20)) s shares h))

-- the part of each share is its line alone
abbrev alone : ℕ → List SecretShare → List (ℕ × List (List ℕ))
alone n [] = []
alone n (s ∷ shares) = (n, line_spelling s ∷ []) ∷ alone (n + 1) shares

parts-alone : (n : ℕ) (shares : List SecretShare) → All (AdmitsShare (2 ^ 20)) shares → parts n (map line_spelling shares) ≡ alone n shares
parts-alone n [] h = refl
parts-alone n (s ∷ shares) h =
    let others = All-tail (AdmitsShare (2 ^ 20)) s shares h in
    marked-parts n (line_spelling s) (map line_spelling shares) (marked-line s (All-head (AdmitsShare (2 ^ 20)) s shares h))
    ∙ ap₂ (λ ls ps. (n, line_spelling s ∷ ls) ∷ ps) (going_on-none shares others) (parts-alone (n + 1) shares others)

alone-fit : (n : ℕ) (shares : List SecretShare) → All (AdmitsShare (2 ^ 20)) shares → AllZip (λ part s. IsLineOf (all_letters part.1) s) (alone n shares) shares
alone-fit n [] h = tt
alone-fit n (s ∷ shares) h = (
  ap plain (append-nil (letters_of (line_spelling s))) ∙ plain-line s (All-head (AdmitsShare (2 ^ 20)) s shares h),
  alone-fit (n + 1) shares (All-tail (AdmitsShare (2 ^ 20)) s shares h),
)

alone-places : (n : ℕ) (shares : List SecretShare) → range_with_len n (length shares) ≡ map (λ (part : ℕ × List (List ℕ)). part.0) (alone n shares)
alone-places n [] = refl
alone-places n (s ∷ shares) = ap (λ ns. n ∷ ns) (alone-places (n + 1) shares)

of-shares : (shares : List SecretShare) → All (AdmitsShare (2 ^ 20)) shares → AreLinesOf (lines_spelling shares) shares (range_with_len 1 (length shares))
of-shares shares h =
    let lines = lines-of shares h in
    let all : parts 1 (text_lines (lines_spelling shares)) ≡ alone 1 shares = ap (parts 1) lines ∙ parts-alone 1 shares h in
    record {
      before = ap all_letters (ap going_on lines ∙ going_on-none shares h);
      fit = subst (λ ps. AllZip (λ part s. IsLineOf (all_letters part.1) s) ps shares) (sym all) (alone-fit 1 shares h);
      places = alone-places 1 shares ∙ ap (map (λ (part : ℕ × List (List ℕ)). part.0)) (sym all);
    }

pub read-back : LinesAreReadBack
read-back shares admitted = (faults, found)
  where
    faults : (fault : LineFault) → IsDueReading (lines_spelling shares) fault → IsMemory fault.why
    faults fault (inl m) = m
    faults fault (inr f) = absurd (no-fault (lines_spelling shares) shares (range_with_len 1 (length shares)) fault.number fault.why (of-shares shares admitted) admitted f)

    found : (found : List SecretShare) (numbers : List ℕ) → AreReadAs (lines_spelling shares) found numbers → AllZip AreSameShares found shares × (numbers ≡ range_with_len 1 (length shares))
    found given numbers r = read-same (lines_spelling shares) given shares numbers (range_with_len 1 (length shares)) r (of-shares shares admitted) admitted
