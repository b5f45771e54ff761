-- Texts whose lines are those of shares.
use Rattle.std.proofs.Common.{◌≡◌, ◌∙◌, inl, inr, ℕ, ◌^◌, List, [], ◌∷◌, ◌++◌, length, sym, ap, arith}
use Rattle.std.specs.List.{All, AllZip}
use Rattle.std.proofs.lemmas.List.{length-append}
use Rattle.std.proofs.lemmas.List.Elements.{All-head, All-tail}
use Rattle.secret_bytes.specs.declared.share.SecretShare.{SecretShare}
use Rattle.secret_bytes.specs.Readings.{letters_of}
use Rattle.secret_bytes.specs.SecretShares.{AdmitsShare, AreSameShares}
use Rattle.secret_bytes.specs.Texts.{AreLinesOf, AreReadAs, IsFirstNoLine, IsFirstStray, IsFirstWrong, IsLineOf, IsReadAs, all_letters, parts, text_lines}
use Rattle.secret_bytes.specs.declared.line.LineError.{LineError}
use Rattle.secret_bytes.proofs.GatheredLines.{all_letters-append}

-- one of the shares has the lines of a part
zip-at : (read : List (ℕ × List (List ℕ))) (part : ℕ × List (List ℕ)) (after : List (ℕ × List (List ℕ))) (shares : List SecretShare)
    → AllZip (λ part s. IsLineOf (all_letters part.1) s) (read ++ (part ∷ after)) shares → All (AdmitsShare (2 ^ 20)) shares → (s : SecretShare) × AdmitsShare (2 ^ 20) s × IsLineOf (all_letters part.1) s
zip-at [] part after [] h a = absurd h
zip-at [] part after (s ∷ shares) h a = (s, All-head (AdmitsShare (2 ^ 20)) s shares a, h.0)
zip-at (first ∷ read) part after [] h a = absurd h
zip-at (first ∷ read) part after (s ∷ shares) h a = zip-at read part after shares h.1 (All-tail (AdmitsShare (2 ^ 20)) s shares a)

-- lines of shares are not refused
pub no-fault : (text : List ℕ) (shares : List SecretShare) (numbers : List ℕ) (number : ℕ) (why : LineError) → AreLinesOf text shares numbers → All (AdmitsShare (2 ^ 20)) shares
    → IsFirstNoLine text number why → ⊥
no-fault text shares numbers number why h a (inl f) =
    let stray : IsFirstStray text number = f.0 in
    let letters : all_letters (stray.before ++ (stray.line ∷ stray.after)) ≡ [] = ap all_letters (sym stray.split) ∙ h.before in
    omega (
      arith,
      stray.some,
      ap length letters,
      ap length (all_letters-append stray.before (stray.line ∷ stray.after)),
      length-append (all_letters stray.before) (letters_of stray.line ++ all_letters stray.after),
      length-append (letters_of stray.line) (all_letters stray.after),
    )
no-fault text shares numbers number why h a (inr f) =
    let wrong : IsFirstWrong text number why = f in
    let s = zip-at wrong.read (wrong.n, wrong.lines) wrong.after shares (rw wrong.split at h.fit) a in
    wrong.none s.0 s.1 s.2

same-zip : (read : List (ℕ × List (List ℕ))) (shares chosen : List SecretShare) → AllZip (λ part s. IsReadAs (all_letters part.1) s) read shares
    → AllZip (λ part s. IsLineOf (all_letters part.1) s) read chosen → All (AdmitsShare (2 ^ 20)) chosen → AllZip AreSameShares shares chosen
same-zip [] [] [] h k a = tt
same-zip [] [] (u ∷ chosen) h k a = absurd k
same-zip [] (s ∷ shares) chosen h k a = absurd h
same-zip (part ∷ read) [] chosen h k a = absurd h
same-zip (part ∷ read) (s ∷ shares) [] h k a = absurd k
same-zip (part ∷ read) (s ∷ shares) (u ∷ chosen) h k a =
    (h.0.only u (All-head (AdmitsShare (2 ^ 20)) u chosen a) k.0, same-zip read shares chosen h.1 k.1 (All-tail (AdmitsShare (2 ^ 20)) u chosen a))

-- the shares that are read are the same as those whose lines these are, with the same numbers
pub read-same : (text : List ℕ) (shares chosen : List SecretShare) (places numbers : List ℕ) → AreReadAs text shares places → AreLinesOf text chosen numbers → All (AdmitsShare (2 ^ 20)) chosen
    → AllZip AreSameShares shares chosen × (places ≡ numbers)
read-same text shares chosen places numbers h k a = (same-zip (parts 1 (text_lines text)) shares chosen h.fit k.fit a, h.places ∙ sym k.places)
