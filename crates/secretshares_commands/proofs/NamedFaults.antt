-- Why shares are not combined, with the line and the index of the share that is meant.
use Rattle.std.specs.List.{AllZip}
use Rattle.std.proofs.Common.{◌≡◌, ◌∙◌, ℕ, suc, List, [], ◌∷◌, Some, length, map, slice_get, refl, sym, ap, subst}
use Rattle.std.proofs.lemmas.List.{length-map}
use Rattle.secret_bytes.specs.declared.share.SecretShare.{SecretShare}
use Rattle.secret_bytes.specs.Combined.{IsDueCombining}
use Rattle.secret_bytes.specs.Texts.{AreReadAs, IsReadAs, all_letters, parts, text_lines}
use Rattle.secret_bytes.specs.declared.error.CombineError.{CombineError}
use Rattle.secretshares_commands.specs.declared.fault.Fault.{Fault}
use Rattle.secretshares_commands.specs.declared.fault.Fault.TheVariants.{Combine, Deal, FullLine, Io, Line, Memory, Share, Text, TooGreat, TooLong, Usage}
use Rattle.secretshares_commands.specs.Answers.{IsAt, IsDueFor, IsFirstTooGreat, IsNamed}

-- what an error says of the shares that were read, the fault that names them says of the text
pub named-due : (text : List ℕ) (shares : List SecretShare) (numbers indices : List ℕ) (error : CombineError) (fault : Fault) → AreReadAs text shares numbers → IsDueCombining shares error
    → indices ≡ map (λ (s : SecretShare). s.index) shares → IsNamed numbers indices error fault → IsDueFor text fault
named-due text shares numbers indices error (Usage w) r d i h = absurd h
named-due text shares numbers indices error (Memory e) r d i h = tt
named-due text shares numbers indices error (Io e) r d i h = absurd h
named-due text shares numbers indices error TooLong r d i h = absurd h
named-due text shares numbers indices error FullLine r d i h = absurd h
named-due text shares numbers indices error (Deal e) r d i h = absurd h
named-due text shares numbers indices error (Text e) r d i h = absurd h
named-due text shares numbers indices error (Line number why) r d i h = absurd h
named-due text shares numbers indices error (TooGreat number name given) r d i h = absurd h
named-due text shares numbers indices error (Share number index e) r d i h =
    (shares, numbers, r, subst (IsDueCombining shares) (sym h.0) d, h.1, subst (λ x. IsAt x h.1) (sym h.0) h.2, h.3, subst (λ is. slice_get is h.1 ≡ Some index) i h.4)
named-due text shares numbers indices error (Combine e) r d i h = (shares, numbers, r, subst (IsDueCombining shares) (sym h) d)

zip-count : {X : Type 0} (R : X → SecretShare → Type 0) (xs : List X) (shares : List SecretShare) → AllZip R xs shares → length xs ≡ length shares
zip-count R [] [] h = refl
zip-count R [] (s ∷ shares) h = absurd h
zip-count R (x ∷ xs) [] h = absurd h
zip-count R (x ∷ xs) (s ∷ shares) h = ap suc (zip-count R xs shares h.1)

-- each share that is read has the number of a line
pub numbers-count : (text : List ℕ) (shares : List SecretShare) (numbers : List ℕ) → AreReadAs text shares numbers → length numbers ≡ length shares
numbers-count text shares numbers r =
    ap length r.places ∙ length-map (parts 1 (text_lines text)) (λ (part : ℕ × List (List ℕ)). part.0)
    ∙ zip-count (λ (part : ℕ × List (List ℕ)) (s : SecretShare). IsReadAs (all_letters part.1) s) (parts 1 (text_lines text)) shares r.fit

-- the first share that the program cannot have dealt is why there is no secret
pub due-too_great : (text : List ℕ) (shares : List SecretShare) (numbers : List ℕ) (fault : Fault) → AreReadAs text shares numbers → IsFirstTooGreat numbers shares fault → IsDueFor text fault
due-too_great text shares numbers (Usage w) r h = absurd h
due-too_great text shares numbers (Memory e) r h = absurd h
due-too_great text shares numbers (Io e) r h = absurd h
due-too_great text shares numbers TooLong r h = absurd h
due-too_great text shares numbers FullLine r h = absurd h
due-too_great text shares numbers (Deal e) r h = absurd h
due-too_great text shares numbers (Text e) r h = absurd h
due-too_great text shares numbers (Line number why) r h = absurd h
due-too_great text shares numbers (TooGreat number name given) r h = (shares, numbers, r, h)
due-too_great text shares numbers (Share number index e) r h = absurd h
due-too_great text shares numbers (Combine e) r h = absurd h
