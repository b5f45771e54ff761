-- The lines of shares, one by one.
use Rattle.std.proofs.Common.{◌≡◌, ◌∙◌, ℕ, ◌+◌, ◌<◌, List, [], ◌∷◌, ◌++◌, length, take, get_or, refl, sym, ap, append_assoc}
use Rattle.std.proofs.lemmas.List.{take_more}
use Rattle.secret_bytes.specs.declared.share.SecretShare.{SecretShare}
use Rattle.secret_bytes.specs.Lines.{line_spelling}
use Rattle.secret_bytes.specs.Lines.{lines_spelling}

lines-append : (xs : List SecretShare) (s : SecretShare) → lines_spelling (xs ++ (s ∷ [])) ≡ lines_spelling xs ++ (line_spelling s ++ (10 ∷ []))
lines-append [] s = refl
lines-append (x ∷ xs) s =
    ap (λ t. line_spelling x ++ (10 ∷ t)) (lines-append xs s) ∙ sym (append_assoc (line_spelling x) (10 ∷ lines_spelling xs) (line_spelling s ++ (10 ∷ [])))

-- one more line
pub lines-next : (shares : List SecretShare) (i : ℕ) (s : SecretShare) (text : List ℕ) → i < length shares → s ≡ get_or shares i s → text ≡ lines_spelling (take i shares)
    → (text ++ line_spelling s) ++ (10 ∷ []) ≡ lines_spelling (take (i + 1) shares)
lines-next shares i s text l e h =
    append_assoc text (line_spelling s) (10 ∷ []) ∙ ap (λ t. t ++ (line_spelling s ++ (10 ∷ []))) h ∙ sym (lines-append (take i shares) s)
    ∙ ap (λ x. lines_spelling (take i shares ++ (x ∷ []))) e ∙ ap lines_spelling (sym (take_more shares i s l))
