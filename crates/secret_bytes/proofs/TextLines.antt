-- The lines of a text one by one.
use Rattle.std.proofs.Common.{◌≡◌, ◌≢◌, ◌<◌, ℕ, List, [], ◌∷◌, ◌++◌, false, eqb, length, refl, ap, arith}
use Rattle.std.specs.List.{All, onto_first}
use Rattle.std.proofs.lemmas.Bool.{ne_eqb}
use Rattle.std.proofs.lemmas.List.Elements.{All-head, All-tail}
use Rattle.secret_bytes.specs.Texts.{text_lines}

-- a line and its end stand in front of the other lines
pub line-ended : (line rest : List ℕ) → All (λ b. b ≢ 10) line → text_lines (line ++ (10 ∷ rest)) ≡ line ∷ text_lines rest
line-ended [] rest h = refl
line-ended (b ∷ line) rest h =
    let other : eqb b 10 ≡ false = ne_eqb b 10 (All-head (λ b. b ≢ 10) b line h) in
    rw other (ap (onto_first b) (line-ended line rest (All-tail (λ b. b ≢ 10) b line h)))

-- a text without the end of a line is one line
pub line-open : (line : List ℕ) → 0 < length line → All (λ b. b ≢ 10) line → text_lines line ≡ line ∷ []
line-open [] l h = absurd (omega arith)
line-open (b ∷ []) l h = let other : eqb b 10 ≡ false = ne_eqb b 10 (All-head (λ b. b ≢ 10) b [] h) in rw other refl
line-open (b ∷ c ∷ line) l h =
    let other : eqb b 10 ≡ false = ne_eqb b 10 (All-head (λ b. b ≢ 10) b (c ∷ line) h) in
    rw other (ap (onto_first b) (line-open (c ∷ line) (omega arith) (All-tail (λ b. b ≢ 10) b (c ∷ line) h)))
