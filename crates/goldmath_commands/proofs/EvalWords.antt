-- The words of the command `eval POINT`.
use Rattle.std.proofs.Common.{◌≡◌, ℕ, ◌≤◌, ◌<◌, List, [], ◌∷◌, length, get_or, map, codes, Option, Some, None, sym, ap, ap₂, ◌∙◌, arith}
use Rattle.std.specs.Prelude.{IfSome}
use Rattle.goldmath_commands.specs.Numerals.{WritesPoint}
use Rattle.goldmath_commands.specs.Evaluations.{AreEvalWords}

two_words : {W : Type 0} (words : List W) (a b : W) → 2 ≤ length words → length words < 3 → a ≡ get_or words 0 a → b ≡ get_or words 1 b → words ≡ a ∷ b ∷ []
two_words [] a b low high e f = absurd (omega (arith, low))
two_words (v ∷ []) a b low high e f = absurd (omega (arith, low))
two_words (v ∷ w ∷ []) a b low high e f = ap₂ (λ x y. x ∷ y ∷ []) (sym e) (sym f)
two_words (v ∷ w ∷ x ∷ words) a b low high e f = absurd (omega (arith, high))

-- where the first of two words is `eval`, what the second writes is what the command is about
pub eval_words : {W : Type 0} (text_of : W → List ℕ) (words : List W) (a b : W) → 2 ≤ length words → length words < 3 → a ≡ get_or words 0 a → b ≡ get_or words 1 b
    → text_of a ≡ codes "eval" → (text : List ℕ) → text ≡ text_of b → (result : Option ℕ) → IfSome result (WritesPoint text) → IfSome result (AreEvalWords (map text_of words))
eval_words text_of words a b low high e f command text g None h = tt
eval_words text_of words a b low high e f command text g (Some point) h =
    (text, ap (map text_of) (two_words words a b low high e f) ∙ ap₂ (λ x y. x ∷ y ∷ []) command (sym g), h)
