-- Words that are appended one after the other.
use Rattle.std.proofs.Common.{◌≡◌, ℕ, List, ◌++◌, ap, ◌∙◌, append_assoc}

-- what was appended in four steps stands after what was there before
pub appended_four :
    (none one two three four a b c d : List ℕ) → one ≡ none ++ a → two ≡ one ++ b → three ≡ two ++ c → four ≡ three ++ d → four ≡ none ++ (a ++ (b ++ (c ++ d)))
appended_four none one two three four a b c d p q r s =
    s ∙ ap (λ (x : List ℕ). x ++ d) (r ∙ ap (λ (x : List ℕ). x ++ c) (q ∙ ap (λ (x : List ℕ). x ++ b) p))
    ∙ append_assoc ((none ++ a) ++ b) c d ∙ append_assoc (none ++ a) b (c ++ d) ∙ append_assoc none a (b ++ (c ++ d))

-- the same in three steps
pub appended_three : (none one two three a b c : List ℕ) → one ≡ none ++ a → two ≡ one ++ b → three ≡ two ++ c → three ≡ none ++ (a ++ (b ++ c))
appended_three none one two three a b c p q r =
    r ∙ ap (λ (x : List ℕ). x ++ c) (q ∙ ap (λ (x : List ℕ). x ++ b) p) ∙ append_assoc (none ++ a) b c ∙ append_assoc none a (b ++ c)
