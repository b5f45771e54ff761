-- One word more of a fingerprint, from the last word to the first.
use Rattle.std.proofs.Common.{◌≡◌, ◌∙◌, ℕ, ◌+◌, ◌-◌, ◌*◌, ◌%◌, ◌<◌, ◌≤◌, List, ◌∷◌, length, drop, get_or, sym, ap, arith}
use Rattle.std.proofs.lemmas.List.{drop_more}
use Rattle.math_numbers.specs.Goldilocks.{P}
use Rattle.math_theory.specs.ModuleLaws.{ring_is_module}
use Rattle.math_theory.proofs.polynomials.Horner.{value_over-cons}
use Rattle.math_fields.specs.declared.goldilocks.F.{F}
use Rattle.math_fields.specs.Elements.{number, sum, product}
use Rattle.math_fields.specs.ElementLaws.{equality, group, commutes, ring}
use Rattle.shard_fingerprints.specs.Fingerprints.{fingerprint}

more : (words : List F) (i : ℕ) (key word value scaled : F) (after : ℕ) → i < length words → get_or words i word ≡ word
    → number value ≡ number (fingerprint (drop (i + 1) words) key) → number scaled ≡ number value * number key % P → after ≡ (number word + number scaled) % P
    → after ≡ number (fingerprint (drop i words) key)
more words i key word value scaled after l here h m a =
    let rest = drop (i + 1) words in
    let list : drop i words ≡ word ∷ rest = drop_more words i word l ∙ ap (λ w. w ∷ rest) here in
    let step : number (fingerprint (word ∷ rest) key) ≡ number (sum word (product (fingerprint rest key) key)) =
    value_over-cons equality group (ring_is_module equality group commutes ring) key word rest in
    a ∙ ap (λ n. (number word + n) % P) (m ∙ ap (λ n. n * number key % P) h) ∙ sym step ∙ sym (ap (λ p. number (fingerprint p key)) list)

pub fingerprint-more : (words : List F) (i : ℕ) (key word value scaled : F) (after : ℕ) → 0 < i → i ≤ length words → get_or words (i - 1) word ≡ word
    → number value ≡ number (fingerprint (drop i words) key) → number scaled ≡ number value * number key % P → after ≡ (number word + number scaled) % P
    → after ≡ number (fingerprint (drop (i - 1) words) key)
fingerprint-more words i key word value scaled after some l here h m a =
    let back : i ≡ i - 1 + 1 = omega (arith, some) in
    more words (i - 1) key word value scaled after (omega (arith, some, l)) here (h ∙ ap (λ j. number (fingerprint (drop j words) key)) back) m a

-- the fingerprint of a word and more words after it
pub fingerprint-cons : (word : F) (rest : List F) (key value scaled : F) (front after : ℕ) → front ≡ number word
    → number value ≡ number (fingerprint rest key) → number scaled ≡ number value * number key % P → after ≡ (front + number scaled) % P
    → after ≡ number (fingerprint (word ∷ rest) key)
fingerprint-cons word rest key value scaled front after f h m a =
    let step : number (fingerprint (word ∷ rest) key) ≡ number (sum word (product (fingerprint rest key) key)) =
    value_over-cons equality group (ring_is_module equality group commutes ring) key word rest in
    a ∙ ap (λ n. (n + number scaled) % P) f ∙ ap (λ n. (number word + n) % P) (m ∙ ap (λ n. n * number key % P) h) ∙ sym step
