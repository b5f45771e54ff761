-- Four words more of a fingerprint, by one product that waits for those of the words after them.
use Rattle.std.proofs.Common.{◌≡◌, ◌∙◌, ℕ, ◌+◌, ◌-◌, ◌*◌, ◌%◌, ◌<◌, ◌≤◌, List, [], ◌∷◌, ◌++◌, length, drop, get_or, refl, sym, ap, arith}
use Rattle.std.proofs.lemmas.List.{drop_more}
use Rattle.math_numbers.specs.Goldilocks.{P}
use Rattle.math_theory.specs.ModuleLaws.{ring_is_module}
use Rattle.math_theory.proofs.classes.RingUpToSame.{ring_same}
use Rattle.math_theory.proofs.polynomials.Horner.{value_over-cons}
use Rattle.math_theory.proofs.rings.Normal.{◌⊕◌, ◌⊗◌, v0, v1, v2, v3, v4, v5}
use Rattle.math_fields.specs.declared.goldilocks.F.{F}
use Rattle.math_fields.specs.Elements.{number, same, sum, product}
use Rattle.math_fields.specs.ElementLaws.{equality, group, commutes, ring}
use Rattle.shard_fingerprints.specs.EqualElements.{element_equal}
use Rattle.shard_fingerprints.specs.declared.fingerprints.Powers.{Powers}
use Rattle.shard_fingerprints.specs.FourWords.{AreKeyPowers, words_before}
use Rattle.shard_fingerprints.specs.Fingerprints.{fingerprint}

-- what is added up has the value that Horner's rule gives
regrouped : (a b c d value key : F)
    → same (sum (sum (sum a (product b key)) (product (sum c (product d key)) (product key key))) (product value (product (product key key) (product key key))))
    (words_before key (a ∷ b ∷ c ∷ d ∷ []) value)
regrouped a b c d value key =
    ring_same equality group commutes ring (a ∷ b ∷ c ∷ d ∷ value ∷ key ∷ [])
    (((v0 ⊕ (v1 ⊗ v5)) ⊕ ((v2 ⊕ (v3 ⊗ v5)) ⊗ (v5 ⊗ v5))) ⊕ (v4 ⊗ ((v5 ⊗ v5) ⊗ (v5 ⊗ v5))))
    (v0 ⊕ ((v1 ⊕ ((v2 ⊕ ((v3 ⊕ (v4 ⊗ v5)) ⊗ v5)) ⊗ v5)) ⊗ v5)) refl

pub before : (a b c d value key : F) (powers : Powers) (bk low dk high squared first fourth all : F) → AreKeyPowers key powers
    → same bk (product b powers.key) → same low (sum a bk) → same dk (product d powers.key) → same high (sum c dk) → same squared (product high powers.square)
    → same first (sum low squared) → same fourth (product value powers.fourth) → same all (sum first fourth)
    → number all ≡ number (words_before key (a ∷ b ∷ c ∷ d ∷ []) value)
before a b c d value key powers bk low dk high squared first fourth all p e1 e2 e3 e4 e5 e6 e7 e8 =
    let k = element_equal powers.key key p.first in
    let k2 = element_equal powers.square (product powers.key powers.key) p.second in
    let k4 = element_equal powers.fourth (product powers.square powers.square) p.fourth in
    let f1 = element_equal bk (product b powers.key) e1 in
    let f2 = element_equal low (sum a bk) e2 in
    let f3 = element_equal dk (product d powers.key) e3 in
    let f4 = element_equal high (sum c dk) e4 in
    let f5 = element_equal squared (product high powers.square) e5 in
    let f6 = element_equal first (sum low squared) e6 in
    let f7 = element_equal fourth (product value powers.fourth) e7 in
    let f8 = element_equal all (sum first fourth) e8 in
    rw (f8, f6, f2, f1, f5, f4, f3, f7, k4, k2, k) (regrouped a b c d value key)

-- the fingerprint of words and more words after them
after_words : (words rest : List F) (key : F) → number (fingerprint (words ++ rest) key) ≡ number (words_before key words (fingerprint rest key))
after_words [] rest key = refl
after_words (word ∷ words) rest key =
    let step : number (fingerprint (word ∷ words ++ rest) key) ≡ number (sum word (product (fingerprint (words ++ rest) key) key)) =
    value_over-cons equality group (ring_is_module equality group commutes ring) key word (words ++ rest) in
    step ∙ ap (λ n. (number word + n * number key % P) % P) (after_words words rest key)

listed : (words : List F) (j : ℕ) (a b c d : F) → j + 3 < length words → get_or words j a ≡ a → get_or words (j + 1) b ≡ b → get_or words (j + 2) c ≡ c
    → get_or words (j + 3) d ≡ d → drop j words ≡ a ∷ b ∷ c ∷ d ∷ drop (j + 4) words
listed words j a b c d l p q r s =
    let first : drop j words ≡ a ∷ drop (j + 1) words = drop_more words j a (omega (arith, l)) ∙ ap (λ w. w ∷ drop (j + 1) words) p in
    let two : drop (j + 1 + 1) words ≡ drop (j + 2) words = ap (λ k. drop k words) (omega arith) in
    let second : drop (j + 1) words ≡ b ∷ drop (j + 2) words = drop_more words (j + 1) b (omega (arith, l)) ∙ rw (q, two) refl in
    let three : drop (j + 2 + 1) words ≡ drop (j + 3) words = ap (λ k. drop k words) (omega arith) in
    let third : drop (j + 2) words ≡ c ∷ drop (j + 3) words = drop_more words (j + 2) c (omega (arith, l)) ∙ rw (r, three) refl in
    let four : drop (j + 3 + 1) words ≡ drop (j + 4) words = ap (λ k. drop k words) (omega arith) in
    let fourth : drop (j + 3) words ≡ d ∷ drop (j + 4) words = drop_more words (j + 3) d l ∙ rw (s, four) refl in
    first ∙ ap (λ w. a ∷ w) (second ∙ ap (λ w. b ∷ w) (third ∙ ap (λ w. c ∷ w) fourth))

pub four_more : (words : List F) (i : ℕ) (key used a b c d value after : F) → same used key → 4 ≤ i → i ≤ length words
    → get_or words (i - 4) a ≡ a → get_or words (i - 4 + 1) b ≡ b → get_or words (i - 4 + 2) c ≡ c → get_or words (i - 4 + 3) d ≡ d
    → number value ≡ number (fingerprint (drop i words) key) → number after ≡ number (words_before used (a ∷ b ∷ c ∷ d ∷ []) value)
    → number after ≡ number (fingerprint (drop (i - 4) words) key)
four_more words i key used a b c d value after same_key four within p q r s h e =
    let back : drop (i - 4 + 4) words ≡ drop i words = ap (λ k. drop k words) (omega (arith, four)) in
    let rest = drop i words in
    let list : drop (i - 4) words ≡ (a ∷ b ∷ c ∷ d ∷ []) ++ rest =
    listed words (i - 4) a b c d (omega (arith, four, within)) p q r s ∙ ap (λ w. a ∷ b ∷ c ∷ d ∷ w) back in
    e ∙ ap (λ k. number (words_before k (a ∷ b ∷ c ∷ d ∷ []) value)) (element_equal used key same_key)
    ∙ ap (λ v. number (words_before key (a ∷ b ∷ c ∷ d ∷ []) v)) (element_equal value (fingerprint rest key) h)
    ∙ sym (after_words (a ∷ b ∷ c ∷ d ∷ []) rest key) ∙ sym (ap (λ w. number (fingerprint w key)) list)
