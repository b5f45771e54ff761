-- Fingerprints by blocks of words, with a table of powers.
use Rattle.std.proofs.Common.{◌≡◌, ◌∙◌, ℕ, zero, suc, ◌+◌, ◌<◌, ◌≤◌, ◌⊎◌, inl, inr, List, [], ◌∷◌, ◌++◌, length, take, drop, get_or, set, refl, sym, ap, ap₂, arith}
use Rattle.std.proofs.lemmas.Bool.{cases_eq}
use Rattle.std.proofs.lemmas.List.{drop-drop, get_or-set_other, get_or-set_same, length-take-le, length-drop, take-append-drop}
use Rattle.math_theory.specs.Powers.{power-zero, power-suc}
use Rattle.math_theory.specs.Sums.{weighted_sum}
use Rattle.math_theory.specs.Values.{value_from}
use Rattle.math_theory.proofs.polynomials.BuiltPolynomials.{value-joined}
use Rattle.math_fields.specs.declared.goldilocks.F.{F}
use Rattle.math_fields.specs.Elements.{residue, sum, product}
use Rattle.math_fields.specs.ElementLaws.{equality, group, commutes, ring}
use Rattle.math_fields.proofs.ElementNumbers.{same_number}
use Rattle.math_values.specs.Values.{ArePowersOf}
use Rattle.math_values.proofs.BlockValues.{power_of}
use Rattle.shard_fingerprints.specs.Fingerprints.{fingerprint}

-- words times powers from power i on, summed
weighed-from : (key : F) (i : ℕ) (words powers : List F) → length words ≤ length powers → ((j : ℕ) → j < length powers → get_or powers j (residue 0) ≡ power_of key (i + j))
    → weighted_sum (residue 0) sum product words powers ≡ value_from (residue 0) sum product (residue 1) product key i words
weighed-from key i [] powers l h = refl
weighed-from key i (w ∷ words) [] l h = absurd (omega arith)
weighed-from key i (w ∷ words) (p ∷ powers) l h =
    ap₂ sum (ap (product w) (h 0 (omega arith) ∙ ap (power_of key) (omega arith)))
    (weighed-from key (suc i) words powers (omega arith) (λ j m. h (suc j) (omega arith) ∙ ap (power_of key) (omega arith)))

-- the words of a block times the powers of the key, summed
pub weighed-block : (key : F) (words powers : List F) → length words ≤ length powers → ArePowersOf key powers → weighted_sum (residue 0) sum product words powers ≡ fingerprint words key
weighed-block key words powers l h = weighed-from key 0 words powers l (λ j m. h j m ∙ ap (power_of key) (omega arith))

-- a block before the words after it
pub block-before : (key : F) (words : List F) (from size after : ℕ) (next value block : F) → from + size ≤ length words → after ≡ from + size → next ≡ power_of key size
    → value ≡ fingerprint (drop after words) key → block ≡ fingerprint (take size (drop from words)) key → sum block (product next value) ≡ fingerprint (drop from words) key
block-before key words from size after next value block l e hn hv hb =
    let front = take size (drop from words) in
    let rest = drop after words in
    let long : length front ≡ size = length-take-le size (drop from words) (omega (arith, length-drop from words)) in
    let all : front ++ rest ≡ drop from words = ap (λ ws. front ++ ws) (ap (λ n. drop n words) e ∙ sym (drop-drop size from words)) ∙ take-append-drop size (drop from words) in
    ap₂ sum hb (ap₂ product hn hv)
    ∙ sym (same_number _ _ (value-joined equality group commutes ring key front rest size long))
    ∙ ap (λ ws. fingerprint ws key) all

-- the first n entries are the powers of the key
abbrev pub ArePowersTo : F → List F → ℕ → Type 0
ArePowersTo key powers n = (k : ℕ) → k < n → get_or powers k (residue 0) ≡ power_of key k

-- one power more
pub power-set : (key : F) (powers : List F) (n : ℕ) (p : F) → n < length powers → ArePowersTo key powers n → p ≡ power_of key n → ArePowersTo key (set powers n p) (n + 1)
power-set key powers n p l h hp k m = by_place (cases_eq k n)
  where
    by_place : (k ≡ n) ⊎ (k ≡ n → ⊥) → get_or (set powers n p) k (residue 0) ≡ power_of key k
    by_place (inl e) = ap (λ j. get_or (set powers n p) j (residue 0)) e ∙ get_or-set_same powers n p (residue 0) l ∙ hp ∙ ap (power_of key) (sym e)
    by_place (inr d) = get_or-set_other powers n k p (residue 0) d ∙ h k (omega (arith, d))

-- the key is power 1 of itself
pub power-one : (key : F) → key ≡ power_of key 1
power-one key =
    let start : power_of key 0 ≡ residue 1 = rw power-zero refl in
    sym (power-suc (residue 1) product key 0 ∙ ap (λ a. product a key) start ∙ same_number (product (residue 1) key) key (ring.identity key))

-- one is power 0
pub power-none : (key : F) → residue 1 ≡ power_of key 0
power-none key = rw power-zero refl

-- what holds of 0 and of 1 holds below 2
pub below-two : (P : ℕ → Type 0) → P 0 → P 1 → (k : ℕ) → k < 2 → P k
below-two P a b zero l = a
below-two P a b (suc zero) l = b
below-two P a b (suc (suc k)) l = absurd (omega arith)
