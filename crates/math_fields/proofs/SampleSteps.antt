-- Drawing words until one is below P.
use Rattle.std.proofs.Common.{◌≡◌, ℕ, zero, suc, ◌-◌, ◌<◌, ◌≤◌, ltb, true, false, None, Some, refl, ap, ◌∙◌, arith}
use Rattle.std.specs.Option.{option_map}
use Rattle.std.proofs.lemmas.Bool.{lt-ltb, le-ltb}
use Rattle.math_numbers.specs.Goldilocks.{P}
use Rattle.rand_core.specs.Stream.{Stream, next_u64}
use Rattle.math_fields.specs.Elements.{residue, number, sample_of}
use Rattle.math_base.specs.Samples.{first_below}
use Rattle.math_fields.specs.declared.goldilocks.F.{F}
use Rattle.math_fields.proofs.ElementNumbers.{residue-number}

pub word_found : (n : ℕ) (source after : Stream) (word : ℕ) → 0 < n → (word, after) ≡ next_u64 source → word < P → first_below n source ≡ (Some word, after)
unfolding first_below
word_found zero source after word more e below = absurd (omega arith)
word_found (suc n) source after word more e below =
    let test : ltb word P ≡ true = lt-ltb word P below in
    rw (← e, test) refl

pub word_missed : (n : ℕ) (source after : Stream) (word : ℕ) → 0 < n → (word, after) ≡ next_u64 source → P ≤ word → first_below n source ≡ first_below (n - 1) after
unfolding first_below
word_missed zero source after word more e above = absurd (omega arith)
word_missed (suc n) source after word more e above =
    let test : ltb word P ≡ false = le-ltb word P above in
    let rest : n ≡ suc n - 1 = omega arith in
    rw (← e, test) (ap (λ m. first_below m after) rest)

pub no_words : (n : ℕ) (source : Stream) → n ≤ 0 → first_below n source ≡ (None, source)
unfolding first_below
no_words zero source h = refl
no_words (suc n) source h = absurd (omega arith)

pub sample_found : (source after : Stream) (a : F) → first_below 64 source ≡ (Some (number a), after) → sample_of source ≡ (Some a, after)
sample_found source after a e =
    ap (λ p. (option_map residue p.0, p.1)) e ∙ ap (λ b. (Some b, after)) (residue-number a)

pub no_sample : (source after : Stream) → first_below 64 source ≡ (None, after) → sample_of source ≡ (None, after)
no_sample source after e = ap (λ p. (option_map residue p.0, p.1)) e
