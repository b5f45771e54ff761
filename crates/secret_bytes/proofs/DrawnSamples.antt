-- Samples of elements taken one after the other.
use Rattle.std.proofs.Common.{◌≡◌, ◌∙◌, ℕ, zero, suc, ◌+◌, ◌-◌, ◌*◌, ◌<◌, ◌≤◌, List, [], ◌∷◌, ◌++◌, length, take, drop, Option, Some, None, refl, sym, ap, arith}
use Rattle.std.specs.List.{flat_map}
use Rattle.std.specs.Option.{option_map}
use Rattle.std.proofs.Math.Nat.{mul-le-mul_right, zero-mul}
use Rattle.std.proofs.lemmas.List.{length-take-le}
use Rattle.std.proofs.lemmas.Option.{none-some, same_Some}
use Rattle.rand_core.specs.Stream.{Stream}
use Rattle.math_fields.specs.declared.goldilocks.F.{F}
use Rattle.math_fields.specs.Elements.{sample_of}
use Rattle.math_base.specs.Samples.{before_samples, samples}
use Rattle.math_base.proofs.SampleLists.{no_samples, rest_of, sample_behind, samples_end}
use Rattle.secret_bytes.specs.Deals.{AreSampled, IsDueSampling}
use Rattle.secret_bytes.specs.declared.error.DealError.{DealError}
use Rattle.secret_bytes.specs.declared.error.DealError.TheVariants.{Memory, TooManyWords}

-- the items before those of an option, where it has some
abbrev onto : {T : Type 0} → List T → Option (List T) × Stream → Option (List T) × Stream
onto xs r = (option_map (λ ys. xs ++ ys) r.0, r.1)

onto-first : {T : Type 0} (y : T) (ys : List T) (r : Option (List T) × Stream) → ◌≡◌ {A = Option (List T) × Stream} (option_map (λ zs. y ∷ zs) (onto ys r).0, (onto ys r).1) (onto (y ∷ ys) r)
onto-first y ys (None, u) = refl
onto-first y ys (Some zs, u) = refl

onto-none : {T : Type 0} (r : Option (List T) × Stream) → onto [] r ≡ r
onto-none (None, u) = refl
onto-none (Some zs, u) = refl

behind : {T : Type 0} (o : Option T × Stream) (first whole : Stream → Option (List T) × Stream) (t : Stream) (xs : List T) (r : Option (List T) × Stream)
    → ((s : Stream) (ys : List T) → first s ≡ (Some ys, t) → whole s ≡ onto ys r) → before_samples o first ≡ (Some xs, t) → before_samples o whole ≡ onto xs r
unfolding before_samples
behind (None, s) first whole t xs r h e = absurd (none-some xs (ap (λ p. p.0) e))
behind (Some y, s) first whole t xs r h e =
    let (ys, f, g) = rest_of (first s) y xs t e in
    ap (λ p. (option_map (λ zs. y ∷ zs) p.0, p.1)) (h s ys f) ∙ onto-first y ys r ∙ ap (λ l. onto l r) g

-- after m samples that the source gave the next n are those that it gives then
pub samples-after : {T : Type 0} (sample : Stream → Option T × Stream) (m n : ℕ) (s t : Stream) (xs : List T) → samples sample m s ≡ (Some xs, t)
    → samples sample (m + n) s ≡ onto xs (samples sample n t)
unfolding samples
samples-after sample zero n s t xs e =
    let none : [] ≡ xs = same_Some [] xs (ap (λ p. p.0) e) in
    let same_source : s ≡ t = ap (λ p. p.1) e in
    let m : 0 + n ≡ n = omega arith in
    ap (λ k. samples sample k s) m ∙ ap (samples sample n) same_source ∙ sym (onto-none (samples sample n t)) ∙ ap (λ l. onto l (samples sample n t)) none
samples-after sample (suc m) n s t xs e =
    let more : suc m + n ≡ suc (m + n) = omega arith in
    ap (λ k. samples sample k s) more
    ∙ behind (sample s) (samples sample m) (samples sample (m + n)) t xs (samples sample n t) (λ r ys g. samples-after sample m n r t ys g) e

-- the samples of elements that are dealt in turn
pub sampled-samples : (t : ℕ) (before after : Stream) (all : List F) (ps : List (List F)) → AreSampled t before after all ps
    → samples sample_of (length all * (t - 1)) before ≡ (Some (flat_map (drop 1) ps), after)
sampled-samples t before after [] [] h =
    let none : 0 * (t - 1) ≡ 0 = zero-mul (t - 1) in
    ap (λ k. samples sample_of k before) none ∙ no_samples sample_of before ∙ ap (λ s. (Some [], s)) h
sampled-samples t before after [] (p ∷ ps) h = absurd h
sampled-samples t before after (a ∷ all) [] h = absurd h
sampled-samples t before after (a ∷ all) (p ∷ ps) h =
    let more : suc (length all) * (t - 1) ≡ (t - 1) + length all * (t - 1) = grind arith in
    ap (λ k. samples sample_of k before) more ∙ samples-after sample_of (t - 1) (length all * (t - 1)) before h.0 (drop 1 p) h.1.others
    ∙ ap (onto (drop 1 p)) (sampled-samples t h.0 after all ps h.2)

-- what a first item was put before is none
none-in : {T : Type 0} (q : Option (List T) × Stream) (y : T) (u : Stream) → ◌≡◌ {A = Option (List T) × Stream} (option_map (λ ys. y ∷ ys) q.0, q.1) (None, u) → q ≡ (None, u)
none-in (None, r) y u e = ap (λ z. (None, z)) (ap (λ p. p.1) e)
none-in (Some ys, r) y u e = absurd (none-some (y ∷ ys) (sym (ap (λ p. p.0) e)))

none-behind : {T : Type 0} (o : Option T × Stream) (first whole : Stream → Option (List T) × Stream) (u : Stream)
    → ((r : Stream) → first r ≡ (None, u) → whole r ≡ (None, u)) → before_samples o first ≡ (None, u) → before_samples o whole ≡ (None, u)
unfolding before_samples
none-behind (None, r) first whole u h e = e
none-behind (Some y, r) first whole u h e = rw (h r (none-in (first r) y u e)) refl

-- where one of n samples is refused, so is one of any more
none-more : {T : Type 0} (sample : Stream → Option T × Stream) (n m : ℕ) (s u : Stream) → samples sample n s ≡ (None, u) → n ≤ m → samples sample m s ≡ (None, u)
unfolding samples
none-more sample zero m s u e l = absurd (none-some [] (sym (ap (λ p. p.0) e)))
none-more sample (suc n) zero s u e l = absurd (omega (arith, l))
none-more sample (suc n) (suc m) s u e l = none-behind (sample s) (samples sample n) (samples sample m) u (λ r f. none-more sample n m r u f (omega (arith, l))) e

-- why n samples are not drawn after the m that the source gave is why so many are not
pub due-behind : (m n w : ℕ) (before between after : Stream) (xs : List F) (error : DealError) → samples sample_of m before ≡ (Some xs, between) → m + n ≤ w → IsDueSampling n between after error
    → IsDueSampling w before after error
due-behind m n w before between after xs TooManyWords f l h =
    let all : m + (w - m) ≡ w = omega (arith, l) in
    ap (λ k. samples sample_of k before) (sym all) ∙ samples-after sample_of m (w - m) before between xs f
    ∙ ap (onto xs) (none-more sample_of n (w - m) between after h (omega (arith, l)))
due-behind m n w before between after xs (Memory e) f l (k, ys, few, g) =
    (m + k, xs ++ ys, omega (arith, l, few), samples-after sample_of m k before between xs f ∙ ap (onto xs) g)

-- why the samples of one more element are not drawn is why those of all elements are not
pub due-in-turn : (t i : ℕ) (before now after : Stream) (all : List F) (ps : List (List F)) (error : DealError) → AreSampled t before now (take i all) ps → i < length all
    → IsDueSampling (t - 1) now after error → IsDueSampling (length all * (t - 1)) before after error
due-in-turn t i before now after all ps error h l due =
    let count : length (take i all) ≡ i = length-take-le i all (omega (arith, l)) in
    let most : (length (take i all) + 1) * (t - 1) ≤ length all * (t - 1) = mul-le-mul_right (t - 1) (omega (arith, l, count)) in
    let more : (length (take i all) + 1) * (t - 1) ≡ length (take i all) * (t - 1) + (t - 1) = grind arith in
    due-behind (length (take i all) * (t - 1)) (t - 1) (length all * (t - 1)) before now after (flat_map (drop 1) ps) error (sampled-samples t before now (take i all) ps h) (omega (arith, most, more)) due

-- two samples, one after the other
two-drawn : (s t u : Stream) (x y : F) → sample_of s ≡ (Some x, t) → sample_of t ≡ (Some y, u) → samples sample_of 2 s ≡ (Some (x ∷ y ∷ []), u)
two-drawn s t u x y e f = sample_behind sample_of 1 s t u (x ∷ []) y (sample_behind sample_of 0 s s t [] x (no_samples sample_of s) e) f

-- why k samples are not drawn after two is why two and k are not
pub due-after-two : (k : ℕ) (before second third after : Stream) (x y : F) (error : DealError) → sample_of before ≡ (Some x, second) → sample_of second ≡ (Some y, third)
    → IsDueSampling k third after error → IsDueSampling (2 + k) before after error
due-after-two k before second third after x y error e f due =
    due-behind 2 k (2 + k) before third after (x ∷ y ∷ []) error (two-drawn before second third x y e f) (omega arith) due

-- the first sample is refused, or the second
pub first-refused : (k : ℕ) (before after : Stream) → sample_of before ≡ (None, after) → samples sample_of (2 + k) before ≡ (None, after)
first-refused k before after e = samples_end sample_of 0 (2 + k) before before after [] (no_samples sample_of before) e (omega arith)

pub second-refused : (k : ℕ) (before second after : Stream) (x : F) → sample_of before ≡ (Some x, second) → sample_of second ≡ (None, after) → samples sample_of (2 + k) before ≡ (None, after)
second-refused k before second after x e f =
    samples_end sample_of 1 (2 + k) before second after (x ∷ []) (sample_behind sample_of 0 before before second [] x (no_samples sample_of before) e) f (omega arith)
