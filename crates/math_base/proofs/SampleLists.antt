-- Samples taken one after the other.
use Rattle.std.proofs.Common.{◌≡◌, ℕ, zero, suc, ◌+◌, ◌<◌, List, [], ◌∷◌, ◌++◌, drop, slice_get, Option, Some, None, refl, sym, ap, ◌∙◌, arith}
use Rattle.std.specs.Option.{option_map}
use Rattle.std.proofs.lemmas.Option.{none-some, same_Some}
use Rattle.rand_core.specs.Stream.{Stream}
use Rattle.math_base.specs.Samples.{before_samples, samples}

-- the list that a first item was put before
pub rest_of : {T : Type 0} (q : Option (List T) × Stream) (y : T) (xs : List T) (t : Stream) → ◌≡◌ {A = Option (List T) × Stream} (option_map (λ ys. y ∷ ys) q.0, q.1) (Some xs, t)
    → (ys : List T) × (q ≡ (Some ys, t)) × (y ∷ ys ≡ xs)
rest_of (None, r) y xs t e = absurd (none-some xs (ap (λ p. p.0) e))
rest_of (Some ys, r) y xs t e = (ys, ap (λ z. (Some ys, z)) (ap (λ p. p.1) e), same_Some (y ∷ ys) xs (ap (λ p. p.0) e))

behind : {T : Type 0} (o : Option T × Stream) (first whole : Stream → Option (List T) × Stream) (t u : Stream) (x : T) (xs : List T)
    → ((r : Stream) (ys : List T) → first r ≡ (Some ys, t) → whole r ≡ (Some (ys ++ x ∷ []), u)) → before_samples o first ≡ (Some xs, t) → before_samples o whole ≡ (Some (xs ++ x ∷ []), u)
unfolding before_samples
behind (None, r) first whole t u x xs h e = absurd (none-some xs (ap (λ p. p.0) e))
behind (Some y, r) first whole t u x xs h e =
    let (ys, f, g) = rest_of (first r) y xs t e in
    rw (h r ys f) (ap (λ l. (Some (l ++ x ∷ []), u)) g)

-- a sample that the source gives after n samples is the last of n + 1
pub sample_behind : {T : Type 0} (sample : Stream → Option T × Stream) (n : ℕ) (s t u : Stream) (xs : List T) (x : T)
    → samples sample n s ≡ (Some xs, t) → sample t ≡ (Some x, u) → samples sample (n + 1) s ≡ (Some (xs ++ x ∷ []), u)
unfolding samples before_samples
sample_behind sample zero s t u xs x e f =
    let none : [] ≡ xs = same_Some [] xs (ap (λ p. p.0) e) in
    let same_source : s ≡ t = ap (λ p. p.1) e in
    rw (same_source, f, ← none) refl
sample_behind sample (suc n) s t u xs x e f =
    let one_more : suc n + 1 ≡ suc (n + 1) = omega arith in
    rw one_more (behind (sample s) (samples sample n) (samples sample (n + 1)) t u x xs (λ r ys g. sample_behind sample n r t u ys x g f) e)

ended : {T : Type 0} (o : Option T × Stream) (first whole : Stream → Option (List T) × Stream) (t u : Stream) (xs : List T)
    → ((r : Stream) (ys : List T) → first r ≡ (Some ys, t) → whole r ≡ (None, u)) → before_samples o first ≡ (Some xs, t) → before_samples o whole ≡ (None, u)
unfolding before_samples
ended (None, r) first whole t u xs h e = absurd (none-some xs (ap (λ p. p.0) e))
ended (Some y, r) first whole t u xs h e =
    let (ys, f, g) = rest_of (first r) y xs t e in
    rw (h r ys f) refl

-- where the source gives none after n samples, it gives no more than n
pub samples_end : {T : Type 0} (sample : Stream → Option T × Stream) (n m : ℕ) (s t u : Stream) (xs : List T)
    → samples sample n s ≡ (Some xs, t) → sample t ≡ (None, u) → n < m → samples sample m s ≡ (None, u)
unfolding samples before_samples
samples_end sample n zero s t u xs e f h = absurd (omega arith)
samples_end sample zero (suc m) s t u xs e f h =
    let same_source : s ≡ t = ap (λ p. p.1) e in
    rw (same_source, f) refl
samples_end sample (suc n) (suc m) s t u xs e f h =
    ended (sample s) (samples sample n) (samples sample m) t u xs (λ r ys g. samples_end sample n m r t u ys g f (omega arith)) e

-- a first sample, and then n
sample_before : {T : Type 0} (sample : Stream → Option T × Stream) (n : ℕ) (s t : Stream) (x : T) → sample s ≡ (Some x, t)
    → samples sample (n + 1) s ≡ (option_map (λ xs. x ∷ xs) (samples sample n t).0, (samples sample n t).1)
unfolding samples before_samples
sample_before sample n s t x e = let h : n + 1 ≡ suc n = omega arith in rw (h, e) refl

-- no sample leaves the source as it is
pub no_samples : {T : Type 0} (sample : Stream → Option T × Stream) (s : Stream) → samples sample 0 s ≡ (Some [], s)
unfolding samples
no_samples sample s = refl

-- a first sample, and then none
pub none_behind_first : {T : Type 0} (sample : Stream → Option T × Stream) (n : ℕ) (s t u : Stream) (x : T)
    → sample s ≡ (Some x, t) → samples sample n t ≡ (None, u) → samples sample (n + 1) s ≡ (None, u)
none_behind_first sample n s t u x e f = sample_before sample n s t x e ∙ ap (λ p. (option_map (λ xs. x ∷ xs) p.0, p.1)) f

first_and_rest : {T : Type 0} (x : T) (xs : List T) → slice_get xs 0 ≡ Some x → x ∷ drop 1 xs ≡ xs
first_and_rest x [] e = absurd (none-some x e)
first_and_rest x (y ∷ ys) e = ap (λ z. z ∷ ys) (same_Some x y (sym e))

-- a first sample, and then those behind it
pub samples_behind_first : {T : Type 0} (sample : Stream → Option T × Stream) (n : ℕ) (s t u : Stream) (x : T) (xs : List T)
    → sample s ≡ (Some x, t) → samples sample n t ≡ (Some (drop 1 xs), u) → slice_get xs 0 ≡ Some x → samples sample (n + 1) s ≡ (Some xs, u)
samples_behind_first sample n s t u x xs e f first =
    sample_before sample n s t x e ∙ ap (λ p. (option_map (λ ys. x ∷ ys) p.0, p.1)) f ∙ ap (λ ys. (Some ys, u)) (first_and_rest x xs first)
