-- Numbers of seven bytes: how large they are.
use Rattle.std.proofs.Common.{◌≡◌, ◌∙◌, ℕ, zero, suc, ◌+◌, ◌/◌, ◌^◌, ◌-◌, ◌<◌, ◌≤◌, List, [], ◌∷◌, ◌++◌, length, take, drop, map, get_or, sym, ap, ap₂, arith, append-nil, append_assoc, min}
use Rattle.std.specs.List.{All}
use Rattle.std.proofs.lemmas.List.{length-append, length-drop, map-append, take_all, drop_all, drop_at}
use Rattle.std.proofs.Math.Seq.{take-append_seam}
use Rattle.std.proofs.lemmas.List.Elements.{All-drop, All-head, All-tail}
use Rattle.math_numbers.proofs.ByteLists.{all_bytes}
use Rattle.math_fields.specs.declared.goldilocks.F.{F}
use Rattle.math_fields.specs.Elements.{number}
use Rattle.secret_bytes.specs.Packings.{number_count, number_of_bytes, packed, sevens}

pub number-below : (k : ℕ) (bytes : List ℕ) → All (λ byte. byte < 256) bytes → length bytes ≤ k → number_of_bytes bytes < 256 ^ k
number-below zero [] h l = omega arith
number-below zero (b ∷ bytes) h l = absurd (omega (arith, l))
number-below (suc k) [] h l = let i = number-below k [] h (omega arith) in omega arith
number-below (suc k) (b ∷ bytes) h l =
    let i : number_of_bytes bytes < 256 ^ k = number-below k bytes (All-tail (λ byte. byte < 256) b bytes h) (omega (arith, l)) in
    let j : b < 256 = All-head (λ byte. byte < 256) b bytes h in
    omega arith

-- the number of at most six bytes, from some place on
pub number-below_from : (bytes : List ℕ) (i : ℕ) → ((k : ℕ) → get_or bytes k 0 < 256) → 0 < i → length bytes ≤ 7 → number_of_bytes (drop i bytes) < 256 ^ 6
number-below_from bytes i h p l =
    let e : length (drop i bytes) ≡ length bytes - i = length-drop i bytes in
    number-below 6 (drop i bytes) (All-drop (λ byte. byte < 256) i bytes (all_bytes bytes h)) (omega (arith, e, l, p))

-- the number of at most seven bytes, from any place on
pub number-below_all : (bytes : List ℕ) (i : ℕ) → ((k : ℕ) → get_or bytes k 0 < 256) → length bytes ≤ 7 → number_of_bytes (drop i bytes) < 256 ^ 7
number-below_all bytes i h l =
    let e : length (drop i bytes) ≡ length bytes - i = length-drop i bytes in
    number-below 7 (drop i bytes) (All-drop (λ byte. byte < 256) i bytes (all_bytes bytes h)) (omega (arith, e, l))

-- the first seven bytes, or all of fewer
pub first_seven : (seven after : List ℕ) → length seven ≤ 7 → (0 < length after → length seven ≡ 7) → take 7 (seven ++ after) ≡ seven
first_seven seven [] l h = ap (take 7) (append-nil seven) ∙ take_all 7 seven l
first_seven seven (b ∷ after) l h = ap (λ n. take n (seven ++ (b ∷ after))) (sym (h (omega arith))) ∙ take-append_seam seven (b ∷ after)

pub after_seven : (seven after : List ℕ) → length seven ≤ 7 → (0 < length after → length seven ≡ 7) → drop 7 (seven ++ after) ≡ after
after_seven seven [] l h = ap (drop 7) (append-nil seven) ∙ drop_all 7 seven l
after_seven seven (b ∷ after) l h = drop_at seven (b ∷ after) 7 (h (omega arith))

pub sevens-step : (rest seven after : List ℕ) (n : ℕ) → 0 < length rest → rest ≡ seven ++ after → length seven ≤ 7 → (0 < length after → length seven ≡ 7) → n ≡ number_of_bytes seven
    → sevens (number_count (length rest)) rest ≡ n ∷ sevens (number_count (length after)) after
sevens-step rest seven after n some e l h is =
    let long : length rest ≡ length seven + length after = ap length e ∙ length-append seven after in
    let more : number_count (length rest) ≡ suc (number_count (length after)) = counted (length rest) (length seven) (length after) some long l h in
    ap (λ k. sevens k rest) more
    ∙ ap₂ (λ a b. number_of_bytes a ∷ sevens (number_count (length after)) b) (ap (take 7) e ∙ first_seven seven after l h) (ap (drop 7) e ∙ after_seven seven after l h)
    ∙ ap (λ m. m ∷ sevens (number_count (length after)) after) (sym is)
  where
    counted : (r s a : ℕ) → 0 < r → r ≡ s + a → s ≤ 7 → (0 < a → s ≡ 7) → (r + 6) / 7 ≡ suc ((a + 6) / 7)
    counted r s zero some e l h = omega (arith, some, e, l)
    counted r s (suc a) some e l h = let k : s ≡ 7 = h (omega arith) in omega (arith, some, e, k)

-- one more element, and seven bytes fewer
pub packed-step : (bytes rest seven after : List ℕ) (elements : List F) (a : F) → map number elements ++ sevens (number_count (length rest)) rest ≡ packed bytes
    → 0 < length rest → rest ≡ seven ++ after → length seven ≡ min (length rest) 7 → number a ≡ number_of_bytes seven
    → map number (elements ++ (a ∷ [])) ++ sevens (number_count (length after)) after ≡ packed bytes
packed-step bytes rest seven after elements a h some e l is =
    let long : length rest ≡ length seven + length after = ap length e ∙ length-append seven after in
    let others = sevens (number_count (length after)) after in
    let step : sevens (number_count (length rest)) rest ≡ number a ∷ others =
    sevens-step rest seven after (number a) some e (omega (arith, l)) (λ more. omega (arith, l, long, more)) is in
    ap (λ x. x ++ others) (map-append number elements (a ∷ [])) ∙ append_assoc (map number elements) (number a ∷ []) others ∙ ap (λ x. map number elements ++ x) (sym step) ∙ h
