-- Words by halves, and their reduction modulo P.
use Rattle.std.proofs.Common.{◌≡◌, ℕ, ◌+◌, ◌-◌, ◌*◌, ◌/◌, ◌%◌, ◌^◌, ◌<◌, ◌≤◌, arith, refl, ap, sym, ◌∙◌, cond, nat_lt}
use Rattle.std.proofs.lemmas.Nat.{mul-le}
use lib.Lanes.{top}
use mir.Val.{hbits}
use mir.Syntax.{w64}
use Rattle.math_numbers.specs.Goldilocks.{P}
use Rattle.math_lanes.specs.Words.{difference_of_words, sum_of_words}
use Rattle.math_lanes.specs.Elements.{sum, difference, product, reduced}

abbrev pub lower : ℕ → ℕ
lower x = x % 2 ^ 32

abbrev pub upper : ℕ → ℕ
upper x = x / 2 ^ 32

abbrev pub raised : ℕ → ℕ
raised x = x * 2 ^ 32 % 2 ^ 64

abbrev pub plus : ℕ → ℕ → ℕ
plus x y = (x + y) % 2 ^ 64

abbrev pub minus : ℕ → ℕ → ℕ
minus x y = (x + (2 ^ 64 - y)) % 2 ^ 64

abbrev pub times : ℕ → ℕ → ℕ
times x y = x * y % 2 ^ 64

-- what is subtracted where a comparison selects it
pub selected_is : (x y : ℕ) → x < 2 ^ 64
    → minus (minus x y) (cond (top (hbits w64) (cond (nat_lt x y) (2 ^ 64 - 1) 0)) 4294967295 0) ≡ difference_of_words x y
selected_is x y hx = grind arith

-- the lower and the upper word of a product, by halves
abbrev pub crossed_word : ℕ → ℕ → ℕ
crossed_word x y = plus (times (upper x) (lower y)) (upper (times (lower x) (lower y)))

abbrev pub middle_word : ℕ → ℕ → ℕ
middle_word x y = plus (times (lower x) (upper y)) (lower (crossed_word x y))

abbrev pub lower_word : ℕ → ℕ → ℕ
lower_word x y = plus (lower (times (lower x) (lower y))) (raised (middle_word x y))

abbrev pub upper_word : ℕ → ℕ → ℕ
upper_word x y = plus (plus (times (upper x) (upper y)) (upper (crossed_word x y))) (upper (middle_word x y))

half_bound : (a b : ℕ) → a < 2 ^ 32 → b < 2 ^ 32 → a * b ≤ 18446744065119617025
half_bound a b ha hb = mul-le a b 4294967295 4294967295 (omega arith) (omega arith)

halves_distribute : (a0 a1 b0 b1 : ℕ)
    → (a0 + 4294967296 * a1) * (b0 + 4294967296 * b1) ≡ a0 * b0 + 4294967296 * (a1 * b0 + a0 * b1) + 18446744073709551616 * (a1 * b1)
halves_distribute a0 a1 b0 b1 = grind arith

words_join : (p q r s : ℕ) → p ≤ 18446744065119617025 → q ≤ 18446744065119617025 → r ≤ 18446744065119617025 → s ≤ 18446744065119617025
    → (t : ℕ) → t ≡ plus (q % 2 ^ 64) (upper (p % 2 ^ 64)) → (u : ℕ) → u ≡ plus (r % 2 ^ 64) (lower t)
    → plus (lower (p % 2 ^ 64)) (raised u) + 2 ^ 64 * plus (plus (s % 2 ^ 64) (upper t)) (upper u) ≡ p + 4294967296 * (q + r) + 18446744073709551616 * s
words_join p q r s hp hq hr hs t et u eu = omega arith

lower_below : (x : ℕ) → lower x < 2 ^ 32
lower_below x = omega arith

upper_below : (x : ℕ) → x < 2 ^ 64 → upper x < 2 ^ 32
upper_below x h = omega arith

-- the two words of a product are the product
pub product_of_words : (x y : ℕ) → x < 2 ^ 64 → y < 2 ^ 64 → reduced (lower_word x y) (upper_word x y) ≡ product x y
product_of_words x y hx hy =
    let first : x ≡ lower x + 4294967296 * upper x = omega arith in
    let second : y ≡ lower y + 4294967296 * upper y = omega arith in
    let whole : x * y ≡ (lower x + 4294967296 * upper x) * (lower y + 4294967296 * upper y) = λ i. (first i) * (second i) in
    let join = words_join (lower x * lower y) (upper x * lower y) (lower x * upper y) (upper x * upper y)
    (half_bound (lower x) (lower y) (lower_below x) (lower_below y)) (half_bound (upper x) (lower y) (upper_below x hx) (lower_below y))
    (half_bound (lower x) (upper y) (lower_below x) (upper_below y hy)) (half_bound (upper x) (upper y) (upper_below x hx) (upper_below y hy))
    (crossed_word x y) refl (middle_word x y) refl in
    ap (λ z. z % P) (join ∙ sym (whole ∙ halves_distribute (lower x) (upper x) (lower y) (upper y)))

difference_is_congruent : (x y : ℕ) → x < 2 ^ 64 → y < P → (difference_of_words x y + y) % P ≡ x % P
difference_is_congruent x y hx hy = grind arith

difference_is_word : (x y : ℕ) → x < 2 ^ 64 → difference_of_words x y < 2 ^ 64
difference_is_word x y hx = grind arith

-- a sum below 2 P
pub sum_below : (x y : ℕ) → x + y < P + P → y ≤ P → sum_of_words x y ≡ sum x y
sum_below x y h hy = grind arith

pub difference_of_elements : (x y : ℕ) → x < P → y < P → difference_of_words x y ≡ difference x y
difference_of_elements x y hx hy = grind arith

pub sum_of_elements : (x y : ℕ) → x < P → y < P → sum_of_words x y ≡ sum x y
sum_of_elements x y hx hy = sum_below x y (omega arith) (omega arith)

-- modulo P, 2^64 is 2^32 - 1 and 2^96 is -1
upper_parts : (l b c h d : ℕ) → h ≡ b + 4294967296 * c → (d + c) % P ≡ l % P → (d + b * 4294967295) % P ≡ (l + 2 ^ 64 * h) % P
upper_parts l b c h d eh ed = omega arith

pub reduced_is : (l h : ℕ) → l < 2 ^ 64 → h < 2 ^ 64
    → sum_of_words (difference_of_words l (upper h)) (times (lower h) 4294967295) ≡ reduced l h
reduced_is l h hl hh =
    let c_below : upper h < P = omega arith in
    let whole : times (lower h) 4294967295 ≡ lower h * 4294967295 = omega arith in
    let d = difference_is_congruent l (upper h) hl c_below in
    let w = difference_is_word l (upper h) hl in
    ap (sum_of_words (difference_of_words l (upper h))) whole
    ∙ sum_below (difference_of_words l (upper h)) (lower h * 4294967295) (omega (arith, w)) (omega arith)
    ∙ upper_parts l (lower h) (upper h) h (difference_of_words l (upper h)) (omega arith) d

-- the two words of 2^48 x
pub shifted_words : (x : ℕ) → x < 2 ^ 64 → reduced (x * 2 ^ 48 % 2 ^ 64) (x / 2 ^ 16) ≡ x * 2 ^ 48 % P
shifted_words x h = omega arith
