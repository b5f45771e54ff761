-- What the tree of vanishing polynomials counts: its merges and their transforms.
use Rattle.std.proofs.Common.{◌≡◌, ◌∙◌, ℕ, suc, ◌+◌, ◌-◌, ◌*◌, ◌^◌, ◌<◌, ◌≤◌, ap, sym, pow-suc, pow_pos, mul-le-mul, arith}
use Rattle.math_transforms.specs.CountedWork.{WorkOf, AddsAtMost, AddsWithin}
use Rattle.math_transforms.proofs.PowersOfTwo.{power_of_two-double, power_of_two-word}

pub within-part : (b p c q : ℕ) (u v : WorkOf) → b ≤ c → p ≤ q → AddsWithin b p u v → AddsWithin c q u v
within-part b p c q u v l m h = record { no_fewer = h.no_fewer; no_more = omega (arith, h.no_more); no_fewer_products = h.no_fewer_products; no_more_products = omega (arith, h.no_more_products) }

pub within-then : (b p c q : ℕ) (u v w : WorkOf) → AddsWithin b p u v → AddsWithin c q v w → AddsWithin (b + c) (p + q) u w
within-then b p c q u v w h k = grind arith

pub within-transforms : (b p n : ℕ) (u v w : WorkOf) → AddsWithin b p u v → AddsAtMost n v w → AddsWithin (b + n) p u w
within-transforms b p n u v w h k = grind arith

merges-by : (k p : ℕ) → 2 * p * (k + 2) * (3 * k + 5) ≡ p * (k + 1) * (3 * k + 2) + p * (k + 1) * (3 * k + 2) + 3 * (2 * p) * (k + 2) + 2 * p * (3 * k + 2)
merges-by k p = omega arith

merges-at : (k : ℕ) → 2 ^ (k + 1) * (k + 1) * (3 * (k + 1) - 1) + 2 ^ (k + 1) * (k + 1) * (3 * (k + 1) - 1) + 3 * 2 ^ (k + 2) * (k + 2) ≤ 2 ^ (k + 2) * (k + 2) * (3 * (k + 2) - 1)
merges-at k =
    let few : 3 * (k + 1) - 1 ≡ 3 * k + 2 = omega arith in
    let more : 3 * (k + 2) - 1 ≡ 3 * k + 5 = omega arith in
    let up : k + 2 ≡ suc (k + 1) = omega arith in
    let double : 2 ^ (k + 2) ≡ 2 * 2 ^ (k + 1) = ap (λ m. 2 ^ m) up ∙ pow-suc 2 (k + 1) ∙ omega arith in
    rw (more, few, double) (omega (arith, merges-by k (2 ^ (k + 1))))

-- the merges of two trees, and one more, where there are 4 points at least
pub merges : (lg : ℕ) → 1 < lg → 2 ^ (lg - 1) * (lg - 1) * (3 * (lg - 1) - 1) + 2 ^ (lg - 1) * (lg - 1) * (3 * (lg - 1) - 1) + 3 * 2 ^ lg * lg ≤ 2 ^ lg * lg * (3 * lg - 1)
merges lg h =
    let e : lg - 2 + 2 ≡ lg = omega arith in
    let f : lg - 2 + 1 ≡ lg - 1 = omega arith in
    rw (e, f) at (merges-at (lg - 2))

-- three transforms of half as many points are fewer
pub fewer-transforms : (lg : ℕ) → 0 < lg → 3 * 2 ^ (lg - 1) * (lg - 1) ≤ 3 * 2 ^ lg * lg
fewer-transforms lg h =
    mul-le-mul (let l : 3 * 2 ^ (lg - 1) ≤ 3 * 2 ^ lg = omega (arith, power_of_two-double lg h) in l) (let l : lg - 1 ≤ lg = omega arith in l)

pub points-of_halves : (lg : ℕ) → 0 < lg → 128 * 2 ^ (lg - 1) + 128 * 2 ^ (lg - 1) ≡ 128 * 2 ^ lg
points-of_halves lg h = omega (arith, power_of_two-double lg h)

-- the points of a half are twice as far apart
pub half-covers : (lg stride total : ℕ) → 0 < lg → 2 ^ lg * stride ≡ total → 2 ^ (lg - 1) * (stride * 2) ≡ total
half-covers lg stride total h e =
    let double = power_of_two-double lg h in
    let q : 2 ^ (lg - 1) * (stride * 2) ≡ (2 ^ (lg - 1) + 2 ^ (lg - 1)) * stride = omega arith in
    q ∙ ap (λ m. m * stride) (sym double) ∙ e

pub stride-within : (lg stride total : ℕ) → 0 < lg → 2 ^ lg * stride ≡ total → stride * 2 ≤ total
stride-within lg stride total h e =
    let positive : 1 ≤ 2 ^ (lg - 1) = pow_pos (lg - 1) in
    let more : 1 * (stride * 2) ≤ 2 ^ (lg - 1) * (stride * 2) = mul-le-mul positive (let l : stride * 2 ≤ stride * 2 = omega arith in l) in
    omega (arith, half-covers lg stride total h e)

-- the counts of any tree, and of the transforms of any matrix that fits, are far below 2^127
pub merges-room : (lg : ℕ) → lg < 64 → 2 ^ lg * lg * (3 * lg - 1) ≤ 2 ^ 80
merges-room lg h =
    let a : 2 ^ lg * lg ≤ 2 ^ 63 * 64 = mul-le-mul (power_of_two-word lg h) (let l : lg ≤ 64 = omega arith in l) in
    let b : 2 ^ lg * lg * (3 * lg - 1) ≤ 2 ^ 63 * 64 * 192 = mul-le-mul a (let l : 3 * lg - 1 ≤ 192 = omega arith in l) in
    omega arith

pub points-room : (lg : ℕ) → lg < 64 → 128 * 2 ^ lg ≤ 2 ^ 70
points-room lg h = omega (arith, power_of_two-word lg h)
