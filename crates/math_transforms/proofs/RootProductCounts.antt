-- How many root products the polynomial of v missing points takes: one for each coefficient that there is before each factor, v (v + 1) / 2 in all.
use Rattle.std.proofs.Common.{◌≡◌, ℕ, ◌+◌, ◌*◌, ◌<◌, ◌≤◌, ◌^◌, arith, mul-le-mul}
use Rattle.math_transforms.specs.CountedWork.{WorkOf, AddsWithin}

pub triangle-next : (v : ℕ) → (v + 1) * (v + 1 + 1) ≡ v * (v + 1) + 2 * (v + 1)
triangle-next v = grind arith

pub triangle-rises : (v w : ℕ) → v ≤ w → v * (v + 1) ≤ w * (w + 1)
triangle-rises v w h = mul-le-mul h (let k : v + 1 ≤ w + 1 = omega arith in k)

-- one factor more, and none
pub next-missing : (x y start l v w : ℕ) → w ≡ v + 1 → l ≡ v + 1 → 2 * x ≡ 2 * start + v * (v + 1) → y ≡ x + l → 2 * y ≡ 2 * start + w * (w + 1)
next-missing x y start l v w e f h k = rw e (omega (arith, triangle-next v))

-- no more than all
pub within-missing : (x y start l v w : ℕ) → v + 1 ≤ w → l ≡ v + 1 → 2 * x ≡ 2 * start + v * (v + 1) → y ≤ x + l → 2 * y ≤ 2 * start + w * (w + 1)
within-missing x y start l v w e f h k = omega (arith, triangle-next v, triangle-rises (v + 1) w e)

pub within-filled : (x start v w : ℕ) → v ≤ w → 2 * x ≡ 2 * start + v * (v + 1) → 2 * x ≤ 2 * start + w * (w + 1)
within-filled x start v w e h = omega (arith, triangle-rises v w e)

-- there is room for the next, with at most 256 points
pub room-next : (x start l v bound : ℕ) → v < 256 → l ≡ v + 1 → 2 * x ≡ 2 * start + v * (v + 1) → start + 2 ^ 16 < bound → x + l < bound
room-next x start l v bound e f h k = grind arith

pub chunk-bounded : (u v : WorkOf) (m n : ℕ) → m < n → n ≤ 256 → v.butterflies ≡ u.butterflies → u.root_products ≤ v.root_products
    → 2 * v.root_products ≤ 2 * u.root_products + m * (m + 1) → AddsWithin 0 (128 * n) u v
chunk-bounded u v m n l h b f k = grind arith
