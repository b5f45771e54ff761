-- What a recovery counts: the tree, and the transforms.
use Rattle.std.proofs.Common.{◌≡◌, ℕ, zero, suc, ◌+◌, ◌-◌, ◌*◌, ◌^◌, ◌<◌, ◌≤◌, arith}
use Rattle.math_transforms.proofs.PowersOfTwo.{power_of_two-word}
use Rattle.math_transforms.proofs.TreeCounts.{merges-room}

pub transform-room : (lg c : ℕ) → lg < 64 → 2 ^ lg * c < 2 ^ 64 → c * 2 ^ lg * lg ≤ 2 ^ 70
transform-room lg c h l = grind arith

pub column-room : (lg : ℕ) → lg < 64 → 2 ^ lg * lg ≤ 2 ^ 70
column-room lg h = grind (arith, power_of_two-word)

-- the bound of a whole recovery: of the tree, and of the division
pub whole-bound : (lg c : ℕ) → 2 ^ lg * lg * (3 * lg - 1) + (3 * c + 3) * 2 ^ lg * lg ≡ 2 ^ lg * lg * (3 * lg + 3 * c + 2)
whole-bound zero c = omega arith
whole-bound (suc k) c =
    let more : 3 * suc k - 1 ≡ 3 * k + 2 = omega arith in
    rw more (at_power (2 ^ suc k))
  where
    at_power : (p : ℕ) → p * suc k * (3 * k + 2) + (3 * c + 3) * p * suc k ≡ p * suc k * (3 * suc k + 3 * c + 2)
    at_power p = omega arith

-- all that is added is far below 2^127
pub whole-room : (lg c : ℕ) → lg < 64 → 2 ^ lg * c < 2 ^ 64 → 2 ^ lg * lg * (3 * lg - 1) + (3 * c + 3) * 2 ^ lg * lg < 2 ^ 100
whole-room lg c h l = grind (arith, merges-room, transform-room, column-room)

-- where some points are filled and some are not, there are two points or more
pub some_levels : (lg filled missing : ℕ) → filled + missing ≡ 2 ^ lg → 0 < filled → 0 < missing → 0 < lg
some_levels zero filled missing e h k = absurd (omega (arith, e, h, k))
some_levels (suc lg) filled missing e h k = omega arith
