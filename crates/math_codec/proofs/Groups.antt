-- Groups of seven bits, and bounds on numbers of a few of them.
use Rattle.std.proofs.Common.{◌≡◌, ℕ, zero, suc, ◌+◌, ◌-◌, ◌*◌, ◌/◌, ◌%◌, ◌^◌, ◌<◌, ◌≤◌, ltb, true, false, [], ◌∷◌, refl, ap, ◌∙◌, arith}
use Rattle.std.proofs.Math.Nat.{pow-succ'}
use Rattle.std.proofs.lemmas.Bool.{lt-ltb, le-ltb}
use Rattle.std.proofs.lemmas.Nat.{div_below}
use Rattle.math_codec.specs.Lengths.{groups}

power_step : (more : ℕ) → 0 < more → 128 ^ more ≡ 128 * 128 ^ (more - 1)
power_step more h =
    let e : more ≡ suc (more - 1) = omega arith in
    ap (λ (k : ℕ). 128 ^ k) e ∙ pow-succ' 128 (more - 1)

power_positive : (k : ℕ) → 0 < 128 ^ k
power_positive zero = omega arith
power_positive (suc k) = omega (arith, power_positive k, pow-succ' 128 k)

pub one_group_below : (more byte : ℕ) → 0 < more → byte < 128 → byte < 16 * 128 ^ more
one_group_below more byte h lt = omega (arith, power_step more h, power_positive (more - 1))

pub joined_below : (more byte high : ℕ) → 0 < more → byte < 256 → high < 16 * 128 ^ (more - 1) → byte - 128 + 128 * high < 16 * 128 ^ more
joined_below more byte high h lt below = omega (arith, power_step more h)

pub four_groups_below : (more high : ℕ) → more ≤ 3 → high < 16 * 128 ^ more → high < 2 ^ 25
four_groups_below zero high le lt = omega arith
four_groups_below (suc zero) high le lt = omega arith
four_groups_below (suc (suc zero)) high le lt = omega arith
four_groups_below (suc (suc (suc zero))) high le lt = omega arith
four_groups_below (suc (suc (suc (suc more)))) high le lt = absurd (omega arith)

pub quotient_below : (more n : ℕ) → 0 < more → n < 16 * 128 ^ more → n / 128 < 16 * 128 ^ (more - 1)
quotient_below more n pos h = div_below n 128 (16 * 128 ^ (more - 1)) (omega arith) (omega (arith, power_step more pos))

pub groups-last : (more n : ℕ) → n < 128 → groups (suc more) n ≡ n ∷ []
unfolding groups
groups-last more n h =
    let small : ltb n 128 ≡ true = lt-ltb n 128 h in
    rw small refl

pub groups-marked : (more fewer n : ℕ) → more ≡ suc fewer → 128 ≤ n → groups more n ≡ (128 + n % 128) ∷ groups fewer (n / 128)
unfolding groups
groups-marked more fewer n step h =
    let large : ltb n 128 ≡ false = le-ltb n 128 h in
    rw (step, large) refl
