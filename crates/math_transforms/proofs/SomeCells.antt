-- Where there are columns and levels, there is something to count.
use Rattle.std.proofs.Common.{◌≢◌, ℕ, ◌*◌, ◌^◌, ◌<◌, ◌≤◌, pow_pos, mul-le-mul, arith}

pub some-cells : (c lg : ℕ) → c ≢ 0 → lg ≢ 0 → 0 < c * 2 ^ lg * lg
some-cells c lg h k =
    let some : 1 ≤ 2 ^ lg = pow_pos lg in
    let one : 1 * 1 ≤ c * 2 ^ lg = mul-le-mul (let l : 1 ≤ c = omega arith in l) some in
    let all : 1 * 1 * 1 ≤ c * 2 ^ lg * lg = mul-le-mul one (let l : 1 ≤ lg = omega arith in l) in
    omega arith
