-- The least domain of so many points: no other one that has as many has fewer, and it has at most 2^32.
use Rattle.std.proofs.Common.{◌≡◌, inl, inr, ℕ, suc, ◌-◌, ◌*◌, ◌<◌, ◌≤◌, ◌^◌, pow-suc, arith}
use Rattle.std.specs.Int.{IsNextPowerOfTwo}
use Rattle.std.specs.Int.Count.{count_leading_zeros}
use Rattle.std.proofs.Math.Pow.{pow_mono}
use Rattle.std.proofs.lemmas.Bool.{cases_lt}
use Rattle.math_transforms.proofs.PresentIndices.{lg-of_total, lg-only}

-- the least power of two is no greater than another one that is as great as the number
pub least_lg : (n few lg : ℕ) → 1 ≤ n → n ≤ 2 ^ lg → IsNextPowerOfTwo n (2 ^ few) → few ≤ lg
least_lg n few lg some l next = elim (cases_lt lg few) [
  | inl greater ↦
      let up : 2 ^ suc lg ≤ 2 ^ few = pow_mono (omega (arith, greater)) in
      let twice : 2 ^ suc lg ≡ 2 ^ lg * 2 = pow-suc 2 lg in
      absurd (omega (arith, next.2, up, twice, l, some))
  | inr fits ↦ omega (arith, fits)
]

-- the least domain of `total` points
pub domain_of : (total : ℕ) → 1 ≤ total → total < 2 ^ 32 → (lg : ℕ) × IsNextPowerOfTwo total (2 ^ lg) × (lg ≤ 32)
domain_of total some short = (32 - count_leading_zeros 32 (total - 1), lg-of_total total (omega (arith, some)) (omega (arith, short)), omega arith)

-- it has at most 2^32
pub domain_is_small : (total lg : ℕ) → 1 ≤ total → total < 2 ^ 32 → IsNextPowerOfTwo total (2 ^ lg) → lg ≤ 32
domain_is_small total lg some short next =
    let domain = domain_of total some short in
    let e : lg ≡ domain.0 = lg-only total lg domain.0 (omega (arith, some)) next domain.1 in
    omega (arith, e, domain.2)
