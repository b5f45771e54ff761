-- One level of a transform: the sizes of its halves, and what it counts.
use Rattle.std.proofs.Common.{◌≡◌, ◌≢◌, ◌∙◌, ℕ, Ok, ◌+◌, ◌-◌, ◌*◌, ◌^◌, ◌<◌, ◌≤◌, sym, ap, inl, inr, w64, arith}
use Rattle.std.specs.Int.{trailing_zeros, bit_at}
use Rattle.std.proofs.lemmas.Bool.{cases_lt}
use Rattle.std.proofs.lemmas.Nat.{pow_pos}
use Rattle.std.proofs.lemmas.Nat.Bits.{bit_at-trailing_zeros, bit_at-pow_other}
use Rattle.math_transforms.specs.CountedWork.{WorkOf, AddsAllOrSome, AddsAtMost}

-- the lowest bit of a power of two that is set
pub lg-of_power : (k n : ℕ) → n ≡ 2 ^ k → n < 2 ^ 64 → trailing_zeros w64 n ≡ k
lg-of_power k n e l =
    let found = bit_at-trailing_zeros w64 n (rw e (pow_pos k)) l in
    let one : bit_at (2 ^ k) (trailing_zeros w64 n) ≡ 1 = ap (λ m. bit_at m (trailing_zeros w64 n)) (sym e) ∙ found.1 in
    elim (cases_lt (trailing_zeros w64 n) k) [
      | inl below ↦ absurd (omega (arith, one, bit_at-pow_other k (trailing_zeros w64 n) (omega (arith, below))))
      | inr above ↦
          elim (cases_lt k (trailing_zeros w64 n)) [
            | inl over ↦ absurd (omega (arith, one, bit_at-pow_other k (trailing_zeros w64 n) (omega (arith, over))))
            | inr at ↦ omega (arith, above, at)
          ]
    ]

-- what is added is added at most, where it is part of more
pub adds-part : (m n : ℕ) (u v : WorkOf) → m ≤ n → AddsAtMost m u v → AddsAtMost n u v
adds-part m n u v h k = record { no_fewer = k.no_fewer; no_more = omega (arith, k.no_more); root_products = k.root_products }

pub adds-then : (m n : ℕ) (u v w : WorkOf) → AddsAtMost m u v → AddsAtMost n v w → AddsAtMost (m + n) u w
adds-then m n u v w h k = record { no_fewer = omega (arith, h.no_fewer, k.no_fewer); no_more = omega (arith, h.no_more, k.no_more); root_products = k.root_products ∙ h.root_products }

-- what is added exactly, as twice the butterflies
pub adds-twice : (m n : ℕ) (u v : WorkOf) → m ≤ n → 2 * v.butterflies ≡ 2 * u.butterflies + m → v.root_products ≡ u.root_products → AddsAtMost n u v
adds-twice m n u v l e r = record { no_fewer = omega (arith, e); no_more = omega (arith, e, l); root_products = r }

-- all that is counted, in a call that is done
pub adds-all : {A E : Type 0} (n : ℕ) (x : A) (u v : WorkOf) → 2 * v.butterflies ≡ 2 * u.butterflies + n → v.root_products ≡ u.root_products
    → AddsAllOrSome {A = A} {E = E} n (Ok x) u v
adds-all n x u v e r = record { all = e; bounded = adds-twice n n u v (omega arith) e r; some = tt }
