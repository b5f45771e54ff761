-- The opposite order of the bits of a number.
use Rattle.std.proofs.Common.{◌≡◌, ◌∙◌, ℕ, zero, suc, ◌+◌, ◌-◌, ◌*◌, ◌/◌, ◌%◌, ◌<◌, ◌≤◌, ◌^◌, refl, sym, ap, ap₂, arith}
use Rattle.std.specs.Int.{reverse_bits_onto}
use Rattle.std.proofs.lemmas.Nat.{mul-le, pow-add, shl-shr, shr-shr}
use Rattle.math_theory.specs.BitReversal.{bit_reversed}
use Rattle.math_theory.proofs.domains.RootOrders.{power_of_two-suc}
use Rattle.math_theory.proofs.transforms.BitOrder.{bit_reversed-below, bit_reversed-suc, bit_reversed-twice}
use Rattle.math_transforms.proofs.ReversedRows.{reversed-zero}

-- no bits are those of zero
pub reversed-none : (lg i : ℕ) → lg ≡ 0 → 0 ≡ bit_reversed lg i
reversed-none zero i e = omega (arith, bit_reversed-below 0 i)
reversed-none (suc lg) i e = absurd (omega (arith, e))

-- the highest bit becomes the lowest one
pub reversed-high : (j h l : ℕ) → h < 2 → l < 2 ^ j → bit_reversed (suc j) (h * 2 ^ j + l) ≡ 2 * bit_reversed j l + h
reversed-high zero h l few below =
    let i : h * 2 ^ 0 + l ≡ h = omega (arith, below) in
    rw i (omega (arith, few, bit_reversed-suc 0 h, reversed-none 0 (h / 2) refl, reversed-none 0 l refl))
reversed-high (suc j) h l few below =
    let double : 2 ^ suc j ≡ 2 ^ j + 2 ^ j = power_of_two-suc j in
    let high : h * 2 ^ suc j ≡ 2 * (h * 2 ^ j) = ap (λ p. h * p) double ∙ omega arith in
    let low : (h * 2 ^ suc j + l) % 2 ≡ l % 2 = omega (arith, high) in
    let rest : (h * 2 ^ suc j + l) / 2 ≡ h * 2 ^ j + l / 2 = omega (arith, high) in
    let parts = rw (low, rest) at (bit_reversed-suc (suc j) (h * 2 ^ suc j + l)) in
    let lowest : (l % 2) * 2 ^ suc j ≡ 2 * ((l % 2) * 2 ^ j) = ap (λ p. (l % 2) * p) double ∙ omega arith in
    omega (arith, parts, lowest, reversed-high j h (l / 2) few (omega (arith, below, double)), bit_reversed-suc j l)

-- the opposite order is that of one number alone
pub reversed-only : (lg i j : ℕ) → i < 2 ^ lg → j < 2 ^ lg → bit_reversed lg i ≡ bit_reversed lg j → i ≡ j
reversed-only lg i j a b e = sym (bit_reversed-twice lg i a) ∙ ap (bit_reversed lg) e ∙ bit_reversed-twice lg j b

-- the bits one after the other, the lowest first, behind those of a
pub reversed-onto : (k n a : ℕ) → reverse_bits_onto k n a ≡ a * 2 ^ k + bit_reversed k n
unfolding reverse_bits_onto
reversed-onto zero n a = omega (arith, reversed-none 0 n refl)
reversed-onto (suc k) n a =
    let double : 2 ^ suc k ≡ 2 ^ k + 2 ^ k = power_of_two-suc k in
    let all : a * 2 ^ suc k ≡ a * 2 ^ k + a * 2 ^ k = ap (λ p. a * p) double ∙ omega arith in
    let both : (a * 2 + n % 2) * 2 ^ k ≡ a * 2 ^ k + a * 2 ^ k + (n % 2) * 2 ^ k = omega arith in
    reversed-onto k (n / 2) (a * 2 + n % 2) ∙ omega (arith, all, both, bit_reversed-suc k n)

-- zeros above the bits become zeros below them
pub reversed-longer : (m lg i : ℕ) → i < 2 ^ lg → bit_reversed (m + lg) i ≡ bit_reversed lg i * 2 ^ m
reversed-longer m zero i below =
    let first : i ≡ 0 = omega (arith, below) in
    let all : m + 0 ≡ m = omega arith in
    let none : bit_reversed 0 0 * 2 ^ m ≡ 0 = ap (λ r. r * 2 ^ m) (reversed-zero 0) ∙ omega arith in
    rw (first, all) (omega (arith, reversed-zero m, none))
reversed-longer m (suc lg) i below =
    let half : i / 2 < 2 ^ lg = omega (arith, below, power_of_two-suc lg) in
    let high : (i % 2) * 2 ^ (m + lg) ≡ (i % 2) * 2 ^ lg * 2 ^ m = ap (λ p. (i % 2) * p) (pow-add 2 m lg) ∙ omega arith in
    let next : m + suc lg ≡ suc (m + lg) = omega arith in
    let parts : bit_reversed (suc lg) i * 2 ^ m ≡ (i % 2) * 2 ^ lg * 2 ^ m + bit_reversed lg (i / 2) * 2 ^ m = ap (λ r. r * 2 ^ m) (bit_reversed-suc lg i) ∙ omega arith in
    rw next (bit_reversed-suc (m + lg) i ∙ omega (arith, high, parts, reversed-longer m lg (i / 2) half))

-- the bits of a word in the opposite order begin with those of a number of lg bits
pub reversed-word : (lg i : ℕ) → lg < 64 → i < 2 ^ lg → reverse_bits_onto 64 i 0 / 2 ^ 1 / 2 ^ (63 - lg) ≡ bit_reversed lg i
reversed-word lg i small below =
    let m = 64 - lg in
    let rest : 1 + (63 - lg) ≡ m = omega (arith, small) in
    let all : m + lg ≡ 64 = omega (arith, small) in
    let word : reverse_bits_onto 64 i 0 ≡ bit_reversed lg i * 2 ^ m =
    reversed-onto 64 i 0 ∙ omega arith ∙ ap (λ n. bit_reversed n i) (sym all) ∙ reversed-longer m lg i below in
    shr-shr (reverse_bits_onto 64 i 0) 1 (63 - lg) ∙ ap₂ (λ x n. x / 2 ^ n) word rest ∙ shl-shr (bit_reversed lg i) m

-- the row of that number is within 2^lg rows of c cells
pub reversed-row_within : (lg i c n row : ℕ) → n ≡ 2 ^ lg * c → row ≡ bit_reversed lg i → row * c + c ≤ n
reversed-row_within lg i c n row count e = grind (arith, mul-le, bit_reversed-below)
