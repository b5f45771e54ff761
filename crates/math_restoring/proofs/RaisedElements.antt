-- Powers of elements and of the roots, and the elements that are not zero.
use Rattle.std.proofs.Common.{◌≡◌, ◌∙◌, ℕ, zero, suc, ◌+◌, ◌-◌, ◌*◌, ◌<◌, ◌≤◌, ◌^◌, sym, ap, pow_pos, arith}
use Rattle.math_theory.proofs.domains.CarriedDomains.{IsPrincipalRoot-of_order-same}
use Rattle.math_theory.proofs.domains.RootOrders.{power_of_two-suc}
use Rattle.math_theory.proofs.rings.PowerLaws.{power-add, power-mul, power-of_one, power-of_zero, power-one, power-product}
use Rattle.math_fields.specs.declared.goldilocks.F.{F}
use Rattle.math_fields.specs.ElementLaws.{equality, group, commutes, ring}
use Rattle.math_fields.specs.ElementRootLaws.{field, roots}
use Rattle.math_fields.specs.Elements.{negative, number, residue, root_of, same, product}
use Rattle.math_fields.proofs.ElementNumbers.{same_number}
use Rattle.math_restoring.specs.CosetDivisions.{raised}
use Rattle.math_values.proofs.ElementRing.{elements}

-- one
abbrev pub one : F
one = residue 1

-- the square of a power of two is the next one
pub raised-squared : (x out : F) (n : ℕ) → same out (raised x (2 ^ n)) → same (product out out) (raised x (2 ^ (n + 1)))
raised-squared x out n h =
    let e : 2 ^ (n + 1) ≡ 2 ^ n + 2 ^ n = let s : n + 1 ≡ suc n = omega arith in rw s (power_of_two-suc n) in
    rw (e, same_number out (raised x (2 ^ n)) h) (ap number (sym (power-add elements x (2 ^ n) (2 ^ n))))

-- power 2^d of the root of order 2^(d + 1) is minus one
pub root-half : (d : ℕ) → d < 32 → same (raised (root_of (suc d)) (2 ^ d)) (negative one)
root-half d h = IsPrincipalRoot-of_order-same equality group commutes ring field (suc d) (root_of (suc d)) (roots.order (suc d) (omega (arith, h)))

-- a root is a power of that of higher order
lower : (lg s : ℕ) → lg + s ≤ 32 → root_of lg ≡ raised (root_of (lg + s)) (2 ^ s)
lower lg zero small =
    let e : lg + 0 ≡ lg = omega arith in
    rw e (sym (power-one elements (root_of lg)))
lower lg (suc s) small =
    let e : lg + suc s ≡ suc (lg + s) = omega arith in
    let twice : 2 ^ suc s ≡ 2 ^ s + 2 ^ s = power_of_two-suc s in
    let r = root_of (suc (lg + s)) in
    let square : product r r ≡ root_of (lg + s) = same_number (product r r) (root_of (lg + s)) (roots.square (lg + s) (omega arith)) in
    rw (e, twice) (lower lg s (omega arith) ∙ ap (λ y. raised y (2 ^ s)) (sym square) ∙ power-product elements r r (2 ^ s) ∙ sym (power-add elements r (2 ^ s) (2 ^ s)))

-- and so are its powers
pub lower_root : (lg part t : ℕ) → lg ≤ 32 → part ≤ lg → raised (root_of part) t ≡ raised (root_of lg) (2 ^ (lg - part) * t)
lower_root lg part t small within =
    let whole : part + (lg - part) ≡ lg = omega (arith, within) in
    let h : root_of part ≡ raised (root_of lg) (2 ^ (lg - part)) = rw whole at (lower part (lg - part) (omega (arith, whole, small))) in
    ap (λ y. raised y t) h ∙ sym (power-mul elements (root_of lg) (2 ^ (lg - part)) t)

-- power 2^lg of each power of the root of that order is one
pub root-turn : (lg t : ℕ) → lg ≤ 32 → raised (root_of lg) (2 ^ lg * t) ≡ one
root-turn lg t small =
    let w = root_of lg in
    power-mul elements w (2 ^ lg) t ∙ ap (λ y. raised y t) (same_number (raised w (2 ^ lg)) one (roots.order lg small).power_is_one) ∙ power-of_one elements t

-- one is not zero
one-apart : ¬ (same (residue 1) (residue 0))
one-apart e = field.distinct e

-- no root is zero
pub root-apart : (d : ℕ) → d ≤ 32 → ¬ (same (root_of d) (residue 0))
root-apart d h e =
    one-apart
    (sym (roots.order d h).power_is_one ∙ ap number (ap (λ x. raised x (2 ^ d)) (same_number (root_of d) (residue 0) e) ∙ power-of_zero elements (2 ^ d) (pow_pos d)))
