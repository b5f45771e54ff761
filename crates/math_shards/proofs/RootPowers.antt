-- Powers of the roots of different orders, and values of polynomials at points times a ratio.
use Rattle.std.proofs.Common.{◌≡◌, ◌∙◌, ℕ, suc, ◌+◌, ◌-◌, ◌*◌, ◌≤◌, ◌^◌, List, get_or, sym, ap, ap₂, arith}
use Rattle.math_theory.specs.OverRing as OverRing
use Rattle.math_theory.specs.Powers.{power-zero, power-suc}
use Rattle.math_theory.specs.Values.{value}
use Rattle.math_theory.proofs.polynomials.Coefficients.{coefficient-dilation, value-HaveSameCoefficients}
use Rattle.math_theory.proofs.polynomials.Values.{value-dilation}
use Rattle.math_theory.proofs.rings.PowerLaws.{power-add, power-one}
use Rattle.math_theory.proofs.rings.RingLaws.{product-one_right, zero-product}
use Rattle.math_fields.specs.declared.goldilocks.F.{F}
use Rattle.math_fields.specs.Elements.{number, residue, root_of, same, sum, product}
use Rattle.math_fields.specs.Roots.{root}
use Rattle.math_fields.proofs.ElementNumbers.{residue-number, same_number}
use Rattle.math_values.proofs.ElementRing.{elements}
use Rattle.math_restoring.specs.CosetDivisions.{raised}
use Rattle.math_restoring.proofs.RaisedElements.{lower_root}
use Rattle.math_splitting.proofs.SameCells.{nought}

-- the ratio times a power of the smaller root is a power of the greater one
pub coset_point : (lg s start t : ℕ) (ratio : F) → lg + s ≤ 32 → same ratio (raised (root_of (lg + s)) start)
    → product ratio (raised (root_of lg) t) ≡ raised (root_of (lg + s)) (start + 2 ^ s * t)
coset_point lg s start t ratio small is =
    let w = root_of (lg + s) in
    let e : lg + s - lg ≡ s = omega arith in
    ap₂ product (same_number ratio (raised w start) is) (lower_root (lg + s) lg t small (omega arith) ∙ ap (λ n. raised w (2 ^ n * t)) e)
    ∙ sym (power-add elements w start (2 ^ s * t))

-- coefficients times the powers of a ratio have at each point the value at the ratio times the point
pub dilated_values : (x ratio : F) (p q : List F) → ((i : ℕ) → same (get_or q i nought) (product (get_or p i nought) (raised ratio i)))
    → same (value nought sum product (residue 1) x q) (value nought sum product (residue 1) (product ratio x) p)
dilated_values x ratio p q h =
    ap number (
    value-HaveSameCoefficients elements x q (OverRing.polynomial_dilation elements ratio p) (λ i. same_number _ _ (h i) ∙ sym (coefficient-dilation elements ratio p i))
    ∙ value-dilation elements x ratio p
    )

-- the root that has the number of a root
pub root_is : (w : F) (lg : ℕ) → number w ≡ root lg → w ≡ root_of lg
root_is w lg e = sym (residue-number w) ∙ ap residue e

-- zero times an element is zero
pub nought-product : (a : F) → same (product nought a) nought
nought-product a = ap number (zero-product elements a)

-- an element times one is the element
pub product-one : (a : F) → same (product a (residue 1)) a
product-one a = ap number (product-one_right elements a)

-- power zero of an element is one
pub raised-none : (a : F) → raised a 0 ≡ residue 1
raised-none a = power-zero (residue 1) product a

-- power one is the element
pub raised-one : (a : F) → same a (raised a 1)
raised-one a = ap number (sym (power-one elements a))

-- each further power is a product more
pub raised-more : (a x : F) (n : ℕ) → same x (raised a n) → same (product x a) (raised a (n + 1))
raised-more a x n h =
    let e : suc n ≡ n + 1 = omega arith in
    ap number (ap (λ y. product y a) (same_number x (raised a n) h) ∙ sym (power-suc (residue 1) product a n) ∙ ap (raised a) e)
