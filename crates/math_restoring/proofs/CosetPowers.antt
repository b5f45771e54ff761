-- Powers of the points of a coset and of the shift.
use Rattle.std.proofs.Common.{◌≡◌, ◌≢◌, ◌∙◌, ℕ, suc, ◌+◌, ◌-◌, ◌*◌, ◌<◌, ◌≤◌, ◌^◌, [], ◌∷◌, refl, sym, ap, ap₂, pow-add, mul_comm, lit<, arith}
use Rattle.math_numbers.specs.Goldilocks.{P}
use Rattle.math_numbers.specs.PowersModulo.{power_mod}
use Rattle.math_numbers.proofs.PowersModulo.{power_mod-by_squaring, power_mod-of_mod, power_by_squaring}
use Rattle.math_theory.specs.BitReversal.{bit_reversed}
use Rattle.math_theory.specs.Powers.{power-suc}
use Rattle.math_theory.specs.RecoveryOnCoset.{HasCoset}
use Rattle.math_theory.proofs.classes.RingUpToSame.{combine_same}
use Rattle.math_theory.proofs.domains.CarriedDomains.{HasCoset-of_order-same}
use Rattle.math_theory.proofs.domains.RootOrders.{power_of_two-suc}
use Rattle.math_theory.proofs.rings.Normal.{◌⊕◌, ◌⊖◌, ◌⊗◌, minus, 𝟘, 𝟙, v0}
use Rattle.math_theory.proofs.rings.PowerLaws.{power-add, power-mul, power-of_one, power-product}
use Rattle.math_theory.proofs.rings.RingLaws.{product-one_right}
use Rattle.math_theory.proofs.rings.ResidueLaws.{residues_power}
use Rattle.math_fields.specs.declared.goldilocks.F.{F}
use Rattle.math_fields.specs.ElementLaws.{equality, group, commutes, ring}
use Rattle.math_fields.specs.ElementRootLaws.{roots}
use Rattle.math_fields.specs.Elements.{negative, number, product, residue, root_of, same, shift_of, sum, goldilocks}
use Rattle.math_fields.specs.Roots.{shift}
use Rattle.math_fields.proofs.ElementNumbers.{same_number}
use Rattle.math_transforms.specs.RootTrees.{twos}
use Rattle.math_transforms.proofs.PowersOfTwo.{power_of_two-double}
use Rattle.math_restoring.specs.CosetDivisions.{coset_point, domain_point, power_below, raised}
use Rattle.math_restoring.proofs.CombinedColumns.{nought}
use Rattle.math_values.proofs.ElementRing.{elements}
use Rattle.math_restoring.proofs.RaisedElements.{one, root-half, root-turn}
use Rattle.math_transforms.proofs.ReversedBits.{reversed-high}

-- power 2^part of a point of the coset of as many points is that of the shift
pub coset-power : (part t : ℕ) → part ≤ 32 → raised (coset_point part t) (2 ^ part) ≡ raised shift_of (2 ^ part)
coset-power part t small =
    let b = bit_reversed part t in
    let w = root_of part in
    power-product elements shift_of (raised w b) (2 ^ part)
    ∙ ap (product (raised shift_of (2 ^ part))) (sym (power-mul elements w b (2 ^ part)) ∙ ap (raised w) (mul_comm b (2 ^ part)) ∙ root-turn part b small)
    ∙ product-one_right elements (raised shift_of (2 ^ part))

-- at the points of even index the power of half of the order is one
low-power : (j t : ℕ) → suc j ≤ 32 → t < 2 ^ j → raised (domain_point (suc j) t) (2 ^ j) ≡ one
low-power j t small b =
    let w = root_of (suc j) in
    let r = bit_reversed j t in
    let e : bit_reversed (suc j) t ≡ 2 * r = let z : 0 * 2 ^ j + t ≡ t = omega arith in let h = reversed-high j 0 t (omega arith) b in let q : 2 * r + 0 ≡ 2 * r = omega arith in rw (z, q) at h in
    let p : 2 * r * 2 ^ j ≡ 2 ^ suc j * r = ap (λ y. y) (grind arith) ∙ ap (λ y. y * r) (sym (power_of_two-suc j)) in
    ap (λ i. raised (raised w i) (2 ^ j)) e ∙ sym (power-mul elements w (2 * r) (2 ^ j)) ∙ ap (raised w) p ∙ root-turn (suc j) r small

-- and at those of odd index it is minus one
high-power : (j t : ℕ) → suc j ≤ 32 → t < 2 ^ j → raised (domain_point (suc j) (2 ^ j + t)) (2 ^ j) ≡ negative one
high-power j t small b =
    let w = root_of (suc j) in
    let r = bit_reversed j t in
    let e : bit_reversed (suc j) (2 ^ j + t) ≡ 2 * r + 1 = let z : 1 * 2 ^ j + t ≡ 2 ^ j + t = omega arith in rw z at (reversed-high j 1 t (omega arith) b) in
    let p : (2 * r + 1) * 2 ^ j ≡ 2 ^ suc j * r + 2 ^ j = (let h : (2 * r + 1) * 2 ^ j ≡ (2 ^ j + 2 ^ j) * r + 2 ^ j = grind arith in h) ∙ ap (λ y. y * r + 2 ^ j) (sym (power_of_two-suc j)) in
    ap (λ i. raised (raised w i) (2 ^ j)) e ∙ sym (power-mul elements w (2 * r + 1) (2 ^ j)) ∙ ap (raised w) p ∙ power-add elements w (2 ^ suc j * r) (2 ^ j)
    ∙ ap₂ product (root-turn (suc j) r small) (same_number (raised w (2 ^ j)) (negative one) (root-half j small)) ∙ elements.product_one (negative one)

pub even-power : (lg t : ℕ) → 1 ≤ lg → lg ≤ 32 → t < 2 ^ (lg - 1) → raised (domain_point lg t) (2 ^ (lg - 1)) ≡ one
even-power lg t some small b = let e : suc (lg - 1) ≡ lg = omega (arith, some) in rw e at (low-power (lg - 1) t (omega (arith, some, small)) b)

pub odd-power : (lg t : ℕ) → 1 ≤ lg → lg ≤ 32 → t < 2 ^ (lg - 1) → raised (domain_point lg (2 ^ (lg - 1) + t)) (2 ^ (lg - 1)) ≡ negative one
odd-power lg t some small b = let e : suc (lg - 1) ≡ lg = omega (arith, some) in rw e at (high-power (lg - 1) t (omega (arith, some, small)) b)

-- what has the step as its power 2^part has a power of it as its power 2^(lg - 1)
pub power-below : (lg part : ℕ) (x step : F) → part < lg → raised x (2 ^ part) ≡ step → raised x (2 ^ (lg - 1)) ≡ power_below lg part step
power-below lg part x step l h =
    let whole : part + (lg - 1 - part) ≡ lg - 1 = omega (arith, l) in
    let e : 2 ^ (lg - 1) ≡ 2 ^ part * 2 ^ (lg - 1 - part) = ap (λ n. 2 ^ n) (sym whole) ∙ pow-add 2 part (lg - 1 - part) in
    ap (raised x) e ∙ power-mul elements x (2 ^ part) (2 ^ (lg - 1 - part)) ∙ ap (λ y. raised y (2 ^ (lg - 1 - part))) h

-- power 2^32 of the shift is not one
shift-greatest : raised shift_of (2 ^ 32) ≢ one
shift-greatest e =
    let up : power_mod P shift 4294967296 ≡ 1
    = sym (residues_power P number residue (λ k. refl) (λ a. a.below) shift_of 4294967296 ∙ power_mod-of_mod P shift 4294967296) ∙ ap number e in
    let apart : power_by_squaring 33 P shift 4294967296 ≢ 1 = omega arith in
    apart (sym (power_mod-by_squaring 33 P shift 4294967296 (lit< tt)) ∙ up)

-- nor is a lower one
shift-apart : (lg : ℕ) → lg ≤ 32 → raised shift_of (2 ^ lg) ≢ one
shift-apart lg small e =
    let whole : lg + (32 - lg) ≡ 32 = omega (arith, small) in
    let all : 2 ^ 32 ≡ 2 ^ lg * 2 ^ (32 - lg) = ap (λ n. 2 ^ n) (sym whole) ∙ pow-add 2 lg (32 - lg) in
    shift-greatest (ap (raised shift_of) all ∙ power-mul elements shift_of (2 ^ lg) (2 ^ (32 - lg)) ∙ ap (λ y. raised y (2 ^ (32 - lg))) e ∙ power-of_one elements (2 ^ (32 - lg)))

module _ (lg part : ℕ) (step : F) (l : part < lg) (small : lg ≤ 32) (is : step ≡ raised shift_of (2 ^ part)) where
  abbrev c : F
  c = power_below lg part step

  square : product c c ≡ raised shift_of (2 ^ lg)
  square =
      let h : raised shift_of (2 ^ (lg - 1)) ≡ c = power-below lg part shift_of step l (sym is) in
      ap₂ product (sym h) (sym h) ∙ sym (power-add elements shift_of (2 ^ (lg - 1)) (2 ^ (lg - 1))) ∙ ap (raised shift_of) (sym (power_of_two-double lg (omega (arith, l))))

  -- one and the power are not zero together
  pub plus-nonzero : ¬ (same (sum one c) nought)
  plus-nonzero e =
      shift-apart lg small
      (sym square ∙ same_number (product c c) one (combine_same equality group commutes ring (c ∷ []) (v0 ⊗ v0) 𝟙 (v0 ⊖ 𝟙) (𝟙 ⊕ v0) 𝟘 e refl))

  -- nor are they one
  pub minus-nonzero : ¬ (same (sum one (negative c)) nought)
  minus-nonzero e =
      shift-apart lg small
      (sym square ∙ same_number (product c c) one (combine_same equality group commutes ring (c ∷ []) (v0 ⊗ v0) 𝟙 (minus (v0 ⊕ 𝟙)) (𝟙 ⊕ minus v0) 𝟘 e refl))

-- twice as much
pub twos-more : (lg : ℕ) → 1 ≤ lg → twos goldilocks lg ≡ product (twos goldilocks (lg - 1)) (sum one one)
twos-more lg some = let e : suc (lg - 1) ≡ lg = omega (arith, some) in rw e at (power-suc one product (sum one one) (lg - 1))

-- the coset of a domain by the shift
pub shift_coset : (lg : ℕ) → lg ≤ 32 → HasCoset same nought product one (root_of lg) shift_of (2 ^ lg)
shift_coset lg small = HasCoset-of_order-same equality group commutes ring (root_of lg) shift_of (2 ^ lg) (roots.order lg small) roots.shift_is_not_zero (roots.shift_is_no_power lg small)
