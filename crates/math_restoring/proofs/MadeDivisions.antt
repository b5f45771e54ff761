-- What a division on a coset is made of: factors of the values, and inverses of the values of the polynomial that vanishes at the missing points.
use Rattle.std.proofs.Common.{◌≡◌, ◌∙◌, ℕ, ◌+◌, ◌-◌, ◌*◌, ◌<◌, ◌≤◌, ◌^◌, List, [], ◌∷◌, Bool, length, take, get_or, refl, sym, ap, arith}
use Rattle.std.proofs.Math.Nat.{mul-lt-mul_of_pos_left}
use Rattle.std.proofs.lemmas.List.{get_or-take}
use Rattle.std.proofs.lemmas.Nat.{pow_pos}
use Rattle.math_theory.specs.BitReversal.{bit_reversed}
use Rattle.math_theory.proofs.classes.RingUpToSame.{combine_same, combine2_same}
use Rattle.math_theory.proofs.recovery.RecoveredColumns.{coset_nonzero}
use Rattle.math_theory.proofs.rings.Normal.{◌⊕◌, ◌⊖◌, ◌⊗◌, 𝟙, v0, v1, v2, v3}
use Rattle.math_theory.proofs.transforms.BitOrder.{bit_reversed-below}
use Rattle.math_fields.specs.declared.goldilocks.F.{F}
use Rattle.math_fields.specs.ElementLaws.{equality, group, commutes, ring}
use Rattle.math_fields.specs.ElementRootLaws.{field}
use Rattle.math_fields.specs.Elements.{negative, number, product, residue, root_of, same, shift_of, sum, goldilocks}
use Rattle.math_base.specs.Polynomials.{value_in_ring}
use Rattle.math_fields.proofs.ElementNumbers.{same_number}
use Rattle.math_transforms.specs.DomainValues.{matrix_of}
use Rattle.math_transforms.specs.Matrices.{column_of}
use Rattle.math_transforms.specs.MissingPoints.{VanishesAtFalse}
use Rattle.math_transforms.specs.RootTrees.{AreValuesBelow, IsTreeOf, class_at, twos}
use Rattle.math_transforms.specs.RowProducts.{AreRowProducts}
use Rattle.math_transforms.proofs.DomainSteps.{column_of-one}
use Rattle.math_transforms.proofs.PowersOfTwo.{power_of_two-double}
use Rattle.math_restoring.specs.CosetDivisions.{AreFolded, coset_point, domain_point, power_below, raised}
use Rattle.math_restoring.specs.Restored.{item}
use Rattle.math_restoring.proofs.BlockColumns.{blocks-all}
use Rattle.math_restoring.proofs.CombinedColumns.{column, columns-equal, nought}
use Rattle.math_restoring.proofs.CosetPowers.{coset-power, shift_coset}
use Rattle.math_restoring.proofs.PointsOfTrees.{tree-coset_point, tree-domain_point}
use Rattle.math_restoring.proofs.RaisedElements.{lower_root}

-- The values of v on the domain, and the factors made of them.
module _ (lg part : ℕ) (step : F) (some : 1 ≤ lg) (small : lg ≤ 32) (v values roots : List F) (size : length v ≡ 2 ^ lg) (tree : IsTreeOf goldilocks root_of (residue 1) lg roots)
    (evaluated : AreValuesBelow goldilocks roots lg 1 1 v values) where
  value-at : (t : ℕ) → t < 2 ^ lg → same (item values t) (value_in_ring goldilocks v (domain_point lg t))
  value-at t l =
      let place : t * 1 + 0 ≡ t = omega arith in
      let below : 2 ^ lg * 1 + t ≡ 2 ^ lg + t = omega arith in
      let point : class_at goldilocks roots (2 ^ lg + t) ≡ domain_point lg t = tree-domain_point lg t roots tree some small l in
      let here : same (item values (t * 1 + 0)) (value_in_ring goldilocks (column_of nought (matrix_of (2 ^ lg) 1 v) 0) (class_at goldilocks roots (2 ^ lg * 1 + t))) = evaluated t 0 l (omega arith) in
      rw (place, below, point, column_of-one nought (2 ^ lg) v size) at here

  -- divided by 2^lg
  pub whole-factors : (factor : F) (new : List F) → same (product factor (twos goldilocks lg)) (residue 1) → AreRowProducts goldilocks 1 (2 ^ lg) (λ i. get_or (factor ∷ []) i nought) values new
      → (t : ℕ) → t < 2 ^ lg → same (product (item new t) (twos goldilocks lg)) (value_in_ring goldilocks v (domain_point lg t))
  whole-factors factor new half times t l =
      let x = item values t in
      let y = item new t in
      let place : 0 * 2 ^ lg + t ≡ t = omega arith in
      let here : same y (product x factor) = rw place at (times 0 t (omega arith) l) in
      combine2_same equality group commutes ring (x ∷ factor ∷ y ∷ twos goldilocks lg ∷ []) (v2 ⊗ v3) v0 v3 v2 (v0 ⊗ v1) v0 (v1 ⊗ v3) 𝟙 here half refl ∙ value-at t l

  module _ (factor power even odd : F) (new : List F) (half : same (product factor (twos goldilocks lg)) (residue 1)) (power_is : same power (power_below lg part step))
      (even_is : same even (sum factor (product factor power))) (odd_is : same odd (sum factor (negative (product factor power))))
      (times : AreRowProducts goldilocks 2 (2 ^ (lg - 1)) (λ i. get_or (even ∷ odd ∷ []) i nought) values new) where
    -- times one and the power
    pub low-factors : (t : ℕ) → t < 2 ^ (lg - 1)
        → same (product (item new t) (twos goldilocks lg)) (product (value_in_ring goldilocks v (domain_point lg t)) (sum (residue 1) (power_below lg part step)))
    low-factors t l =
        let x = item values t in
        let y = item new t in
        let c = power_below lg part step in
        let place : 0 * 2 ^ (lg - 1) + t ≡ t = omega arith in
        let here : same y (product x even) = rw place at (times 0 t (omega arith) l) in
        let weight : even ≡ sum factor (product factor c) = same_number even (sum factor (product factor power)) even_is ∙ ap (λ p. sum factor (product factor p)) (same_number power c power_is) in
        ap (λ e. number (product e (twos goldilocks lg))) (same_number y (product x even) here ∙ ap (product x) weight)
        ∙ combine_same equality group commutes ring (x ∷ factor ∷ c ∷ twos goldilocks lg ∷ []) ((v0 ⊗ (v1 ⊕ (v1 ⊗ v2))) ⊗ v3) (v0 ⊗ (𝟙 ⊕ v2)) (v0 ⊗ (𝟙 ⊕ v2)) (v1 ⊗ v3) 𝟙 half refl
        ∙ ap (λ a. number (product a (sum (residue 1) c)))
        (same_number x (value_in_ring goldilocks v (domain_point lg t)) (value-at t (omega (arith, l, power_of_two-double lg some))))

    -- times one less the power
    pub high-factors : (t : ℕ) → t < 2 ^ (lg - 1)
        → same (product (item new (2 ^ (lg - 1) + t)) (twos goldilocks lg))
        (product (value_in_ring goldilocks v (domain_point lg (2 ^ (lg - 1) + t))) (sum (residue 1) (negative (power_below lg part step))))
    high-factors t l =
        let at = 2 ^ (lg - 1) + t in
        let x = item values at in
        let y = item new at in
        let c = power_below lg part step in
        let place : 1 * 2 ^ (lg - 1) + t ≡ at = omega arith in
        let here : same y (product x odd) = rw place at (times 1 t (omega arith) l) in
        let weight : odd ≡ sum factor (negative (product factor c)) =
        same_number odd (sum factor (negative (product factor power))) odd_is ∙ ap (λ p. sum factor (negative (product factor p))) (same_number power c power_is) in
        ap (λ e. number (product e (twos goldilocks lg))) (same_number y (product x odd) here ∙ ap (product x) weight)
        ∙ combine_same equality group commutes ring (x ∷ factor ∷ c ∷ twos goldilocks lg ∷ []) ((v0 ⊗ (v1 ⊖ (v1 ⊗ v2))) ⊗ v3) (v0 ⊗ (𝟙 ⊖ v2)) (v0 ⊗ (𝟙 ⊖ v2)) (v1 ⊗ v3) 𝟙 half refl
        ∙ ap (λ a. number (product a (sum (residue 1) (negative c))))
        (same_number x (value_in_ring goldilocks v (domain_point lg at)) (value-at at (omega (arith, l, power_of_two-double lg some))))

-- The values of v on the coset, and their inverses.
module _ (lg part : ℕ) (some : 1 ≤ part) (small : lg ≤ 32) (within : part ≤ lg) (filled : List Bool) (long : length filled ≡ 2 ^ lg) (step : F) (v folded divisors roots : List F)
    (size : length v ≡ 2 ^ lg) (vanishes : VanishesAtFalse goldilocks (root_of lg) filled (value_in_ring goldilocks v)) (is : same step (raised shift_of (2 ^ part)))
    (tree : IsTreeOf goldilocks root_of shift_of part roots) (fold : AreFolded lg part 1 step v folded) (evaluated : AreValuesBelow goldilocks roots part 1 1 (take (2 ^ part) folded) divisors) where
  divisor-at : (t : ℕ) → t < 2 ^ part → same (item divisors t) (value_in_ring goldilocks v (coset_point part t))
  divisor-at t l =
      let x = coset_point part t in
      let place : t * 1 + 0 ≡ t = omega arith in
      let below : 2 ^ part * 1 + t ≡ 2 ^ part + t = omega arith in
      let one : 2 ^ part * 1 ≡ 2 ^ part = omega arith in
      let point : class_at goldilocks roots (2 ^ part + t) ≡ x = tree-coset_point part t roots tree some (omega (arith, within, small)) l in
      let power : same (raised x (2 ^ part)) step = ap number (coset-power part t (omega (arith, within, small))) ∙ sym is in
      let taken = columns-equal (2 ^ part) 1 0 (take (2 ^ part) folded) folded (omega arith) (λ j b. get_or-take (2 ^ part) folded j nought (omega (arith, b, one))) in
      let here : same (item divisors (t * 1 + 0)) (value_in_ring goldilocks (column (2 ^ part) 1 0 (take (2 ^ part) folded)) (class_at goldilocks roots (2 ^ part * 1 + t))) = evaluated t 0 l (omega arith) in
      let there : same (value_in_ring goldilocks (column (2 ^ part) 1 0 folded) x) (value_in_ring goldilocks (column (2 ^ lg) 1 0 v) x) = fold x 0 (omega arith) power in
      rw (place, below, point, taken) at here ∙ rw (column_of-one nought (2 ^ lg) v size) at there

  -- no divisor is zero
  pub divisor-nonzero : (t : ℕ) → t < 2 ^ part → ¬ (same (item divisors t) nought)
  divisor-nonzero t l z =
      let r = bit_reversed part t in
      let i = 2 ^ (lg - part) * r in
      let rises : i < 2 ^ (lg - part) * 2 ^ part = mul-lt-mul_of_pos_left (bit_reversed-below part t) (pow_pos (lg - part)) in
      let inside : i < 2 ^ lg = omega (arith, rises, blocks-all lg part within) in
      coset_nonzero equality group commutes ring field (root_of lg) shift_of (2 ^ lg) filled long (shift_coset lg small) (value_in_ring goldilocks v) vanishes i inside
      (rw (lower_root lg part r small within) at (sym (divisor-at t l) ∙ z))

  -- the quotients of what divides by 2^part are the inverses
  pub inverses_made : (numerator : F) (inverses : List F) → same (product numerator (twos goldilocks part)) (residue 1)
      → ((t : ℕ) → t < 2 ^ part → same (product (item inverses t) (item divisors t)) numerator)
      → (t : ℕ) → t < 2 ^ part → same (product (product (item inverses t) (value_in_ring goldilocks v (coset_point part t))) (twos goldilocks part)) (residue 1)
  inverses_made numerator inverses half each t l =
      let i = item inverses t in
      let x = value_in_ring goldilocks v (coset_point part t) in
      let is : item divisors t ≡ x = same_number (item divisors t) x (divisor-at t l) in
      combine2_same equality group commutes ring (i ∷ x ∷ numerator ∷ twos goldilocks part ∷ []) ((v0 ⊗ v1) ⊗ v3) 𝟙 v3 (v0 ⊗ v1) v2 𝟙 (v2 ⊗ v3) 𝟙 (rw is at (each t l)) half refl
