-- Division of columns of values on part of a coset: what it gives fits the cells that are there.
use Rattle.std.proofs.Common.{◌≡◌, ◌∙◌, inl, inr, ℕ, ◌+◌, ◌-◌, ◌*◌, ◌<◌, ◌≤◌, ◌^◌, List, [], ◌∷◌, ◌++◌, length, take, refl, sym, ap, ap₂, arith}
use Rattle.std.proofs.lemmas.Bool.{cases_lt}
use Rattle.std.proofs.lemmas.List.{length-append}
use Rattle.std.proofs.lemmas.Nat.{pow_pos}
use Rattle.math_theory.specs.BitReversal.{bit_reversed}
use Rattle.math_theory.specs.Recovery.{Fits}
use Rattle.math_theory.proofs.classes.RingUpToSame.{combine2_same, combine3_same, ring_same}
use Rattle.math_theory.proofs.recovery.RecoveredColumns.{recovered-fits}
use Rattle.math_theory.proofs.rings.Normal.{◌⊕◌, ◌⊗◌, minus, 𝟙, v0, v1, v2, v3, v4, v5, v6}
use Rattle.math_theory.proofs.transforms.BitOrder.{bit_reversed-below, bit_reversed-twice}
use Rattle.math_theory.proofs.transforms.EvenOddItems.{value-append}
use Rattle.math_fields.specs.declared.goldilocks.F.{F}
use Rattle.math_fields.specs.ElementLaws.{equality, group, commutes, ring}
use Rattle.math_fields.specs.ElementRootLaws.{field}
use Rattle.math_fields.specs.Elements.{inverse, negative, number, product, residue, root_of, same, shift_of, sum, goldilocks}
use Rattle.math_fields.proofs.ElementNumbers.{same_number}
use Rattle.math_transforms.specs.DomainValues.{matrix_of}
use Rattle.math_transforms.specs.RootTrees.{AreMultiplesBelow, AreValuesBelow, class_at, twos}
use Rattle.math_transforms.specs.RowProducts.{AreRowProducts}
use Rattle.math_transforms.proofs.MatrixRows.{length-column}
use Rattle.math_transforms.proofs.PowersOfTwo.{power_of_two-double}
use Rattle.math_restoring.specs.declared.dividing.CosetDivision.{CosetDivision}
use Rattle.math_restoring.specs.CosetDivisions.{AreFolded, AreSumsOf, IsCosetDivision, coset_point, domain_point, power_below, raised}
use Rattle.math_restoring.specs.Restored.{item}
use Rattle.math_restoring.proofs.BlockColumns.{blocks-all, column-before, column-taken, rows-within}
use Rattle.math_restoring.proofs.CombinedColumns.{at, column, combined, combined-length, combined-value, nought}
use Rattle.math_restoring.proofs.CosetPowers.{coset-power, even-power, minus-nonzero, odd-power, plus-nonzero, power-below, shift_coset, twos-more}
use Rattle.math_values.proofs.ElementRing.{elements}
use Rattle.math_restoring.proofs.PointsOfTrees.{inverse-coset_point, inverse-domain_point, tree-coset_point}
use Rattle.math_restoring.proofs.RaisedElements.{lower_root}

-- the polynomial of twice as many coefficients that has the multiples of both lists as its values
abbrev joined : List F → List F → F → F → List F
joined low high p q = combined p q low high ++ combined p (negative q) low high

-- its value
joined-at : (x : F) (low high : List F) (p q : F) → length high ≡ length low
    → at x (joined low high p q)
    ≡ sum (sum (product (at x low) p) (product (at x high) q)) (product (raised x (length low)) (sum (product (at x low) p) (product (at x high) (negative q))))
joined-at x low high p q e =
    value-append elements x (combined p q low high) (combined p (negative q) low high)
    ∙ ap₂ sum (combined-value p q x low high) (ap₂ product (ap (raised x) (combined-length p q low high e)) (combined-value p (negative q) x low high))

module _ (d : CosetDivision) (D : IsCosetDivision d) (c k : ℕ) (l : k < c) where
  abbrev n : ℕ
  n = 2 ^ d.lg

  abbrev half : ℕ
  half = 2 ^ (d.lg - 1)

  abbrev m : ℕ
  m = 2 ^ d.part

  -- there is a level
  some : 1 ≤ d.lg
  some = omega (arith, D.tables.least, D.tables.part)

  -- a point of the coset in natural order
  abbrev coset_at : ℕ → F
  coset_at t = product shift_of (raised (root_of d.lg) (2 ^ (d.lg - d.part) * t))

  coset_at-point : (t : ℕ) → t < m → coset_at t ≡ coset_point d.part (bit_reversed d.part t)
  coset_at-point t b =
      ap (product shift_of) (sym (lower_root d.lg d.part t D.tables.domain D.tables.part) ∙ ap (raised (root_of d.part)) (sym (bit_reversed-twice d.part t b)))

  module _ (cells g values scaled new : List F) (count : length cells ≡ n) (g_count : length g ≡ n)
      (products : (i : ℕ) → i < n → same (at (raised (root_of d.lg) i) g) (product (item cells i) (at (raised (root_of d.lg) i) D.v)))
      (here : (t : ℕ) → t < m → same (item values (t * c + k)) (at (coset_point d.part t) g))
      (second : AreRowProducts goldilocks (length d.inverses.items) c (λ i. item d.inverses.items i) values scaled)
      (third : AreMultiplesBelow goldilocks d.coset_inverses.items d.part 1 c scaled new) where
    -- at a point of the coset the value of what is found, times that of v, is that of g
    quotient : (t : ℕ) → t < m → let x = coset_point d.part t in same (product (at x (column m c k new)) (at x D.v)) (at x g)
    quotient t b =
        let x = coset_point d.part t in
        let cell = item values (t * c + k) in
        let i = item d.inverses.items t in
        let y = item scaled (t * c + k) in
        let v = at x D.v in
        let w = twos goldilocks d.part in
        let inside : t < length d.inverses.items = omega (arith, b, D.tables.inverse_count) in
        let place : m * 1 + t ≡ m + t = omega arith in
        let one : same (product x (class_at goldilocks d.coset_inverses.items (m * 1 + t))) (residue 1) =
        rw place (inverse-coset_point d.part t d.coset_inverses.items D.tables.coset_inverses D.tables.least (omega (arith, D.tables.part, D.tables.domain)) b) in
        ap (λ z. number (product z v)) (same_number (at x (column m c k new)) (product y w) (third t k x b l one))
        ∙ combine2_same equality group commutes ring (cell ∷ i ∷ y ∷ v ∷ w ∷ []) ((v2 ⊗ v4) ⊗ v3) v0 (v4 ⊗ v3) v2 (v0 ⊗ v1) v0 ((v1 ⊗ v3) ⊗ v4) 𝟙 (second t k inside l) (D.inverses t b) refl
        ∙ here t b

    quotients : (t : ℕ) → t < m → same (product (at (coset_at t) (column m c k new)) (at (coset_at t) D.v)) (at (coset_at t) g)
    quotients t b = rw (coset_at-point t b) (quotient (bit_reversed d.part t) (bit_reversed-below d.part t))

    pub divided-fits : Fits same nought sum product (residue 1) (root_of d.lg) cells d.points (column m c k new)
    divided-fits =
        recovered-fits equality group commutes ring field (root_of d.lg) shift_of n d.points D.tables.points (shift_coset d.lg D.tables.domain) (2 ^ (d.lg - d.part)) m cells D.v D.v g (column m c k new) count D.size
        g_count (length-column nought (matrix_of m c new) k) D.tables.some D.tables.few (pow_pos (d.lg - d.part)) (omega (arith, blocks-all d.lg d.part D.tables.part)) D.vanishes (λ i b. refl) products quotients

  module _ (cells old : List F)
      (times : (i : ℕ) → i < n → same (item old (bit_reversed d.lg i * c + k)) (product (item cells i) (item d.factors.items (bit_reversed d.lg i)))) where
    -- where all points are taken, the interpolated column has the cells times the values of v as its values
    pub whole-products : (g : List F) → d.part ≡ d.lg → AreMultiplesBelow goldilocks d.domain.items d.lg 1 c old g
        → (i : ℕ) → i < n → same (at (raised (root_of d.lg) i) (column n c k g)) (product (item cells i) (at (raised (root_of d.lg) i) D.v))
    whole-products g e whole i b =
        let t = bit_reversed d.lg i in
        let below : t < n = bit_reversed-below d.lg i in
        let x = domain_point d.lg t in
        let natural : x ≡ raised (root_of d.lg) i = ap (raised (root_of d.lg)) (bit_reversed-twice d.lg i b) in
        let o = item old (t * c + k) in
        let a = item cells i in
        let f = item d.factors.items t in
        let v = at x D.v in
        let w = twos goldilocks d.lg in
        let place : n * 1 + t ≡ n + t = omega arith in
        rw (← natural)
        (whole t k x below l (rw place (inverse-domain_point d.lg t d.domain.items D.tables.domain_inverses some D.tables.domain below))
        ∙ combine2_same equality group commutes ring (a ∷ f ∷ o ∷ v ∷ w ∷ []) (v2 ⊗ v4) (v0 ⊗ v3) v4 v2 (v0 ⊗ v1) v0 (v1 ⊗ v4) v3 (times i b) (D.factors.whole t e below) refl)

    module _ (sums : List F) (fewer : d.part < d.lg) (low high : List F) (low_count : length low ≡ half) (high_count : length high ≡ half)
        (total : (x : F) → same (at x (column half c k sums)) (sum (at x low) (at x high)))
        (lows : (t : ℕ) → t < half → same (at (domain_point d.lg t) low) (product (item old (t * c + k)) (twos goldilocks (d.lg - 1))))
        (highs : (t : ℕ) → t < half → same (at (domain_point d.lg (half + t)) high) (product (item old ((half + t) * c + k)) (twos goldilocks (d.lg - 1)))) where
      abbrev step_power : F
      step_power = power_below d.lg d.part d.step

      abbrev plus : F
      plus = sum (residue 1) step_power

      abbrev less : F
      less = sum (residue 1) (negative step_power)

      step_is : d.step ≡ raised shift_of (2 ^ d.part)
      step_is = same_number d.step (raised shift_of (2 ^ d.part)) D.tables.step

      plus-inverse : same (product plus (inverse plus)) (residue 1)
      plus-inverse = field.inverts plus (plus-nonzero d.lg d.part d.step fewer D.tables.domain step_is)

      less-inverse : same (product less (inverse less)) (residue 1)
      less-inverse = field.inverts less (minus-nonzero d.lg d.part d.step fewer D.tables.domain step_is)

      -- the polynomial of all coefficients
      abbrev pub g : List F
      g = joined low high (inverse plus) (inverse less)

      pub g-count : length g ≡ n
      g-count =
          length-append (combined (inverse plus) (inverse less) low high) (combined (inverse plus) (negative (inverse less)) low high)
          ∙ omega (
            arith,
            combined-length (inverse plus) (inverse less) low high (high_count ∙ sym low_count),
            combined-length (inverse plus) (negative (inverse less)) low high (high_count ∙ sym low_count),
            low_count,
            power_of_two-double d.lg some,
          )

      g-at : (x y : F) → raised x half ≡ y
          → at x g ≡ sum (sum (product (at x low) (inverse plus)) (product (at x high) (inverse less))) (product y (sum (product (at x low) (inverse plus)) (product (at x high) (negative (inverse less)))))
      g-at x y h =
          joined-at x low high (inverse plus) (inverse less) (high_count ∙ sym low_count)
          ∙ ap (λ z. sum (sum (product (at x low) (inverse plus)) (product (at x high) (inverse less))) (product z (sum (product (at x low) (inverse plus)) (product (at x high) (negative (inverse less))))))
          (ap (raised x) low_count ∙ h)

      -- its value at a point of even index
      even-product : (a : F) (t : ℕ) → t < half → same (item old (t * c + k)) (product a (item d.factors.items t))
          → same (at (domain_point d.lg t) g) (product a (at (domain_point d.lg t) D.v))
      even-product a t b here =
          let x = domain_point d.lg t in
          let o = item old (t * c + k) in
          let f = item d.factors.items t in
          let w = twos goldilocks (d.lg - 1) in
          let v = at x D.v in
          let p = inverse plus in
          let value : at x low ≡ product o w = same_number (at x low) (product o w) (lows t b) in
          let factor : same (product f (product w (sum (residue 1) (residue 1)))) (product v plus) = rw (twos-more d.lg some) at (D.factors.low t fewer b) in
          rw (g-at x (residue 1) (even-power d.lg t some D.tables.domain b), value)
          (ring_same equality group commutes ring (product o w ∷ p ∷ at x high ∷ inverse less ∷ []) (((v0 ⊗ v1) ⊕ (v2 ⊗ v3)) ⊕ (𝟙 ⊗ ((v0 ⊗ v1) ⊕ (v2 ⊗ minus v3)))) ((𝟙 ⊕ 𝟙) ⊗ (v0 ⊗ v1)) refl
          ∙ combine3_same equality group commutes ring (a ∷ f ∷ o ∷ w ∷ v ∷ step_power ∷ p ∷ []) ((𝟙 ⊕ 𝟙) ⊗ ((v2 ⊗ v3) ⊗ v6)) (v0 ⊗ v4)
          ((𝟙 ⊕ 𝟙) ⊗ (v6 ⊗ v3)) v2 (v0 ⊗ v1) (v0 ⊗ v6) (v1 ⊗ (v3 ⊗ (𝟙 ⊕ 𝟙))) (v4 ⊗ (𝟙 ⊕ v5)) (v0 ⊗ v4) ((𝟙 ⊕ v5) ⊗ v6) 𝟙 here factor plus-inverse refl)

      -- its value at a point of odd index
      odd-product : (a : F) (t : ℕ) → t < half → same (item old ((half + t) * c + k)) (product a (item d.factors.items (half + t)))
          → same (at (domain_point d.lg (half + t)) g) (product a (at (domain_point d.lg (half + t)) D.v))
      odd-product a t b here =
          let x = domain_point d.lg (half + t) in
          let o = item old ((half + t) * c + k) in
          let f = item d.factors.items (half + t) in
          let w = twos goldilocks (d.lg - 1) in
          let v = at x D.v in
          let p = inverse less in
          let value : at x high ≡ product o w = same_number (at x high) (product o w) (highs t b) in
          let factor : same (product f (product w (sum (residue 1) (residue 1)))) (product v less) = rw (twos-more d.lg some) at (D.factors.high t fewer b) in
          rw (g-at x (negative (residue 1)) (odd-power d.lg t some D.tables.domain b), value)
          (ring_same equality group commutes ring (product o w ∷ p ∷ at x low ∷ inverse plus ∷ []) (((v2 ⊗ v3) ⊕ (v0 ⊗ v1)) ⊕ (minus 𝟙 ⊗ ((v2 ⊗ v3) ⊕ (v0 ⊗ minus v1)))) ((𝟙 ⊕ 𝟙) ⊗ (v0 ⊗ v1)) refl
          ∙ combine3_same equality group commutes ring (a ∷ f ∷ o ∷ w ∷ v ∷ step_power ∷ p ∷ []) ((𝟙 ⊕ 𝟙) ⊗ ((v2 ⊗ v3) ⊗ v6)) (v0 ⊗ v4)
          ((𝟙 ⊕ 𝟙) ⊗ (v6 ⊗ v3)) v2 (v0 ⊗ v1) (v0 ⊗ v6) (v1 ⊗ (v3 ⊗ (𝟙 ⊕ 𝟙))) (v4 ⊗ (𝟙 ⊕ minus v5)) (v0 ⊗ v4) ((𝟙 ⊕ minus v5) ⊗ v6) 𝟙 here factor less-inverse refl)

      point-product : (a : F) (t : ℕ) → t < n → same (item old (t * c + k)) (product a (item d.factors.items t)) → same (at (domain_point d.lg t) g) (product a (at (domain_point d.lg t) D.v))
      point-product a t b here =
          elim (cases_lt t half) [
            | inl below ↦ even-product a t below here
            | inr past ↦
                let s = t - half in
                let e : half + s ≡ t = omega (arith, past) in
                rw e at (odd-product a s (omega (arith, past, b, power_of_two-double d.lg some)) (rw e here))
          ]

      -- so its values on the domain are the cells times those of v
      pub half-products : (i : ℕ) → i < n → same (at (raised (root_of d.lg) i) g) (product (item cells i) (at (raised (root_of d.lg) i) D.v))
      half-products i b =
          let t = bit_reversed d.lg i in
          let natural : raised (root_of d.lg) (bit_reversed d.lg t) ≡ raised (root_of d.lg) i = ap (raised (root_of d.lg)) (bit_reversed-twice d.lg i b) in
          rw natural at (point-product (item cells i) t (bit_reversed-below d.lg i) (times i b))

      -- and on the coset they are those of the sums
      pub coset-sums : (t : ℕ) → same (at (coset_point d.part t) (column half c k sums)) (at (coset_point d.part t) g)
      coset-sums t =
          let x = coset_point d.part t in
          let turn : raised x half ≡ step_power = power-below d.lg d.part x d.step fewer (coset-power d.part t (omega (arith, D.tables.part, D.tables.domain)) ∙ sym step_is) in
          rw (g-at x step_power turn)
          (total x
          ∙ combine2_same equality group commutes ring (at x low ∷ at x high ∷ step_power ∷ inverse plus ∷ inverse less ∷ []) (v0 ⊕ v1)
          (((v0 ⊗ v3) ⊕ (v1 ⊗ v4)) ⊕ (v2 ⊗ ((v0 ⊗ v3) ⊕ (v1 ⊗ minus v4)))) (minus v0) ((𝟙 ⊕ v2) ⊗ v3) 𝟙 (minus v1) ((𝟙 ⊕ minus v2) ⊗ v4) 𝟙 plus-inverse less-inverse refl)

module _ (d : CosetDivision) (D : IsCosetDivision d) (c k : ℕ) (l : k < c) (cells old taken values scaled new : List F) (count : length cells ≡ 2 ^ d.lg)
    (times : (i : ℕ) → i < 2 ^ d.lg → same (item old (bit_reversed d.lg i * c + k)) (product (item cells i) (item d.factors.items (bit_reversed d.lg i))))
    (evaluated : AreValuesBelow goldilocks d.coset.items d.part 1 c taken values)
    (second : AreRowProducts goldilocks (length d.inverses.items) c (λ i. item d.inverses.items i) values scaled)
    (third : AreMultiplesBelow goldilocks d.coset_inverses.items d.part 1 c scaled new) where
  abbrev rows : ℕ
  rows = 2 ^ d.part

  abbrev all : ℕ
  all = 2 ^ d.lg

  abbrev lower_half : ℕ
  lower_half = 2 ^ (d.lg - 1)

  -- the values are those at the points of the coset
  evaluated-at : (t : ℕ) → t < rows → same (item values (t * c + k)) (at (coset_point d.part t) (column rows c k taken))
  evaluated-at t b =
      let place : rows * 1 + t ≡ rows + t = omega arith in
      let x = coset_point d.part t in
      let class : class_at goldilocks d.coset.items (rows + t) ≡ x = tree-coset_point d.part t d.coset.items D.tables.coset_tree D.tables.least (omega (arith, D.tables.part, D.tables.domain)) b in
      rw (place, class) at (evaluated t k b l)

  -- what is found fits, where all points of the domain are taken
  pub whole-fits : (g : List F) → d.part ≡ d.lg → AreMultiplesBelow goldilocks d.domain.items d.lg 1 c old g → taken ≡ take (rows * c) g
      → Fits same nought sum product (residue 1) (root_of d.lg) cells d.points (column rows c k new)
  whole-fits g e whole taken_is =
      let one : column rows c k taken ≡ column all c k g =
      ap (column rows c k) taken_is ∙ column-taken rows c k g l ∙ ap (λ lg. column (2 ^ lg) c k g) e in
      divided-fits d D c k l cells (column all c k g) values scaled new count (length-column nought (matrix_of all c g) k) (whole-products d D c k l cells old times g e whole)
      (λ t b. evaluated-at t b ∙ ap (λ p. number (at (coset_point d.part t) p)) one) second third

  -- and where half of the rows are folded
  pub half-fits : (sums folded rest : List F) → d.part < d.lg → AreSumsOf d.lg c old sums → AreFolded (d.lg - 1) d.part c d.step (take (lower_half * c) sums) folded
      → length folded ≡ lower_half * c → taken ≡ take (rows * c) (folded ++ rest)
      → Fits same nought sum product (residue 1) (root_of d.lg) cells d.points (column rows c k new)
  half-fits sums folded rest fewer S fold long taken_is =
      let s = S k l in
      let low = s.0 in
      let high = s.1 in
      let within : rows * c ≤ length folded = rows-within d.part (d.lg - 1) rows c (length folded) (omega (arith, fewer)) refl long in
      let one : column rows c k taken ≡ column rows c k folded = ap (column rows c k) taken_is ∙ column-taken rows c k (folded ++ rest) l ∙ column-before rows c k folded rest l within in
      let step : (t : ℕ) → same (raised (coset_point d.part t) rows) d.step =
      λ t. ap number (coset-power d.part t (omega (arith, D.tables.part, D.tables.domain))) ∙ sym D.tables.step in
      divided-fits d D c k l cells (g d D c k l cells old times sums fewer low high s.2 s.3 s.4 s.5 s.6) values scaled new count
      (g-count d D c k l cells old times sums fewer low high s.2 s.3 s.4 s.5 s.6)
      (half-products d D c k l cells old times sums fewer low high s.2 s.3 s.4 s.5 s.6)
      (λ t b. evaluated-at t b ∙ ap (λ p. number (at (coset_point d.part t) p)) one ∙ fold (coset_point d.part t) k l (step t)
      ∙ ap (λ p. number (at (coset_point d.part t) p)) (column-taken lower_half c k sums l)
      ∙ coset-sums d D c k l cells old times sums fewer low high s.2 s.3 s.4 s.5 s.6 t)
      second third
