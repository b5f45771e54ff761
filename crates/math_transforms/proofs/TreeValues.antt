-- Values at the points of a domain or its coset, by trees of square roots.
use Rattle.std.proofs.Common.{◌≡◌, ◌∙◌, ℕ, zero, suc, ◌+◌, ◌*◌, ◌^◌, ◌<◌, ◌≤◌, List, [], ◌∷◌, length, get_or, refl, sym, ap, ap₂, subst, arith}
use Rattle.math_theory.specs.BitReversal.{bit_reversed}
use Rattle.math_theory.specs.Domains.{HasExactOrder}
use Rattle.math_theory.specs.Laws.{IsEquality, IsGroup, IsProduct, IsRing, IsField}
use Rattle.math_theory.specs.OverRing as OverRing
use Rattle.math_theory.specs.Powers.{power, power-zero}
use Rattle.math_theory.specs.Rings.{CommutativeRing}
use Rattle.math_theory.proofs.classes.Classes.{Class, class, class_same, same_class, ring_of_classes}
use Rattle.math_theory.proofs.classes.ClassesOfLists.{power-class}
use Rattle.math_theory.proofs.domains.CarriedDomains.{IsPrincipalRoot-of_order-same}
use Rattle.math_theory.proofs.polynomials.BuiltPolynomials.{value-at, value-at_zero-same}
use Rattle.math_theory.proofs.rings.Normal.{combine2, ◌⊗◌, minus, 𝟙, v0, v1, v2, v3}
use Rattle.math_theory.proofs.rings.PowerLaws.{power-of_one, power-product}
use Rattle.math_theory.proofs.transforms.BitOrder.{bit_reversed-below, bit_reversed-twice}
use Rattle.math_base.specs.Members.{RingOf}
use Rattle.math_base.specs.Polynomials.{value_in_ring}
use Rattle.math_transforms.specs.CombinedCells.{AreRowsReversed}
use Rattle.math_transforms.specs.CosetValues.{AreMultiplesAtPowers}
use Rattle.math_transforms.specs.DomainValues.{matrix_of, AreReversedValuesAtPowers}
use Rattle.math_transforms.specs.Matrices.{column_of}
use Rattle.math_transforms.specs.RootTrees.{IsTreeOf, AreValuesBelow, AreValuesOfFewBelow, AreMultiplesBelow, class_at, column_value, entry, twos}
use Rattle.math_transforms.proofs.DomainSteps.{column-cell}
use Rattle.math_transforms.proofs.MatrixRows.{length-column}
use Rattle.math_transforms.proofs.TreePoints.{point-class}

module _ {A : Type 0} (R : RingOf A) (E : IsEquality R.same) (G : IsGroup R.same R.zero R.sum R.negative) (P : IsProduct R.same R.product) (L : IsRing R.same R.sum R.product R.one)
    {inverse : A → A} (K : IsField R.same R.zero R.product R.one inverse) where
  abbrev C : CommutativeRing (Class E)
  C = ring_of_classes E G P L

  -- a polynomial of one coefficient has one value
  constant-value : (p : List A) (x y : A) → length p ≡ 1 → R.same (value_in_ring R p x) (value_in_ring R p y)
  constant-value [] x y e = absurd (omega (arith, e))
  constant-value (a ∷ []) x y e = rw (power-zero R.one R.product x, power-zero R.one R.product y) (E.reflexive _)
  constant-value (a ∷ b ∷ p) x y e = absurd (omega (arith, e))

  -- point t of the coset by the start of the powers of a root of order 2^lg, in the order of the tree
  abbrev pub tree_point : A → A → ℕ → ℕ → A
  tree_point w start lg t = R.product start (power R.one R.product w (bit_reversed lg t))

  point-by_half : (root : ℕ → A) (start : A) (l : ℕ) (tree : List A) → OverRing.power C (class E (root (suc l))) (2 ^ l) ≡ C.negative C.one → IsTreeOf R root start (suc l) tree
      → (t : ℕ) → t < 2 ^ suc l → R.same (class_at R tree (2 ^ suc l * 1 + t)) (tree_point (root (suc l)) start (suc l) t)
  point-by_half root start l tree half T t b =
      let place : 2 ^ suc l * 1 + t ≡ 2 ^ suc l + t = omega arith in
      rw place
      (same_class E _ _
      (point-class R E G P L root start l tree T half t b ∙ ap (C.product (class E start)) (power-class E G P L (root (suc l)) (bit_reversed (suc l) t))))

  -- power 2^l of a root of order 2^(l + 1) is minus one
  half-of : (l : ℕ) (w : A) → HasExactOrder R.same R.one R.product w (2 ^ suc l) → OverRing.power C (class E w) (2 ^ l) ≡ C.negative C.one
  half-of l w order = power-class E G P L w (2 ^ l) ∙ class_same E _ _ (IsPrincipalRoot-of_order-same E G P L K (suc l) w order)

  -- and so is that of its inverse
  half-of_inverse : (l : ℕ) (w v : A) → HasExactOrder R.same R.one R.product w (2 ^ suc l) → R.same (R.product w v) R.one → OverRing.power C (class E v) (2 ^ l) ≡ C.negative C.one
  half-of_inverse l w v order unit =
      let x = OverRing.power C (class E w) (2 ^ l) in
      let y = OverRing.power C (class E v) (2 ^ l) in
      let whole : C.product x y ≡ C.one = sym (power-product C (class E w) (class E v) (2 ^ l)) ∙ ap (λ z. OverRing.power C z (2 ^ l)) (class_same E _ _ unit) ∙ power-of_one C (2 ^ l) in
      combine2 C (x ∷ y ∷ []) v1 (minus 𝟙) (minus 𝟙) (v0 ⊗ v1) 𝟙 v1 v0 (minus 𝟙) whole (half-of l w order) refl

  -- the values at the points below the first place are those at the points of the coset
  few-points : (root : ℕ → A) (start : A) (lg part c : ℕ) (tree cells new : List A) → part ≤ lg → HasExactOrder R.same R.one R.product (root lg) (2 ^ lg) → IsTreeOf R root start lg tree
      → AreValuesOfFewBelow R tree lg part 1 c cells new → (t k : ℕ) → t < 2 ^ lg → k < c
      → R.same (entry R new (t * c + k)) (column_value R part c cells k (tree_point (root lg) start lg t))
  few-points root start zero part c tree cells new within order T h t k b m =
      let none : part ≡ 0 = omega (arith, within) in
      E.transitive _ _ _ (h t k b m)
      (constant-value (column_of R.zero (matrix_of (2 ^ part) c cells) k) _ _ (length-column R.zero (matrix_of (2 ^ part) c cells) k ∙ ap (λ i. 2 ^ i) none))
  few-points root start (suc l) part c tree cells new within order T h t k b m =
      E.transitive _ _ _ (h t k b m)
      (value-at E G P L _ _ (column_of R.zero (matrix_of (2 ^ part) c cells) k) (point-by_half root start l tree (half-of l (root (suc l)) order) T t b))

  pub values-points : (root : ℕ → A) (start : A) (lg c : ℕ) (tree cells new : List A) → HasExactOrder R.same R.one R.product (root lg) (2 ^ lg) → IsTreeOf R root start lg tree
      → AreValuesBelow R tree lg 1 c cells new → (t k : ℕ) → t < 2 ^ lg → k < c
      → R.same (entry R new (t * c + k)) (column_value R lg c cells k (tree_point (root lg) start lg t))
  values-points root start lg c tree cells new order T h = few-points root start lg lg c tree cells new (omega arith) order T h

  -- a point times its class in the tree of the inverses is one
  point-unit : (w v s z : A) (n : ℕ) → R.same (R.product w v) R.one → R.same (R.product s z) R.one
      → R.same (R.product (R.product s (power R.one R.product w n)) (R.product z (power R.one R.product v n))) R.one
  point-unit w v s z n unit start_unit =
      let x = power R.one R.product w n in
      let y = power R.one R.product v n in
      let whole : C.product (class E x) (class E y) ≡ C.one =
      ap₂ C.product (sym (power-class E G P L w n)) (sym (power-class E G P L v n)) ∙ sym (power-product C (class E w) (class E v) n)
      ∙ ap (λ u. OverRing.power C u n) (class_same E _ _ unit) ∙ power-of_one C n in
      same_class E (R.product (R.product s x) (R.product z y)) R.one
      (combine2 C (class E s ∷ class E z ∷ class E x ∷ class E y ∷ []) ((v0 ⊗ v2) ⊗ (v1 ⊗ v3)) 𝟙 (v2 ⊗ v3) (v0 ⊗ v1) 𝟙 𝟙 (v2 ⊗ v3) 𝟙 (class_same E _ _ start_unit) whole refl)

  -- the coefficients that have multiples of the cells as their values below the first place have them at the points of the coset
  pub multiples-points : (root back : ℕ → A) (start home : A) (lg c : ℕ) (inverses cells new : List A) → HasExactOrder R.same R.one R.product (root lg) (2 ^ lg) → 0 < lg
      → R.same (R.product (root lg) (back lg)) R.one → R.same (R.product start home) R.one → IsTreeOf R back home lg inverses
      → AreMultiplesBelow R inverses lg 1 c cells new → (t k : ℕ) → t < 2 ^ lg → k < c
      → R.same (column_value R lg c new k (tree_point (root lg) start lg t)) (R.product (entry R cells (t * c + k)) (twos R lg))
  multiples-points root back start home zero c inverses cells new order some unit start_unit T h t k b m = absurd (omega (arith, some))
  multiples-points root back start home (suc l) c inverses cells new order some unit start_unit T h t k b m =
      let lg = suc l in
      let x = tree_point (root lg) start lg t in
      let here = point-by_half back home l inverses (half-of_inverse l (root lg) (back lg) order unit) T t b in
      h t k x b m (E.transitive _ _ _ (P.respects _ _ _ _ (E.reflexive x) here) (point-unit (root lg) (back lg) start home (bit_reversed lg t) unit start_unit))

  module _ (root : ℕ → A) (lg c : ℕ) (order : HasExactOrder R.same R.one R.product (root lg) (2 ^ lg)) where
    abbrev n : ℕ
    n = 2 ^ lg

    abbrev at : ℕ → A
    at j = power R.one R.product (root lg) j

    -- point j of the domain
    point-natural : (j : ℕ) → j < n → R.same (tree_point (root lg) R.one lg (bit_reversed lg j)) (at j)
    point-natural j l = subst (λ i. R.same (R.product R.one (at i)) (at j)) (sym (bit_reversed-twice lg j l)) (L.identity (at j))

    -- the row of a point is that whose number has the bits of the point's power in the opposite order
    pub few-reversed : (part : ℕ) (tree cells new : List A) → part ≤ lg → IsTreeOf R root R.one lg tree → AreValuesOfFewBelow R tree lg part 1 c cells new
        → AreReversedValuesAtPowers R (root lg) lg (matrix_of (2 ^ part) c cells) (matrix_of n c new)
    few-reversed part tree cells new within T h j k l m =
        E.transitive _ _ _ (few-points root R.one lg part c tree cells new within order T h (bit_reversed lg j) k (bit_reversed-below lg j) m)
        (value-at E G P L _ _ (column_of R.zero (matrix_of (2 ^ part) c cells) k) (point-natural j l))

    pub values-reversed : (tree cells new : List A) → IsTreeOf R root R.one lg tree → AreValuesBelow R tree lg 1 c cells new
        → AreReversedValuesAtPowers R (root lg) lg (matrix_of n c cells) (matrix_of n c new)
    values-reversed tree cells new T h = few-reversed lg tree cells new (omega arith) T h

    -- and the rows of values, put in the order of the tree, give multiples of the coefficients
    pub multiples-natural : (back : ℕ → A) (inverses cells mid new : List A) → 0 < lg → R.same (R.product (root lg) (back lg)) R.one → IsTreeOf R back R.one lg inverses
        → AreRowsReversed R.zero lg (matrix_of n c cells) (matrix_of n c mid) → AreMultiplesBelow R inverses lg 1 c mid new
        → AreMultiplesAtPowers R (root lg) lg (matrix_of n c new) (matrix_of n c cells)
    multiples-natural back inverses cells mid new some unit T reversed h j k l m =
        let t = bit_reversed lg j in
        let place : get_or mid (t * c + k) R.zero ≡ get_or cells (j * c + k) R.zero =
        reversed t k (bit_reversed-below lg j) m ∙ ap (λ i. get_or cells (i * c + k) R.zero) (bit_reversed-twice lg j l) in
        let value = multiples-points root back R.one R.one lg c inverses mid new order some unit (L.identity R.one) T h t k (bit_reversed-below lg j) m in
        E.symmetric _ _
        (E.transitive _ _ _ (value-at E G P L _ _ (column_of R.zero (matrix_of n c new) k) (E.symmetric _ _ (point-natural j l))) (rw place at value))

    -- one row is its own coefficients
    pub multiples-none : (cells : List A) → lg ≡ 0 → AreMultiplesAtPowers R (root lg) lg (matrix_of n c cells) (matrix_of n c cells)
    multiples-none cells e j k l m =
        let first : j ≡ 0 = let q : n ≡ 1 = ap (λ i. 2 ^ i) e in omega (arith, l, q) in
        let cell = get_or cells (j * c + k) R.zero in
        let column = column_of R.zero (matrix_of n c cells) k in
        let here : get_or column 0 R.zero ≡ cell = column-cell R.zero n c k 0 cells (omega (arith, l)) m ∙ ap (λ i. get_or cells (i * c + k) R.zero) (sym first) in
        let value : R.same (value_in_ring R column (at j)) (get_or column 0 R.zero) =
        E.transitive _ _ _ (constant-value column (at j) R.zero (length-column R.zero (matrix_of n c cells) k ∙ ap (λ i. 2 ^ i) e)) (value-at_zero-same E G P L column) in
        let none : power R.one R.product (R.sum R.one R.one) lg ≡ R.one = ap (power R.one R.product (R.sum R.one R.one)) e ∙ power-zero R.one R.product (R.sum R.one R.one) in
        let unit : R.same (R.product cell R.one) cell = E.transitive _ _ _ (P.commutative cell R.one) (L.identity cell) in
        E.transitive _ _ _ (rw none unit) (E.symmetric _ _ (rw here at value))
