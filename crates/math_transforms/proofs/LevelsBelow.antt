-- One level below a place of a tree of square roots, in a commutative ring: values of columns from those of two halves, and back.
use Rattle.std.proofs.Common.{◌≡◌, ◌∙◌, inl, inr, ℕ, suc, ◌+◌, ◌-◌, ◌*◌, ◌<◌, ◌≤◌, ◌^◌, true, false, List, [], ◌∷◌, ◌++◌, length, take, drop, get_or, refl, sym, ap, ap₂, arith}
use Rattle.std.proofs.Math.Seq.{drop-append_seam, take-append_seam}
use Rattle.std.proofs.lemmas.Bool.{cases_lt}
use Rattle.std.proofs.lemmas.List.{get_or_append_left, get_or-append-add, get_or-take, get_or_past, length-map}
use Rattle.std.proofs.lemmas.Nat.{mul-add-lt, mul-le}
use Rattle.math_theory.specs.OverRing as OverRing
use Rattle.math_theory.specs.Powers.{power-suc, power-zero}
use Rattle.math_theory.specs.Rings.{CommutativeRing}
use Rattle.math_theory.proofs.domains.RootOrders.{power_of_two-suc}
use Rattle.math_theory.proofs.polynomials.Coefficients.{coefficient-multiple, coefficient-sum, length-sum, value-HaveSameCoefficients}
use Rattle.math_theory.proofs.polynomials.Values.{value-horner, value-multiple, value-sum}
use Rattle.math_theory.proofs.rings.Normal.{ring, combine, ◌⊕◌, ◌⊖◌, ◌⊗◌, minus, 𝟘, 𝟙, v0, v1, v2, v3}
use Rattle.math_theory.proofs.transforms.EvenOddItems.{value-append}
use Rattle.math_base.specs.Columns.{IsCombined}
use Rattle.math_transforms.specs.DomainValues.{matrix_of}
use Rattle.math_transforms.specs.Matrices.{column_of}
use Rattle.math_transforms.specs.RootTrees.{AreValuesBelow, IsRootTree, class_at, column_value, entry, twos}
use Rattle.math_transforms.proofs.ColumnHalves.{column-halves}
use Rattle.math_transforms.proofs.DomainSteps.{column-cell}
use Rattle.math_transforms.proofs.MatrixRows.{length-column}
use Rattle.math_transforms.proofs.PointsBelow.{plain, class-twice, class-twice_more, point-power, power-inverse}

-- the rows below a place, by halves
pub record Below (lg place c : ℕ) : Type 0 where
  pub up : suc (lg - 1) ≡ lg
  pub rows : 2 ^ lg ≡ 2 ^ (lg - 1) + 2 ^ (lg - 1)
  pub first : (t : ℕ) → 2 ^ lg * place + t ≡ 2 ^ (lg - 1) * (2 * place) + t
  pub second : (t : ℕ) → 2 ^ lg * place + (2 ^ (lg - 1) + t) ≡ 2 ^ (lg - 1) * (2 * place + 1) + t

pub below : (lg place c : ℕ) → 0 < lg → Below lg place c
below lg place c some =
    let up : suc (lg - 1) ≡ lg = omega (arith, some) in
    let rows : 2 ^ lg ≡ 2 ^ (lg - 1) + 2 ^ (lg - 1) = ap (λ n. 2 ^ n) (sym up) ∙ power_of_two-suc (lg - 1) in
    let spread : 2 ^ lg * place ≡ 2 * (2 ^ (lg - 1) * place) = ap (λ i. i * place) rows ∙ omega arith in
    record { up = up; rows = rows; first = λ t. omega (arith, spread); second = λ t. omega (arith, spread) }

pub child-within : (lg place u long : ℕ) → 0 < lg → u < 2 → 2 ^ lg * (place + 1) ≤ 2 * long → 2 ^ (lg - 1) * ((2 * place + u) + 1) ≤ 2 * long
child-within lg place u long some l within =
    let h = below lg place 0 some in
    let all : 2 ^ lg * (place + 1) ≡ 2 * (2 ^ (lg - 1) * place) + 2 * 2 ^ (lg - 1) = ap (λ i. i * (place + 1)) h.rows ∙ omega arith in
    let m : 2 ^ (lg - 1) * (u + 1) ≤ 2 ^ (lg - 1) * 2 = mul-le (2 ^ (lg - 1)) (u + 1) (2 ^ (lg - 1)) 2 (omega arith) (omega (arith, l)) in
    omega (arith, m, all, within)

module _ {K : Type 0} (C : CommutativeRing K) where
  abbrev nought : K
  nought = C.zero

  -- column k of n rows of c cells
  abbrev column : ℕ → ℕ → ℕ → List K → List K
  column n c k cells = column_of C.zero (matrix_of n c cells) k

  -- the value of a list of coefficients
  abbrev at : K → List K → K
  at x p = OverRing.value C x p

  -- the value of a column of one row is the cell
  one_row : (c k : ℕ) (x : K) (p : List K) → k < c → at x (column 1 c k p) ≡ get_or p k C.zero
  one_row c k x p l =
      value-horner C x (column 1 c k p)
      ∙ ring C (get_or (take c p) k C.zero ∷ x ∷ []) (v0 ⊕ (v1 ⊗ 𝟘)) v0 refl
      ∙ get_or-take c p k C.zero l

  -- the value of a column of rows after others
  column-append : (m n c k : ℕ) (x : K) (p q : List K) → length p ≡ m * c
      → at x (column (m + n) c k (p ++ q)) ≡ C.sum (at x (column m c k p)) (C.product (OverRing.power C x m) (at x (column n c k q)))
  column-append m n c k x p q e =
      let front : take (m * c) (p ++ q) ≡ p = ap (λ i. take i (p ++ q)) (sym e) ∙ take-append_seam p q in
      let behind : drop (m * c) (p ++ q) ≡ q = ap (λ i. drop i (p ++ q)) (sym e) ∙ drop-append_seam p q in
      ap (at x) (column-halves C.zero m n c k (p ++ q) ∙ ap₂ (λ y z. column m c k y ++ column n c k z) front behind)
      ∙ value-append C x (column m c k p) (column n c k q)
      ∙ ap (λ i. C.sum (at x (column m c k p)) (C.product (OverRing.power C x i) (at x (column n c k q)))) (length-column C.zero (matrix_of m c p) k)

  -- a list, and u times another one added to it
  abbrev pub sums : K → List K → List K → List K
  sums u p q = OverRing.polynomial_sum C p (OverRing.polynomial_multiple C q u)

  pub sums-length : (u : K) (p q : List K) → length q ≡ length p → length (sums u p q) ≡ length p
  sums-length u p q e = length-sum C.sum p (OverRing.polynomial_multiple C q u) ∙ omega (arith, e, length-map q (λ a. C.product a u))

  pub sums-item : (u : K) (p q : List K) (i : ℕ) → get_or (sums u p q) i C.zero ≡ C.sum (get_or p i C.zero) (C.product (get_or q i C.zero) u)
  sums-item u p q i = coefficient-sum C _ _ i ∙ ap (C.sum (get_or p i C.zero)) (coefficient-multiple C q u i)

  sums-value : (u x : K) (p q : List K) → at x (sums u p q) ≡ C.sum (at x p) (C.product (at x q) u)
  sums-value u x p q = value-sum C x _ _ ∙ ap (C.sum (at x p)) (value-multiple C x q u)

  -- where each cell is the sum of a cell and u times another one, times v, so are the values of the columns
  columns-summed : (n c k : ℕ) (u v x : K) (new p q : List K) → k < c
      → ((j : ℕ) → j < n * c → get_or new j C.zero ≡ C.product (C.sum (get_or p j C.zero) (C.product (get_or q j C.zero) u)) v)
      → at x (column n c k new) ≡ C.product (C.sum (at x (column n c k p)) (C.product (at x (column n c k q)) u)) v
  columns-summed n c k u v x new p q l h =
      value-HaveSameCoefficients C x (column n c k new) (OverRing.polynomial_multiple C (sums u (column n c k p) (column n c k q)) v)
      (λ i. each i ∙ sym (coefficient-multiple C (sums u (column n c k p) (column n c k q)) v i ∙ ap (λ y. C.product y v) (sums-item u (column n c k p) (column n c k q) i)))
      ∙ value-multiple C x (sums u (column n c k p) (column n c k q)) v
      ∙ ap (λ y. C.product y v) (sums-value u x (column n c k p) (column n c k q))
    where
      here : (xs : List K) (i : ℕ) → i < n → get_or (column n c k xs) i C.zero ≡ get_or xs (i * c + k) C.zero
      here xs i b = column-cell C.zero n c k i xs b l

      past : (xs : List K) (i : ℕ) → ¬ (i < n) → get_or (column n c k xs) i C.zero ≡ C.zero
      past xs i b = get_or_past (column n c k xs) i C.zero (omega (arith, b, length-column C.zero (matrix_of n c xs) k))

      each : (i : ℕ) → get_or (column n c k new) i C.zero ≡ C.product (C.sum (get_or (column n c k p) i C.zero) (C.product (get_or (column n c k q) i C.zero) u)) v
      each i =
          elim (cases_lt i n) [
            | inl b ↦
                let place : i * c + k < n * c = let m : i * c + k < c * n = mul-add-lt i c k n b l in omega (arith, m) in
                rw (here new i b, here p i b, here q i b) (h (i * c + k) place)
            | inr g ↦
                let b : ¬ (i < n) = λ m. absurd (omega (arith, m, g)) in
                rw (past new i b, past p i b, past q i b) (ring C (u ∷ v ∷ []) 𝟘 ((𝟘 ⊕ (𝟘 ⊗ v0)) ⊗ v1) refl)
          ]

  -- what holds of each cell of some rows, and of those of further rows
  each_row : (P : ℕ → ℕ → K → Type 0) (m n c : ℕ) (p q : List K) → length p ≡ m * c → ((s k : ℕ) → s < m → k < c → P s k (get_or p (s * c + k) C.zero))
      → ((s k : ℕ) → s < n → k < c → P (m + s) k (get_or q (s * c + k) C.zero))
      → (t k : ℕ) → t < m + n → k < c → P t k (get_or (p ++ q) (t * c + k) C.zero)
  each_row P m n c p q e f g t k b l =
      elim (cases_lt t m) [
        | inl here ↦
            let inside : t * c + k < length p = let h : t * c + k < c * m = mul-add-lt t c k m here l in omega (arith, h, e) in
            rw (get_or_append_left p q C.zero (t * c + k) inside) (f t k here l)
        | inr past ↦ further (t - m) t (omega (arith, past)) (omega (arith, b, past))
      ]
    where
      further : (s t : ℕ) → t ≡ m + s → s < n → P t k (get_or (p ++ q) (t * c + k) C.zero)
      further s t whole inside =
          let place : (m + s) * c + k ≡ length p + (s * c + k) = omega (arith, e) in
          rw (whole, place, get_or-append-add p q (s * c + k) C.zero) (g s k inside l)

  -- one row is its values, and its coefficients
  row-value : (lg c k : ℕ) (x : K) (p : List K) → lg ≡ 0 → k < c → column_value (plain C) lg c p k x ≡ get_or p k C.zero
  row-value lg c k x p none l = ap (λ i. at x (column i c k p)) (ap (λ i. 2 ^ i) none) ∙ one_row c k x p l

  pub row-values : (roots : List K) (lg place c : ℕ) (cells : List K) → lg ≡ 0 → AreValuesBelow (plain C) roots lg place c cells cells
  row-values roots lg place c cells none = grind (arith, row-value)

  -- at one x, as `AreMultiplesBelow` at all
  abbrev pub AreMultiplesAt : K → List K → ℕ → ℕ → ℕ → List K → List K → Type 0
  AreMultiplesAt x inverses lg place c old new =
      (t k : ℕ) → t < 2 ^ lg → k < c → C.product x (class_at (plain C) inverses (2 ^ lg * place + t)) ≡ C.one
      → column_value (plain C) lg c new k x ≡ C.product (entry (plain C) old (t * c + k)) (twos (plain C) lg)

  pub row-multiples : (x : K) (inverses : List K) (lg place c : ℕ) (cells : List K) → lg ≡ 0 → AreMultiplesAt x inverses lg place c cells cells
  row-multiples x inverses lg place c cells none = λ t k b l h.
      let one : 2 ^ lg ≡ 1 = ap (λ i. 2 ^ i) none in
      let here : t * c + k ≡ k = let z : t ≡ 0 = omega (arith, b, one) in ap (λ i. i * c + k) z ∙ omega arith in
      let unit : twos (plain C) lg ≡ C.one = ap (twos (plain C)) none ∙ power-zero C.one C.product (C.sum C.one C.one) in
      row-value lg c k x cells none l ∙ ring C (get_or cells k C.zero ∷ []) v0 (v0 ⊗ 𝟙) refl
      ∙ ap₂ (λ i y. C.product (get_or cells i C.zero) y) (sym here) (sym unit)

  module _ (turn : K) (roots : List K) (tree : IsRootTree (plain C) turn roots)
      (lg place c : ℕ) (square : 1 < lg → C.product turn turn ≡ C.negative C.one) (some : 0 < lg) (one : 1 ≤ place) (within : 2 ^ lg * (place + 1) ≤ 2 * length roots) where
    abbrev n : ℕ
    n = 2 ^ (lg - 1)

    abbrev r : K
    r = entry (plain C) roots place

    abbrev point : ℕ → K
    point t = class_at (plain C) roots (2 ^ lg * place + t)

    h : Below lg place c
    h = below lg place c some

    -- the power of a point of the low half is the entry, and that of one of the high half is minus it
    low-power : (t : ℕ) → t < n → OverRing.power C (point t) n ≡ r
    low-power t b =
        let place_of : 2 * place + 0 ≡ 2 * place = omega arith in
        let inside : n * (2 * place + 1) ≤ 2 * length roots = rw place_of at (child-within lg place 0 (length roots) some (omega arith) within) in
        ap (λ i. OverRing.power C (class_at (plain C) roots i) n) (h.first t)
        ∙ point-power C turn roots tree (lg - 1) t (2 * place) (λ l. square (omega (arith, l))) b (omega (arith, one)) inside
        ∙ class-twice C roots place

    high-power : (t : ℕ) → t < n → OverRing.power C (point (n + t)) n ≡ C.negative r
    high-power t b =
        ap (λ i. OverRing.power C (class_at (plain C) roots i) n) (h.second t)
        ∙ point-power C turn roots tree (lg - 1) t (2 * place + 1) (λ l. square (omega (arith, l))) b (omega (arith, one)) (child-within lg place 1 (length roots) some (omega arith) within)
        ∙ class-twice_more C roots place

    -- the value of a column of two halves
    halves-value : (k : ℕ) (x : K) (p q : List K) → length p ≡ n * c
        → column_value (plain C) lg c (p ++ q) k x ≡ C.sum (at x (column n c k p)) (C.product (OverRing.power C x n) (at x (column n c k q)))
    halves-value k x p q e = ap (λ i. at x (column i c k (p ++ q))) h.rows ∙ column-append n n c k x p q e

    module _ (low high new_low new_high : List K) (low_count : length low ≡ n * c) where
      -- halves that are combined, and then each turned into its values, are the values
      pub values-level : (values_low values_high : List K) → length values_low ≡ n * c
          → ((j : ℕ) → j < n * c → IsCombined (plain C) true r (get_or low j C.zero) (get_or high j C.zero) (get_or new_low j C.zero) (get_or new_high j C.zero))
          → AreValuesBelow (plain C) roots (lg - 1) (2 * place) c new_low values_low → AreValuesBelow (plain C) roots (lg - 1) (2 * place + 1) c new_high values_high
          → AreValuesBelow (plain C) roots lg place c (low ++ high) (values_low ++ values_high)
      values-level values_low values_high count combined first second = λ t k b l.
          each_row (λ t k y. y ≡ column_value (plain C) lg c (low ++ high) k (point t)) n n c values_low values_high count
          (λ s k b l. let x = point s in
          first s k b l ∙ ap (λ i. column_value (plain C) (lg - 1) c new_low k (class_at (plain C) roots i)) (sym (h.first s))
          ∙ columns-summed n c k r C.one x new_low low high l (λ j m. (combined j m).sum ∙ ring C (get_or low j C.zero ∷ get_or high j C.zero ∷ r ∷ []) (v0 ⊕ (v1 ⊗ v2)) ((v0 ⊕ (v1 ⊗ v2)) ⊗ 𝟙) refl)
          ∙ ring C (at x (column n c k low) ∷ at x (column n c k high) ∷ r ∷ []) ((v0 ⊕ (v1 ⊗ v2)) ⊗ 𝟙) (v0 ⊕ (v2 ⊗ v1)) refl
          ∙ ap (λ y. C.sum (at x (column n c k low)) (C.product y (at x (column n c k high)))) (sym (low-power s b))
          ∙ sym (halves-value k x low high low_count))
          (λ s k b l. let x = point (n + s) in
          second s k b l ∙ ap (λ i. column_value (plain C) (lg - 1) c new_high k (class_at (plain C) roots i)) (sym (h.second s))
          ∙ columns-summed n c k (C.negative r) C.one x new_high low high l
          (λ j m. (combined j m).difference ∙ ring C (get_or low j C.zero ∷ get_or high j C.zero ∷ r ∷ []) (v0 ⊕ minus (v1 ⊗ v2)) ((v0 ⊕ (v1 ⊗ minus v2)) ⊗ 𝟙) refl)
          ∙ ring C (at x (column n c k low) ∷ at x (column n c k high) ∷ r ∷ []) ((v0 ⊕ (v1 ⊗ minus v2)) ⊗ 𝟙) (v0 ⊕ (minus v2 ⊗ v1)) refl
          ∙ ap (λ y. C.sum (at x (column n c k low)) (C.product y (at x (column n c k high)))) (sym (high-power s b))
          ∙ sym (halves-value k x low high low_count))
          t k (omega (arith, b, h.rows)) l

    -- one level more
    more-twos : (y : K) → C.product (C.product y (twos (plain C) (lg - 1))) (C.sum C.one C.one) ≡ C.product y (twos (plain C) lg)
    more-twos y =
        let double = C.sum C.one C.one in
        let all : twos (plain C) lg ≡ C.product (twos (plain C) (lg - 1)) double = ap (twos (plain C)) (sym h.up) ∙ power-suc C.one C.product double (lg - 1) in
        C.product_assoc y (twos (plain C) (lg - 1)) double ∙ ap (C.product y) (sym all)

    -- multiples of both halves, combined on the way back, are multiples
    pub multiples-level : (x : K) (low high mid_low mid_high new_low new_high : List K) → length low ≡ n * c → length new_low ≡ n * c
        → ((j : ℕ) → j < n * c → IsCombined (plain C) false r (get_or mid_low j C.zero) (get_or mid_high j C.zero) (get_or new_low j C.zero) (get_or new_high j C.zero))
        → AreMultiplesAt x roots (lg - 1) (2 * place) c low mid_low → AreMultiplesAt x roots (lg - 1) (2 * place + 1) c high mid_high
        → AreMultiplesAt x roots lg place c (low ++ high) (new_low ++ new_high)
    multiples-level x low high mid_low mid_high new_low new_high count new_count combined first second = λ t k b l.
        each_row (λ t k y. C.product x (point t) ≡ C.one → column_value (plain C) lg c (new_low ++ new_high) k x ≡ C.product y (twos (plain C) lg)) n n c low high count
        (λ s k b l there.
        let z = OverRing.power C x n in
        let turned : C.product z r ≡ C.one = power-inverse C x (point s) r n there (low-power s b) in
        whole k l ∙ combine C (value_of mid_low k ∷ value_of mid_high k ∷ z ∷ r ∷ [])
        ((v0 ⊕ v1) ⊕ (v2 ⊗ ((v0 ⊖ v1) ⊗ v3))) (v0 ⊗ (𝟙 ⊕ 𝟙)) (v0 ⊖ v1) (v2 ⊗ v3) 𝟙 turned refl
        ∙ ap (λ y. C.product y (C.sum C.one C.one)) (first s k b l (ap (λ i. C.product x (class_at (plain C) roots i)) (sym (h.first s)) ∙ there))
        ∙ more-twos (get_or low (s * c + k) C.zero))
        (λ s k b l there.
        let z = OverRing.power C x n in
        let turned : C.product z (C.negative r) ≡ C.one = power-inverse C x (point (n + s)) (C.negative r) n there (high-power s b) in
        whole k l ∙ combine C (value_of mid_low k ∷ value_of mid_high k ∷ z ∷ r ∷ [])
        ((v0 ⊕ v1) ⊕ (v2 ⊗ ((v0 ⊖ v1) ⊗ v3))) (v1 ⊗ (𝟙 ⊕ 𝟙)) (minus (v0 ⊖ v1)) (v2 ⊗ minus v3) 𝟙 turned refl
        ∙ ap (λ y. C.product y (C.sum C.one C.one)) (second s k b l (ap (λ i. C.product x (class_at (plain C) roots i)) (sym (h.second s)) ∙ there))
        ∙ more-twos (get_or high (s * c + k) C.zero))
        t k (omega (arith, b, h.rows)) l
      where
        value_of : List K → ℕ → K
        value_of cells k = at x (column n c k cells)

        whole : (k : ℕ) → k < c → column_value (plain C) lg c (new_low ++ new_high) k x
            ≡ C.sum (C.sum (value_of mid_low k) (value_of mid_high k)) (C.product (OverRing.power C x n) (C.product (C.sum (value_of mid_low k) (C.negative (value_of mid_high k))) r))
        whole k l =
            halves-value k x new_low new_high new_count
            ∙ ap₂ (λ y z. C.sum y (C.product (OverRing.power C x n) z))
            (columns-summed n c k C.one C.one x new_low mid_low mid_high l
            (λ j m. (combined j m).sum ∙ ring C (get_or mid_low j C.zero ∷ get_or mid_high j C.zero ∷ []) (v0 ⊕ v1) ((v0 ⊕ (v1 ⊗ 𝟙)) ⊗ 𝟙) refl)
            ∙ ring C (value_of mid_low k ∷ value_of mid_high k ∷ []) ((v0 ⊕ (v1 ⊗ 𝟙)) ⊗ 𝟙) (v0 ⊕ v1) refl)
            (columns-summed n c k (C.negative C.one) r x new_high mid_low mid_high l
            (λ j m. (combined j m).difference ∙ ring C (get_or mid_low j C.zero ∷ get_or mid_high j C.zero ∷ r ∷ []) ((v0 ⊖ v1) ⊗ v2) ((v0 ⊕ (v1 ⊗ minus 𝟙)) ⊗ v2) refl)
            ∙ ring C (value_of mid_low k ∷ value_of mid_high k ∷ r ∷ []) ((v0 ⊕ (v1 ⊗ minus 𝟙)) ⊗ v2) ((v0 ⊖ v1) ⊗ v2) refl)
