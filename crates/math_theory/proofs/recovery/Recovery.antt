-- Recovery: on the domain of the powers of w, the cells times the values of a polynomial that vanishes at the missing points give the polynomial that
-- agrees with the filled cells.
use Rattle.std.proofs.Common.{◌≡◌, ◌≢◌, ℕ, suc, ◌+◌, ◌-◌, ◌*◌, ◌<◌, ◌≤◌, List, ◌++◌, replicate, Bool, false, length, get_or, map, inl, inr, sym, ◌∙◌, ap, subst, arith}
use Rattle.std.proofs.lemmas.Bool.{cases_Bool}
use Rattle.std.proofs.lemmas.List.{length-append, length-map, length-replicate, get_or_past}
use Rattle.std.proofs.lemmas.List.FromFn.{length-map-range_with_len, get_or-map-range_with_len}
use Rattle.std.proofs.lemmas.List.Sums.{count_by-le-length}
use Rattle.std.proofs.Math.Nat.{mul-lt-mul_of_pos_left}
use Rattle.std.specs.List.{All, range_with_len}
use Rattle.math_theory.specs.OverRing.{AreDistinct, power, powers, value, coefficient, HaveSameCoefficients, polynomial_multiple, polynomial_product, root_product, Fits, HasCoset, VanishesAtMissing, HasProductValues, DividesOnCoset}
use Rattle.math_theory.specs.Recovery.{count_true, missing_items}
use Rattle.math_theory.specs.Rings.{Field}
use Rattle.math_theory.proofs.polynomials.Coefficients.{length-product-le, coefficient-padded, value-HaveSameCoefficients}
use Rattle.math_theory.proofs.domains.DomainPoints.{length-powers, get_or-powers, All-powers}
use Rattle.math_theory.proofs.recovery.FilledItems.{length-missing_items, All-missing_items, missing_item-at}
use Rattle.math_theory.proofs.recovery.Fitting.{AgreesAtFilled, fitting, length-fitting, fitting-AgreesAtFilled, fitting-unique}
use Rattle.math_theory.proofs.rings.RingLaws.{product-zero}
use Rattle.math_theory.proofs.polynomials.RootProducts.{vanishing_polynomial, length-vanishing_polynomial, value-vanishing_polynomial, root_product-at_root, root_product-nonzero}
use Rattle.math_theory.proofs.polynomials.Roots.{product-cancel_right, product-nonzero, agreement, value-agreement}
use Rattle.math_theory.proofs.polynomials.Values.{value-multiple, value-product}

module _ {A : Type 0} (F : Field A) (w : A) (n : ℕ) (cells : List A) (filled : List Bool) (cells_long : length cells ≡ n) (filled_long : length filled ≡ n) where
  open F use {sum, negative, product, ring as R}

  domain_long : length (powers R w n) ≡ length cells
  domain_long = length-powers R w n ∙ sym cells_long

  pub AgreesAtFilled-from_Fits : (q : List A) → Fits R w cells filled q → AgreesAtFilled R (powers R w n) cells filled q
  AgreesAtFilled-from_Fits q h j l t = ap (λ x. value R x q) (get_or-powers R w n j F.zero (omega (arith, l, cells_long))) ∙ h.agrees j l t

  Fits-from_AgreesAtFilled : (q : List A) → AgreesAtFilled R (powers R w n) cells filled q → ((i : ℕ) → count_true filled ≤ i → coefficient R q i ≡ F.zero) → Fits R w cells filled q
  Fits-from_AgreesAtFilled q h z = record {
    agrees = λ j l t. sym (ap (λ x. value R x q) (get_or-powers R w n j F.zero (omega (arith, l, cells_long)))) ∙ h j l t;
    zero_from = z;
  }

  module _ (distinct : AreDistinct (powers R w n)) where
    -- the polynomial through the filled cells
    abbrev through : List A
    through = fitting F (powers R w n) cells filled distinct domain_long (filled_long ∙ sym cells_long)

    length-through : length through ≡ count_true filled
    length-through = length-fitting F (powers R w n) cells filled distinct domain_long (filled_long ∙ sym cells_long)

    -- and zeros up to n coefficients
    pub padded_fitting : List A
    padded_fitting = through ++ replicate (n - count_true filled) F.zero

    pub length-padded_fitting : length padded_fitting ≡ n
    unfolding padded_fitting
    length-padded_fitting =
        omega (
          arith,
          length-append through (replicate (n - count_true filled) F.zero),
          length-replicate (n - count_true filled) F.zero,
          length-through,
          count_by-le-length (λ b. b) filled,
          filled_long,
        )

    pub Fits-padded_fitting : Fits R w cells filled padded_fitting
    unfolding padded_fitting
    Fits-padded_fitting =
        let same : HaveSameCoefficients R padded_fitting through = coefficient-padded R through (n - count_true filled) in
        Fits-from_AgreesAtFilled padded_fitting
        (λ j l t.
        value-HaveSameCoefficients R (get_or (powers R w n) j F.zero) padded_fitting through same
        ∙ fitting-AgreesAtFilled F (powers R w n) cells filled distinct domain_long (filled_long ∙ sym cells_long) j l t)
        (λ i l. same i ∙ get_or_past through i F.zero (omega (arith, l, length-through)))

  -- any two polynomials that fit have the same coefficients
  pub Fits-unique : AreDistinct (powers R w n) → (p q : List A) → Fits R w cells filled p → Fits R w cells filled q → HaveSameCoefficients R p q
  Fits-unique d p q h k =
      fitting-unique F (powers R w n) cells filled d domain_long (filled_long ∙ sym cells_long) p q (AgreesAtFilled-from_Fits p h) h.zero_from (AgreesAtFilled-from_Fits q k) k.zero_from

  -- where f agrees with the filled cells and v vanishes at the missing points, the values of f v are the cells times those of v
  pub product-values : (f v : List A) → AgreesAtFilled R (powers R w n) cells filled f → ((j : ℕ) → j < n → get_or filled j false ≡ false → value R (power R w j) v ≡ F.zero)
      → (j : ℕ) → j < n → value R (power R w j) (polynomial_product R f v) ≡ product (get_or cells j F.zero) (value R (power R w j) v)
  product-values f v h k j l =
      value-product R (power R w j) f v
      ∙ elim (cases_Bool (get_or filled j false)) [
        | inl t ↦ ap (λ y. product y (value R (power R w j) v)) (sym (ap (λ x. value R x f) (get_or-powers R w n j F.zero l)) ∙ h j (omega (arith, l, cells_long)) t)
        | inr t ↦ ap (product (value R (power R w j) f)) (k j l t) ∙ product-zero R (value R (power R w j) f)
            ∙ sym (ap (product (get_or cells j F.zero)) (k j l t) ∙ product-zero R (get_or cells j F.zero))
      ]

-- where v is zero at none of some distinct points, a polynomial is determined by the products of its values there with those of v
pub division : {A : Type 0} (F : Field A) (points p q v : List A) → AreDistinct points → length p ≤ length points → length q ≤ length points → All (λ x. value F.ring x v ≢ F.zero) points
    → All (λ x. F.product (value F.ring x p) (value F.ring x v) ≡ F.product (value F.ring x q) (value F.ring x v)) points → HaveSameCoefficients F.ring p q
division F points p q v d l m n h =
    agreement F points p q l m d (λ k e i. product-cancel_right F (value F.ring (get_or points k e) p) (value F.ring (get_or points k e) q) (value F.ring (get_or points k e) v) (n k e i) (h k e i))

module _ {A : Type 0} (F : Field A) (w s : A) (n d m : ℕ) (coset : HasCoset F.ring w s n) (step : 0 < d) (within : d * m ≤ n) where
  open F use {product, ring as R}

  -- s times every d-th power of w, m of them
  abbrev coset_points : List A
  coset_points = map (λ i. product s (power R w (d * i))) (range_with_len 0 m)

  length-coset_points : length coset_points ≡ m
  length-coset_points = length-map-range_with_len (λ i. product s (power R w (d * i))) 0 m

  get_or-coset_points : (i : ℕ) (e : A) → i < m → get_or coset_points i e ≡ product s (power R w (d * i))
  get_or-coset_points i e l = get_or-map-range_with_len (λ i. product s (power R w (d * i))) 0 m i i e l (omega arith)

  exponent-below : (i : ℕ) → i < m → d * i < n
  exponent-below i l = let b : d * i < d * m = mul-lt-mul_of_pos_left l step in omega (arith, b, within)

  All-coset_points : (P : A → Type 0) → ((i : ℕ) → i < m → P (product s (power R w (d * i)))) → All P coset_points
  All-coset_points P h k e l = let b : k < m = omega (arith, l, length-coset_points) in subst P (sym (get_or-coset_points k e b)) (h k b)

  coset_points-distinct : AreDistinct coset_points
  coset_points-distinct i j e l b q =
      let below : j < m = omega (arith, b, length-coset_points) in
      let rises : d * i < d * j = mul-lt-mul_of_pos_left l step in
      let inside : d * j < n = exponent-below j below in
      coset.distinct (d * i) (d * j) F.zero rises (omega (arith, inside, length-powers R w n))
      (get_or-powers R w n (d * i) F.zero (omega (arith, rises, inside))
      ∙ product-cancel_right F (power R w (d * i)) (power R w (d * j)) s coset.shift_nonzero
      (F.product_comm (power R w (d * i)) s ∙ sym (get_or-coset_points i e (omega (arith, l, below))) ∙ q ∙ get_or-coset_points j e below ∙ F.product_comm s (power R w (d * j)))
      ∙ sym (get_or-powers R w n (d * j) F.zero inside))

module _ {A : Type 0} (F : Field A) (w s u : A) (n d m : ℕ) (cells : List A) (filled : List Bool) (v g q : List A) (cells_long : length cells ≡ n) (filled_long : length filled ≡ n)
    (some_filled : 1 ≤ count_true filled) (few_filled : count_true filled ≤ m) (step : 0 < d) (within : d * m ≤ n) (coset : HasCoset F.ring w s n) (V : VanishesAtMissing F.ring w n filled u v)
    (G : HasProductValues F.ring w n cells v g) (Q : DividesOnCoset F.ring w s d m v g q) where
  open F use {sum, negative, product, ring as R}

  abbrev missing : List A
  missing = missing_items (powers R w n) filled

  count_missing : count_true filled + length missing ≡ n
  count_missing = length-missing_items (powers R w n) filled (filled_long ∙ sym (length-powers R w n)) ∙ length-powers R w n

  -- u times the product of X - x over the missing points x
  abbrev vanishing : List A
  vanishing = polynomial_multiple R (vanishing_polynomial R missing) u

  length-vanishing : length vanishing ≡ suc (length missing)
  length-vanishing = length-map (vanishing_polynomial R missing) (λ c. product c u) ∙ length-vanishing_polynomial R missing

  value-vanishing : (r : A) → value R r vanishing ≡ product u (root_product R r missing)
  value-vanishing r = value-multiple R r (vanishing_polynomial R missing) u ∙ ap (λ y. product y u) (value-vanishing_polynomial R r missing) ∙ F.product_comm (root_product R r missing) u

  -- it has the values of v everywhere
  vanishing-v : (r : A) → value R r vanishing ≡ value R r v
  vanishing-v =
      value-agreement F (powers R w n) vanishing v (omega (arith, length-vanishing, count_missing, some_filled, length-powers R w n)) (omega (arith, V.short, length-powers R w n)) coset.distinct
      (All-powers R w n (λ x. value R x vanishing ≡ value R x v) (λ i l. value-vanishing (power R w i) ∙ sym (V.values i l)))

  vanishing-at_missing : (j : ℕ) → j < n → get_or filled j false ≡ false → value R (power R w j) vanishing ≡ F.zero
  vanishing-at_missing j l t =
      value-vanishing (power R w j)
      ∙ ap (product u) (subst (λ x. root_product R x missing ≡ F.zero) (get_or-powers R w n j F.zero l)
      (missing_item-at (λ x. root_product R x missing ≡ F.zero) F.zero (powers R w n) filled (λ k d m. root_product-at_root R missing k d m) j
      (omega (arith, l, length-powers R w n)) (omega (arith, l, filled_long)) t))
      ∙ product-zero R u

  v-on_coset : (i : ℕ) → i < n → value R (product s (power R w i)) v ≢ F.zero
  v-on_coset i l e =
      product-nonzero F u (root_product R (product s (power R w i)) missing) V.factor_nonzero
      (root_product-nonzero F (product s (power R w i)) missing
      (All-missing_items (λ x. product s (power R w i) ≢ x) (powers R w n) filled (All-powers R w n (λ x. product s (power R w i) ≢ x) (λ j m. coset.apart i j l m))))
      (sym (value-vanishing (product s (power R w i))) ∙ vanishing-v (product s (power R w i)) ∙ e)

  -- the polynomial through the filled cells
  abbrev f : List A
  f = fitting F (powers R w n) cells filled coset.distinct (length-powers R w n ∙ sym cells_long) (filled_long ∙ sym cells_long)

  length-f : length f ≡ count_true filled
  length-f = length-fitting F (powers R w n) cells filled coset.distinct (length-powers R w n ∙ sym cells_long) (filled_long ∙ sym cells_long)

  f-agrees : AgreesAtFilled R (powers R w n) cells filled f
  f-agrees = fitting-AgreesAtFilled F (powers R w n) cells filled coset.distinct (length-powers R w n ∙ sym cells_long) (filled_long ∙ sym cells_long)

  -- g is f times that polynomial
  product-g : (r : A) → value R r (polynomial_product R f vanishing) ≡ value R r g
  product-g =
      value-agreement F (powers R w n) (polynomial_product R f vanishing) g
      (omega (arith, length-powers R w n, length-product-le sum F.zero product f vanishing n (omega (arith, length-f, count_missing)) (omega (arith, length-f, length-vanishing, count_missing))))
      (omega (arith, G.short, length-powers R w n)) coset.distinct
      (All-powers R w n (λ x. value R x (polynomial_product R f vanishing) ≡ value R x g)
      (λ i l. product-values F w n cells filled cells_long filled_long f vanishing f-agrees vanishing-at_missing i l
      ∙ ap (product (get_or cells i F.zero)) (vanishing-v (power R w i)) ∙ sym (G.values i l)))

  abbrev on_coset : ℕ → A
  on_coset i = product s (power R w (d * i))

  q-f : HaveSameCoefficients R q f
  q-f =
      division F (coset_points F w s n d m coset step within) q f v (coset_points-distinct F w s n d m coset step within)
      (omega (arith, Q.short, length-coset_points F w s n d m coset step within)) (omega (arith, length-f, few_filled, length-coset_points F w s n d m coset step within))
      (All-coset_points F w s n d m coset step within (λ x. value R x v ≢ F.zero) (λ i l. v-on_coset (d * i) (exponent-below F w s n d m coset step within i l)))
      (All-coset_points F w s n d m coset step within (λ x. product (value R x q) (value R x v) ≡ product (value R x f) (value R x v))
      (λ i l. Q.values i l ∙ sym (product-g (on_coset i)) ∙ value-product R (on_coset i) f vanishing
      ∙ ap (product (value R (on_coset i) f)) (vanishing-v (on_coset i))))

  -- what division on the coset gives fits
  pub Fits-from_division : Fits R w cells filled q
  Fits-from_division =
      Fits-from_AgreesAtFilled F w n cells filled cells_long filled_long q
      (λ j l t. value-HaveSameCoefficients R (get_or (powers R w n) j F.zero) q f q-f ∙ f-agrees j l t)
      (λ i l. q-f i ∙ get_or_past f i F.zero (omega (arith, l, length-f)))
