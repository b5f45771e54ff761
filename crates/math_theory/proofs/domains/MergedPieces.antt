-- The values of two polynomials, one of them with its roots moved by a root of unity, multiplied: where one or both are one, or X^n - 1.
use Rattle.std.proofs.Common.{ℕ, zero, suc, ◌+◌, ◌<◌, ◌^◌, [], ◌∷◌, refl, sym, ap, ap₂, ◌∙◌, arith}
use Rattle.math_theory.specs.Domains.{HasExactOrder}
use Rattle.math_theory.specs.Laws.{IsEquality, IsGroup, IsProduct, IsRing, IsField}
use Rattle.math_theory.specs.OverRing as OverRing
use Rattle.math_theory.specs.Powers.{power, power-suc}
use Rattle.math_theory.specs.Rings.{CommutativeRing}
use Rattle.math_theory.proofs.domains.CarriedDomains.{IsPrincipalRoot-of_order-same}
use Rattle.math_theory.proofs.classes.Classes.{Class, class, class_same, same_class, ring_of_classes}
use Rattle.math_theory.proofs.classes.ClassesOfLists.{power-class}
use Rattle.math_theory.proofs.rings.Normal.{◌⊕◌, ◌⊗◌, ◌⊖◌, minus, 𝟘, 𝟙, v0, v1, v2, v3}
use Rattle.math_theory.proofs.rings.PowerLaws.{power-add, power-product, power-of_one}
use Rattle.math_theory.proofs.classes.RingUpToSame.{ring_same, combine_same, combine2_same}

module _ {A : Type 0} {same : A → A → Type 0} {zero_of : A} {sum : A → A → A} {negative : A → A} {product : A → A → A} {one : A} {inverse : A → A}
    (E : IsEquality same) (G : IsGroup same zero_of sum negative) (P : IsProduct same product) (R : IsRing same sum product one) (F : IsField same zero_of product one inverse) where
  abbrev pow : A → ℕ → A
  pow r n = power one product r n

  pub minus_one_nonzero : ¬ (same (negative one) zero_of)
  minus_one_nonzero h = F.distinct (combine_same E G P R [] 𝟙 𝟘 (minus 𝟙) (minus 𝟙) 𝟘 h refl)

  -- a value x that is y times 1 + factor t, where factor and y are same as others
  pub with_multiple-same : (x factor sigma t y y' : A) → same x (product (sum one (product factor t)) y) → same factor sigma → same y y' → same x (product (sum one (product sigma t)) y')
  with_multiple-same x factor sigma t y y' hx hf hy = E.transitive _ _ _ hx (P.respects _ _ _ _ (G.respects_sum _ _ _ _ (E.reflexive one) (P.respects _ _ _ _ hf (E.reflexive t))) hy)

  -- y times t + 1, where b is - t
  pub plus_case : (x t b y : A) → same b (negative t) → same x (product (sum one (product one t)) y) → same x (product (negative one) (product y (sum b (negative one))))
  plus_case x t b y hb hx =
      combine2_same E G P R (x ∷ t ∷ b ∷ y ∷ [])
      v0 (minus 𝟙 ⊗ (v3 ⊗ (v2 ⊖ 𝟙))) 𝟙 v0 ((𝟙 ⊕ (𝟙 ⊗ v1)) ⊗ v3) v3 v2 (minus v1) hx hb refl

  -- y times t - 1
  pub minus_case : (x t y : A) → same x (product (sum one (product (negative one) t)) y) → same x (product (negative one) (product (sum t (negative one)) y))
  minus_case x t y hx = E.transitive _ _ _ hx (ring_same E G P R (t ∷ y ∷ []) ((𝟙 ⊕ (minus 𝟙 ⊗ v0)) ⊗ v1) (minus 𝟙 ⊗ ((v0 ⊖ 𝟙) ⊗ v1)) refl)

  -- t² - 1
  pub all_case : (p t b : A) → same b (negative t) → same p (product t t) → same (sum p (negative one)) (product (negative one) (product (sum t (negative one)) (sum b (negative one))))
  all_case p t b hb hp =
      combine2_same E G P R (p ∷ t ∷ b ∷ [])
      (v0 ⊖ 𝟙) (minus 𝟙 ⊗ ((v1 ⊖ 𝟙) ⊗ (v2 ⊖ 𝟙))) 𝟙 v0 (v1 ⊗ v1) (v1 ⊖ 𝟙) v2 (minus v1) hp hb refl

  pub times_one-right : (x y : A) → same x y → same x (product one (product y one))
  times_one-right x y h = E.transitive _ _ _ h (ring_same E G P R (y ∷ []) v0 (𝟙 ⊗ (v0 ⊗ 𝟙)) refl)

  pub times_one-left : (x y : A) → same x y → same x (product one (product one y))
  times_one-left x y h = E.transitive _ _ _ h (ring_same E G P R (y ∷ []) v0 (𝟙 ⊗ (𝟙 ⊗ v0)) refl)

  pub times_one-both : (x y z : A) → same x (product y z) → same x (product one (product y z))
  times_one-both x y z h = E.transitive _ _ _ h (ring_same E G P R (y ∷ z ∷ []) (v0 ⊗ v1) (𝟙 ⊗ (v0 ⊗ v1)) refl)

  pub power-double-same : (r : A) (n : ℕ) → same (pow r (n + n)) (product (pow r n) (pow r n))
  power-double-same r n =
      same_class E _ _ (sym (power-class E G P R r (n + n)) ∙ power-add (ring_of_classes E G P R) (class E r) n n ∙ ap (λ x. (ring_of_classes E G P R).product x x) (power-class E G P R r n))

  -- a root of unity is not zero, and has an inverse
  pub root-nonzero : (w : A) (n : ℕ) → HasExactOrder same one product w n → ¬ (same w zero_of)
  root-nonzero w n order h = F.distinct (E.transitive _ _ _ (E.symmetric _ _ order.power_is_one) (zero_power n order.positive))
    where
      zero_power : (m : ℕ) → 0 < m → same (pow w m) zero_of
      zero_power zero l = absurd (omega arith)
      zero_power (suc m) l = rw (power-suc one product w m) (combine_same E G P R (pow w m ∷ w ∷ []) (v0 ⊗ v1) 𝟘 v0 v1 𝟘 h refl)

  pub root-inverse : (w : A) (n : ℕ) → HasExactOrder same one product w n → same (product w (inverse w)) one
  root-inverse w n order = F.inverts w (root-nonzero w n order)

  -- w is a root of order 2^(lg + 1)
  module _ (w : A) (lg : ℕ) (order : HasExactOrder same one product w (2 ^ suc lg)) where
    abbrev n : ℕ
    n = 2 ^ lg

    half_turn : same (pow w n) (negative one)
    half_turn = IsPrincipalRoot-of_order-same E G P R F (suc lg) w order

    -- the power n at the inverse root times r
    pub moved-power : (r : A) → same (pow (product (inverse w) r) n) (negative (pow r n))
    moved-power r =
        let C : CommutativeRing (Class E) = ring_of_classes E G P R in
        let back : same (product (pow w n) (pow (inverse w) n)) one =
        same_class E _ _ (ap₂ C.product (sym (power-class E G P R w n)) (sym (power-class E G P R (inverse w) n))
        ∙ sym (power-product C (class E w) (class E (inverse w)) n) ∙ ap (λ x. OverRing.power C x n) (class_same E _ _ (root-inverse w (2 ^ suc lg) order)) ∙ power-of_one C n) in
        E.transitive _ _ _
        (same_class E _ _ (sym (power-class E G P R (product (inverse w) r) n) ∙ power-product C (class E (inverse w)) (class E r) n
        ∙ ap₂ C.product (power-class E G P R (inverse w) n) (power-class E G P R r n)))
        (combine2_same E G P R (pow w n ∷ pow (inverse w) n ∷ pow r n ∷ []) (v1 ⊗ v2) (minus v2) (minus v2) (v0 ⊗ v1) 𝟙 (v1 ⊗ v2) v0 (minus 𝟙) back half_turn refl)
