-- Four cells that are turned by two levels at once: in a commutative ring, and up to a type's own equality.
use Rattle.std.proofs.Common.{arith, ◌≡◌, ◌≢◌, ℕ, Bool, true, false, eqb, not, List, [], ◌∷◌, refl}
use Rattle.std.proofs.lemmas.Bool.{eq-eqb, ne_eqb}
use Rattle.math_theory.specs.Laws.{IsEquality, IsGroup, IsProduct, IsRing}
use Rattle.math_theory.specs.Rings.{CommutativeRing}
use Rattle.math_theory.proofs.classes.Classes.{Class, class, class_same, same_class, ring_of_classes}
use Rattle.math_theory.proofs.rings.Normal.{ring, ◌⊕◌, ◌⊗◌, minus, v0, v1, v2, v3, v4, v5, v6}
use Rattle.math_base.specs.Members.{RingOf}
use Rattle.math_base.specs.Columns.{IsCombined}
use Rattle.math_base.specs.Columns.{IsTurned}
use Rattle.math_transforms.proofs.PointsBelow.{plain}

-- s and d are the sum and the difference of a and b
pub record AreSumAndDifference {A : Type 0} (R : RingOf A) (a b s d : A) : Type 0 where
  pub sum : R.same s (R.sum a b)
  pub difference : R.same d (R.sum a (R.negative b))

module _ {K : Type 0} (C : CommutativeRing K) (e f g a b c d : K) where
  module _ (eg minus_fg a1 b1 c1 d1 new_a new_b new_c new_d : K) (product_is : eg ≡ C.product e g) (negative_is : minus_fg ≡ C.negative (C.product f g)) where
    abbrev xs : List K
    xs = a ∷ b ∷ c ∷ d ∷ e ∷ f ∷ g ∷ []

    -- forward, by one product and two sums of two products
    products-forward-plain : IsCombined (plain C) true g a c a1 c1 → b1 ≡ C.sum (C.product e b) (C.product eg d) → d1 ≡ C.sum (C.product f b) (C.product minus_fg d)
        → AreSumAndDifference (plain C) a1 b1 new_a new_b → AreSumAndDifference (plain C) c1 d1 new_c new_d → IsTurned (plain C) true e f g a b c d new_a new_b new_c new_d
    products-forward-plain h hb hd l m = record {
      first = rw (l.sum, h.sum, hb, product_is) (ring C xs ((v0 ⊕ (v2 ⊗ v6)) ⊕ ((v4 ⊗ v1) ⊕ ((v4 ⊗ v6) ⊗ v3))) ((v0 ⊕ (v2 ⊗ v6)) ⊕ ((v1 ⊕ (v3 ⊗ v6)) ⊗ v4)) refl);
      second = rw (l.difference, h.sum, hb, product_is)
          (ring C xs ((v0 ⊕ (v2 ⊗ v6)) ⊕ minus ((v4 ⊗ v1) ⊕ ((v4 ⊗ v6) ⊗ v3))) ((v0 ⊕ (v2 ⊗ v6)) ⊕ minus ((v1 ⊕ (v3 ⊗ v6)) ⊗ v4)) refl);
      third = rw (m.sum, h.difference, hd, negative_is)
          (ring C xs ((v0 ⊕ minus (v2 ⊗ v6)) ⊕ ((v5 ⊗ v1) ⊕ (minus (v5 ⊗ v6) ⊗ v3))) ((v0 ⊕ minus (v2 ⊗ v6)) ⊕ ((v1 ⊕ minus (v3 ⊗ v6)) ⊗ v5)) refl);
      fourth = rw (m.difference, h.difference, hd, negative_is)
          (ring C xs ((v0 ⊕ minus (v2 ⊗ v6)) ⊕ minus ((v5 ⊗ v1) ⊕ (minus (v5 ⊗ v6) ⊗ v3))) ((v0 ⊕ minus (v2 ⊗ v6)) ⊕ minus ((v1 ⊕ minus (v3 ⊗ v6)) ⊗ v5)) refl);
    }

    -- and on the way back
    products-back-plain : AreSumAndDifference (plain C) a b a1 b1 → AreSumAndDifference (plain C) c d c1 d1 → IsCombined (plain C) false g a1 c1 new_a new_c
        → new_b ≡ C.sum (C.product e b1) (C.product f d1) → new_d ≡ C.sum (C.product eg b1) (C.product minus_fg d1) → IsTurned (plain C) false e f g a b c d new_a new_b new_c new_d
    products-back-plain h k l hb hd = record {
      first = rw (l.sum, h.sum, k.sum) refl;
      second = rw (hb, h.difference, k.difference)
          (ring C xs ((v4 ⊗ (v0 ⊕ minus v1)) ⊕ (v5 ⊗ (v2 ⊕ minus v3))) (((v0 ⊕ minus v1) ⊗ v4) ⊕ ((v2 ⊕ minus v3) ⊗ v5)) refl);
      third = rw (l.difference, h.sum, k.sum) refl;
      fourth = rw (hd, h.difference, k.difference, product_is, negative_is)
          (ring C xs (((v4 ⊗ v6) ⊗ (v0 ⊕ minus v1)) ⊕ (minus (v5 ⊗ v6) ⊗ (v2 ⊕ minus v3))) ((((v0 ⊕ minus v1) ⊗ v4) ⊕ minus ((v2 ⊕ minus v3) ⊗ v5)) ⊗ v6) refl);
    }

  -- by four weights
  weights-forward-plain : (a1 b1 c1 d1 new_a new_b new_c new_d : K) → IsCombined (plain C) true g a c a1 c1 → IsCombined (plain C) true g b d b1 d1
      → IsCombined (plain C) true e a1 b1 new_a new_b → IsCombined (plain C) true f c1 d1 new_c new_d → IsTurned (plain C) true e f g a b c d new_a new_b new_c new_d
  weights-forward-plain a1 b1 c1 d1 new_a new_b new_c new_d h k l m = grind arith

  weights-back-plain : (a1 b1 c1 d1 new_a new_b new_c new_d : K) → IsCombined (plain C) false e a b a1 b1 → IsCombined (plain C) false f c d c1 d1
      → IsCombined (plain C) false g a1 c1 new_a new_c → IsCombined (plain C) false g b1 d1 new_b new_d → IsTurned (plain C) false e f g a b c d new_a new_b new_c new_d
  weights-back-plain a1 b1 c1 d1 new_a new_b new_c new_d h k l m = grind arith

  -- where e and g are one
  module _ (turn a1 b1 c1 d1 d2 new_a new_b new_c new_d : K) where
    abbrev ys : List K
    ys = a ∷ b ∷ c ∷ d ∷ turn ∷ []

    one-forward-plain : AreSumAndDifference (plain C) a c a1 c1 → AreSumAndDifference (plain C) b d b1 d1 → d2 ≡ C.product d1 turn
        → AreSumAndDifference (plain C) a1 b1 new_a new_b → AreSumAndDifference (plain C) c1 d2 new_c new_d
        → IsTurned (plain C) true C.one turn C.one a b c d new_a new_b new_c new_d
    one-forward-plain h k hd l m = grind arith

    one-back-plain : AreSumAndDifference (plain C) a b a1 b1 → AreSumAndDifference (plain C) c d c1 d1 → d2 ≡ C.product d1 turn
        → AreSumAndDifference (plain C) a1 c1 new_a new_c → AreSumAndDifference (plain C) b1 d2 new_b new_d
        → IsTurned (plain C) false C.one turn C.one a b c d new_a new_b new_c new_d
    one-back-plain h k hd l m = grind arith

module _ {A : Type 0} (R : RingOf A) (E : IsEquality R.same) (G : IsGroup R.same R.zero R.sum R.negative) (P : IsProduct R.same R.product) (L : IsRing R.same R.sum R.product R.one) where
  abbrev C : CommutativeRing (Class E)
  C = ring_of_classes E G P L

  -- to the classes, and back
  pub combined-class : (forward : Bool) (w a b low high : A) → IsCombined R forward w a b low high → IsCombined (plain C) forward (class E w) (class E a) (class E b) (class E low) (class E high)
  combined-class true w a b low high h = record { sum = class_same E _ _ h.sum; difference = class_same E _ _ h.difference }
  combined-class false w a b low high h = record { sum = class_same E _ _ h.sum; difference = class_same E _ _ h.difference }

  combined-same : (forward : Bool) (w a b low high : A) → IsCombined (plain C) forward (class E w) (class E a) (class E b) (class E low) (class E high) → IsCombined R forward w a b low high
  combined-same true w a b low high h = record { sum = same_class E _ _ h.sum; difference = same_class E _ _ h.difference }
  combined-same false w a b low high h = record { sum = same_class E _ _ h.sum; difference = same_class E _ _ h.difference }

  -- a pair of the same cells
  pub combined-of : (forward : Bool) (w a a' b b' low high : A) → R.same a a' → R.same b b' → IsCombined R forward w a b low high → IsCombined R forward w a' b' low high
  combined-of forward w a a' b b' low high ha hb h =
      combined-same forward w a' b' low high (rw (class_same E a a' ha, class_same E b b' hb) at (combined-class forward w a b low high h))

  sums-class : (a b s d : A) → AreSumAndDifference R a b s d → AreSumAndDifference (plain C) (class E a) (class E b) (class E s) (class E d)
  sums-class a b s d h = record { sum = class_same E _ _ h.sum; difference = class_same E _ _ h.difference }

  pub turned-class : (forward : Bool) (e f g a b c d new_a new_b new_c new_d : A) → IsTurned R forward e f g a b c d new_a new_b new_c new_d
      → IsTurned (plain C) forward (class E e) (class E f) (class E g) (class E a) (class E b) (class E c) (class E d) (class E new_a) (class E new_b) (class E new_c) (class E new_d)
  turned-class true e f g a b c d new_a new_b new_c new_d h = record { first = class_same E _ _ h.first; second = class_same E _ _ h.second; third = class_same E _ _ h.third; fourth = class_same E _ _ h.fourth }
  turned-class false e f g a b c d new_a new_b new_c new_d h = record { first = class_same E _ _ h.first; second = class_same E _ _ h.second; third = class_same E _ _ h.third; fourth = class_same E _ _ h.fourth }

  turned-same : (forward : Bool) (e f g a b c d new_a new_b new_c new_d : A)
      → IsTurned (plain C) forward (class E e) (class E f) (class E g) (class E a) (class E b) (class E c) (class E d) (class E new_a) (class E new_b) (class E new_c) (class E new_d)
      → IsTurned R forward e f g a b c d new_a new_b new_c new_d
  turned-same true e f g a b c d new_a new_b new_c new_d h = record { first = same_class E _ _ h.first; second = same_class E _ _ h.second; third = same_class E _ _ h.third; fourth = same_class E _ _ h.fourth }
  turned-same false e f g a b c d new_a new_b new_c new_d h = record { first = same_class E _ _ h.first; second = same_class E _ _ h.second; third = same_class E _ _ h.third; fourth = same_class E _ _ h.fourth }

  -- by the same weights
  pub turned-by : (forward : Bool) (e e' f f' g g' a b c d new_a new_b new_c new_d : A) → R.same e e' → R.same f f' → R.same g g'
      → IsTurned R forward e f g a b c d new_a new_b new_c new_d → IsTurned R forward e' f' g' a b c d new_a new_b new_c new_d
  turned-by forward e e' f f' g g' a b c d new_a new_b new_c new_d he hf hg h =
      turned-same forward e' f' g' a b c d new_a new_b new_c new_d
      (rw (class_same E e e' he, class_same E f f' hf, class_same E g g' hg) at (turned-class forward e f g a b c d new_a new_b new_c new_d h))

  -- of the same cells
  pub turned-of : (forward : Bool) (e f g a a' b b' c c' d d' new_a new_b new_c new_d : A) → R.same a a' → R.same b b' → R.same c c' → R.same d d'
      → IsTurned R forward e f g a b c d new_a new_b new_c new_d → IsTurned R forward e f g a' b' c' d' new_a new_b new_c new_d
  turned-of forward e f g a a' b b' c c' d d' new_a new_b new_c new_d ha hb hc hd h =
      turned-same forward e f g a' b' c' d' new_a new_b new_c new_d
      (rw (class_same E a a' ha, class_same E b b' hb, class_same E c c' hc, class_same E d d' hd) at (turned-class forward e f g a b c d new_a new_b new_c new_d h))

  module _ (n : ℕ) (e f g a b c d : A) where
    -- where the number that stands for forward is not zero
    at-forward : n ≢ 0 → (e f g new_a new_b new_c new_d : A) → IsTurned R true e f g a b c d new_a new_b new_c new_d → IsTurned R (not (eqb n 0)) e f g a b c d new_a new_b new_c new_d
    at-forward s e f g new_a new_b new_c new_d h = rw (ne_eqb n 0 s) h

    at-back : n ≡ 0 → (e f g new_a new_b new_c new_d : A) → IsTurned R false e f g a b c d new_a new_b new_c new_d → IsTurned R (not (eqb n 0)) e f g a b c d new_a new_b new_c new_d
    at-back s e f g new_a new_b new_c new_d h = rw (eq-eqb n 0 s) h

    pub weights-forward : n ≢ 0 → (a1 b1 c1 d1 new_a new_b new_c new_d : A) → IsCombined R true g a c a1 c1 → IsCombined R true g b d b1 d1
        → IsCombined R true e a1 b1 new_a new_b → IsCombined R true f c1 d1 new_c new_d → IsTurned R (not (eqb n 0)) e f g a b c d new_a new_b new_c new_d
    weights-forward s a1 b1 c1 d1 new_a new_b new_c new_d h k l m =
        at-forward s e f g new_a new_b new_c new_d
        (turned-same true e f g a b c d new_a new_b new_c new_d
        (weights-forward-plain C (class E e) (class E f) (class E g) (class E a) (class E b) (class E c) (class E d) (class E a1) (class E b1) (class E c1) (class E d1) (class E new_a) (class E new_b) (class E new_c) (class E new_d)
        (combined-class true _ _ _ _ _ h) (combined-class true _ _ _ _ _ k) (combined-class true _ _ _ _ _ l) (combined-class true _ _ _ _ _ m)))

    pub weights-back : n ≡ 0 → (a1 b1 c1 d1 new_a new_b new_c new_d : A) → IsCombined R false e a b a1 b1 → IsCombined R false f c d c1 d1
        → IsCombined R false g a1 c1 new_a new_c → IsCombined R false g b1 d1 new_b new_d → IsTurned R (not (eqb n 0)) e f g a b c d new_a new_b new_c new_d
    weights-back s a1 b1 c1 d1 new_a new_b new_c new_d h k l m =
        at-back s e f g new_a new_b new_c new_d
        (turned-same false e f g a b c d new_a new_b new_c new_d
        (weights-back-plain C (class E e) (class E f) (class E g) (class E a) (class E b) (class E c) (class E d) (class E a1) (class E b1) (class E c1) (class E d1) (class E new_a) (class E new_b) (class E new_c) (class E new_d)
        (combined-class false _ _ _ _ _ h) (combined-class false _ _ _ _ _ k) (combined-class false _ _ _ _ _ l) (combined-class false _ _ _ _ _ m)))

    pub products-forward : n ≢ 0 → (eg minus_fg a1 b1 c1 d1 new_a new_b new_c new_d : A) → R.same eg (R.product e g) → R.same minus_fg (R.negative (R.product f g))
        → IsCombined R true g a c a1 c1 → R.same b1 (R.sum (R.product e b) (R.product eg d)) → R.same d1 (R.sum (R.product f b) (R.product minus_fg d))
        → AreSumAndDifference R a1 b1 new_a new_b → AreSumAndDifference R c1 d1 new_c new_d → IsTurned R (not (eqb n 0)) e f g a b c d new_a new_b new_c new_d
    products-forward s eg minus_fg a1 b1 c1 d1 new_a new_b new_c new_d product_is negative_is h hb hd l m =
        at-forward s e f g new_a new_b new_c new_d
        (turned-same true e f g a b c d new_a new_b new_c new_d
        (products-forward-plain C (class E e) (class E f) (class E g) (class E a) (class E b) (class E c) (class E d) (class E eg) (class E minus_fg)
        (class E a1) (class E b1) (class E c1) (class E d1) (class E new_a) (class E new_b) (class E new_c) (class E new_d)
        (class_same E _ _ product_is) (class_same E _ _ negative_is) (combined-class true _ _ _ _ _ h) (class_same E _ _ hb) (class_same E _ _ hd)
        (sums-class _ _ _ _ l) (sums-class _ _ _ _ m)))

    pub products-back : n ≡ 0 → (eg minus_fg a1 b1 c1 d1 new_a new_b new_c new_d : A) → R.same eg (R.product e g) → R.same minus_fg (R.negative (R.product f g))
        → AreSumAndDifference R a b a1 b1 → AreSumAndDifference R c d c1 d1 → IsCombined R false g a1 c1 new_a new_c
        → R.same new_b (R.sum (R.product e b1) (R.product f d1)) → R.same new_d (R.sum (R.product eg b1) (R.product minus_fg d1)) → IsTurned R (not (eqb n 0)) e f g a b c d new_a new_b new_c new_d
    products-back s eg minus_fg a1 b1 c1 d1 new_a new_b new_c new_d product_is negative_is h k l hb hd =
        at-back s e f g new_a new_b new_c new_d
        (turned-same false e f g a b c d new_a new_b new_c new_d
        (products-back-plain C (class E e) (class E f) (class E g) (class E a) (class E b) (class E c) (class E d) (class E eg) (class E minus_fg)
        (class E a1) (class E b1) (class E c1) (class E d1) (class E new_a) (class E new_b) (class E new_c) (class E new_d)
        (class_same E _ _ product_is) (class_same E _ _ negative_is) (sums-class _ _ _ _ h) (sums-class _ _ _ _ k)
        (combined-class false _ _ _ _ _ l) (class_same E _ _ hb) (class_same E _ _ hd)))

    pub one-forward : n ≢ 0 → (turn a1 b1 c1 d1 d2 new_a new_b new_c new_d : A)
        → AreSumAndDifference R a c a1 c1 → AreSumAndDifference R b d b1 d1 → R.same d2 (R.product d1 turn)
        → AreSumAndDifference R a1 b1 new_a new_b → AreSumAndDifference R c1 d2 new_c new_d
        → IsTurned R (not (eqb n 0)) R.one turn R.one a b c d new_a new_b new_c new_d
    one-forward s turn a1 b1 c1 d1 d2 new_a new_b new_c new_d h k hd l m =
        at-forward s R.one turn R.one new_a new_b new_c new_d
        (turned-same true R.one turn R.one a b c d new_a new_b new_c new_d
        (one-forward-plain C (class E e) (class E f) (class E g) (class E a) (class E b) (class E c) (class E d) (class E turn)
        (class E a1) (class E b1) (class E c1) (class E d1) (class E d2) (class E new_a) (class E new_b) (class E new_c) (class E new_d)
        (sums-class _ _ _ _ h) (sums-class _ _ _ _ k) (class_same E _ _ hd) (sums-class _ _ _ _ l) (sums-class _ _ _ _ m)))

    pub one-back : n ≡ 0 → (turn a1 b1 c1 d1 d2 new_a new_b new_c new_d : A)
        → AreSumAndDifference R a b a1 b1 → AreSumAndDifference R c d c1 d1 → R.same d2 (R.product d1 turn)
        → AreSumAndDifference R a1 c1 new_a new_c → AreSumAndDifference R b1 d2 new_b new_d
        → IsTurned R (not (eqb n 0)) R.one turn R.one a b c d new_a new_b new_c new_d
    one-back s turn a1 b1 c1 d1 d2 new_a new_b new_c new_d h k hd l m =
        at-back s R.one turn R.one new_a new_b new_c new_d
        (turned-same false R.one turn R.one a b c d new_a new_b new_c new_d
        (one-back-plain C (class E e) (class E f) (class E g) (class E a) (class E b) (class E c) (class E d) (class E turn)
        (class E a1) (class E b1) (class E c1) (class E d1) (class E d2) (class E new_a) (class E new_b) (class E new_c) (class E new_d)
        (sums-class _ _ _ _ h) (sums-class _ _ _ _ k) (class_same E _ _ hd) (sums-class _ _ _ _ l) (sums-class _ _ _ _ m)))
