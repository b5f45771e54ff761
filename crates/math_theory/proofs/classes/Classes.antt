-- The classes of a type by its own equality, on which the laws of algebra are plain equations.
use Rattle.std.proofs.Common.{◌≡◌}
use mathlib.Core.Quot as Quot
use mathlib.Core.HLevel.{Π_prop}
use mathlib.Core.Quot.{Setoid}
use Rattle.math_theory.specs.Laws.{IsEquality, IsGroup, IsProduct, IsRing, IsField}
use Rattle.math_theory.specs.Rings.{CommutativeRing, Field}

module _ {A : Type 0} {same : A → A → Type 0} (E : IsEquality same) where
  abbrev pub Class : Type 0
  Class = Quot.Quot same

  pub Class-set : IsSet Class
  Class-set = Quot.Quot-set

  abbrev pub class : A → Class
  class a = Quot.mk a

  -- to the classes
  pub class_same : (a b : A) → same a b → class a ≡ class b
  class_same a b h = Quot.sound h

  -- and back
  pub same_class : (a b : A) → class a ≡ class b → same a b
  same_class a b h =
      let s : Setoid {0, 0} A = record { r = same; iseqv = record { refl = E.reflexive; symm = E.symmetric; trans = E.transitive } } in
      Quot.Quotient.exact s E.prop h

  -- what holds of the class of each element holds of each class
  pub of_class : {P : Class → Type 0} → ((q : Class) → IsProp (P q)) → ((a : A) → P (class a)) → (q : Class) → P q
  of_class prop h q = Quot.ind prop h q

  pub of_two_classes : {P : Class → Class → Type 0} → ((p q : Class) → IsProp (P p q)) → ((a b : A) → P (class a) (class b)) → (p q : Class) → P p q
  of_two_classes prop h p q = of_class (λ p. prop p q) (λ a. of_class (λ q. prop (class a) q) (h a) q) p

  pub of_three_classes : {P : Class → Class → Class → Type 0} → ((p q r : Class) → IsProp (P p q r)) → ((a b c : A) → P (class a) (class b) (class c)) → (p q r : Class) → P p q r
  of_three_classes prop h p q r = of_class (λ p. prop p q r) (λ a. of_two_classes (λ q r. prop (class a) q r) (h a) q r) p

  -- an operation on the classes
  abbrev pub lift : (f : A → A) → ((a b : A) → same a b → same (f a) (f b)) → Class → Class
  lift f h = Quot.lift {r = same} Class-set (λ a. class (f a)) (λ a b s. class_same (f a) (f b) (h a b s))

  abbrev pub lift2 : (f : A → A → A) → ((a b c d : A) → same a b → same c d → same (f a c) (f b d)) → Class → Class → Class
  lift2 f h p q =
      Quot.lift {r = same} Class-set (λ a. lift (f a) (λ c d s. h a a c d (E.reflexive a) s) q)
      (λ a b s. of_class {P = λ q. lift (f a) (λ c d s. h a a c d (E.reflexive a) s) q ≡ lift (f b) (λ c d s. h b b c d (E.reflexive b) s) q}
      (λ q. Class-set _ _) (λ c. class_same (f a c) (f b c) (h a b c c s (E.reflexive c))) q) p

module _ {A : Type 0} {same : A → A → Type 0} {zero : A} {sum : A → A → A} {negative : A → A} {product : A → A → A} {one : A}
    (E : IsEquality same) (G : IsGroup same zero sum negative) (P : IsProduct same product) (R : IsRing same sum product one) where
  abbrev pub ring_of_classes : CommutativeRing (Class E)
  ring_of_classes = record {
    is_set = Class-set E;
    zero = class E zero;
    sum = lift2 E sum G.respects_sum;
    negative = lift E negative G.respects_negative;
    product = lift2 E product P.respects;
    one = class E one;
    sum_comm = of_two_classes E (λ a b. Class-set E _ _) (λ a b. class_same E _ _ (G.commutative a b));
    sum_assoc = of_three_classes E (λ a b c. Class-set E _ _) (λ a b c. class_same E _ _ (G.associative a b c));
    sum_zero = of_class E (λ a. Class-set E _ _) (λ a. class_same E _ _ (G.identity a));
    sum_negative = of_class E (λ a. Class-set E _ _) (λ a. class_same E _ _ (G.inverse a));
    product_comm = of_two_classes E (λ a b. Class-set E _ _) (λ a b. class_same E _ _ (P.commutative a b));
    product_assoc = of_three_classes E (λ a b c. Class-set E _ _) (λ a b c. class_same E _ _ (P.associative a b c));
    product_one = of_class E (λ a. Class-set E _ _) (λ a. class_same E _ _ (R.identity a));
    distributive = of_three_classes E (λ a b c. Class-set E _ _) (λ a b c. class_same E _ _ (R.distributive a b c));
  }

  abbrev pub field_of_classes : {inverse : A → A} → IsField same zero product one inverse → Field (Class E)
  field_of_classes {inverse} f = record {
    ring = ring_of_classes;
    inverse = lift E inverse f.respects;
    one_apart = λ e. f.distinct (same_class E one zero e);
    product_inverse = of_class E (λ a. Π_prop (λ n. Class-set E _ _)) (λ a n. class_same E _ _ (f.inverts a (λ s. n (class_same E a zero s))));
  }
