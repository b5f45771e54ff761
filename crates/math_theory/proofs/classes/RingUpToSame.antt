-- The normaliser up to a type's own equality: on the classes the equations are plain.
use Rattle.std.proofs.Common.{◌≡◌, ℕ, zero, suc, List, [], ◌∷◌, map, refl, sym, ◌∙◌, ap, ap₂}
use Rattle.math_theory.specs.Laws.{IsEquality, IsGroup, IsProduct, IsRing}
use Rattle.math_theory.specs.Rings.{CommutativeRing}
use Rattle.math_theory.proofs.classes.Classes.{Class, class, class_same, same_class, ring_of_classes}
use Rattle.math_theory.proofs.rings.Normal.{Expression, variable, 𝟘, 𝟙, ◌⊕◌, ◌⊗◌, ◌⊖◌, minus, normal, ring, combine, combine2, combine3, assigned, denote}

module _ {A : Type 0} {same : A → A → Type 0} {zero_of : A} {sum : A → A → A} {negative : A → A} {product : A → A → A} {one : A}
    (E : IsEquality same) (G : IsGroup same zero_of sum negative) (P : IsProduct same product) (R : IsRing same sum product one) (v : List A) where
  abbrev value_of : Expression → A
  value_of e = denote zero_of sum negative product one v e

  abbrev classes : CommutativeRing (Class E)
  classes = ring_of_classes E G P R

  abbrev class_of : Expression → Class E
  class_of e = denote classes.zero classes.sum classes.negative classes.product classes.one (map (class E) v) e

  assigned-class : (v : List A) (i : ℕ) → assigned classes.zero classes.sum classes.negative classes.product classes.one (map (class E) v) i ≡ class E (assigned zero_of sum negative product one v i)
  assigned-class [] i = refl
  assigned-class (a ∷ rest) zero = refl
  assigned-class (a ∷ rest) (suc i) = assigned-class rest i

  denote-class : (e : Expression) → class_of e ≡ class E (value_of e)
  denote-class (variable i) = assigned-class v i
  denote-class 𝟘 = refl
  denote-class 𝟙 = refl
  denote-class (a ⊕ b) = ap₂ classes.sum (denote-class a) (denote-class b)
  denote-class (a ⊗ b) = ap₂ classes.product (denote-class a) (denote-class b)
  denote-class (minus a) = ap classes.negative (denote-class a)

  from_classes : (e f : Expression) → class_of e ≡ class_of f → same (value_of e) (value_of f)
  from_classes e f h = same_class E _ _ (sym (denote-class e) ∙ h ∙ denote-class f)

  to_classes : (e f : Expression) → same (value_of e) (value_of f) → class_of e ≡ class_of f
  to_classes e f h = denote-class e ∙ class_same E _ _ h ∙ sym (denote-class f)

  -- e is same as f, where both have one normal form
  pub ring_same : (e f : Expression) → normal e ≡ normal f → same (value_of e) (value_of f)
  ring_same e f n = from_classes e f (ring classes (map (class E) v) e f n)

  -- e is same as f, where e - f is k (l - r) and l is known to be same as r
  pub combine_same : (e f k l r : Expression) → same (value_of l) (value_of r) → normal (e ⊖ f) ≡ normal (k ⊗ (l ⊖ r)) → same (value_of e) (value_of f)
  combine_same e f k l r h n = from_classes e f (combine classes (map (class E) v) e f k l r (to_classes l r h) n)

  -- the same by two known facts
  pub combine2_same : (e f k l r k' l' r' : Expression) → same (value_of l) (value_of r) → same (value_of l') (value_of r')
      → normal (e ⊖ f) ≡ normal ((k ⊗ (l ⊖ r)) ⊕ (k' ⊗ (l' ⊖ r'))) → same (value_of e) (value_of f)
  combine2_same e f k l r k' l' r' h h' n = from_classes e f (combine2 classes (map (class E) v) e f k l r k' l' r' (to_classes l r h) (to_classes l' r' h') n)

  -- the same by three known facts
  pub combine3_same : (e f k l r k' l' r' k'' l'' r'' : Expression) → same (value_of l) (value_of r) → same (value_of l') (value_of r') → same (value_of l'') (value_of r'')
      → normal (e ⊖ f) ≡ normal ((k ⊗ (l ⊖ r)) ⊕ ((k' ⊗ (l' ⊖ r')) ⊕ (k'' ⊗ (l'' ⊖ r'')))) → same (value_of e) (value_of f)
  combine3_same e f k l r k' l' r' k'' l'' r'' h h' h'' n =
      from_classes e f (combine3 classes (map (class E) v) e f k l r k' l' r' k'' l'' r'' (to_classes l r h) (to_classes l' r' h') (to_classes l'' r'' h'') n)
