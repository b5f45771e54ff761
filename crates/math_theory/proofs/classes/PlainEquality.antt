-- Plain equality is an equality of a type: what holds up to a type's own equality holds of rings and spaces whose laws are plain equations.
use Rattle.std.proofs.Common.{◌≡◌, refl, sym, ◌∙◌, ap, ap₂}
use Rattle.math_theory.specs.Laws.{IsEquality, IsGroup, IsProduct, IsRing, IsModule}
use Rattle.math_theory.specs.ModuleLaws.{double_itself}
use Rattle.math_theory.specs.Rings.{CommutativeRing}
use Rattle.math_theory.specs.Spaces.{Space}

pub plain_equality : {A : Type 0} → IsSet A → IsEquality (λ (x y : A). x ≡ y)
plain_equality s = record {
  prop = λ a b. s a b;
  reflexive = λ a. refl;
  symmetric = λ a b e. sym e;
  transitive = λ a b c e f. e ∙ f;
}

module _ {A : Type 0} (R : CommutativeRing A) where
  pub ring_equality : IsEquality (λ (x y : A). x ≡ y)
  ring_equality = plain_equality R.is_set

  pub ring_group : IsGroup (λ (x y : A). x ≡ y) R.zero R.sum R.negative
  ring_group = record {
    respects_sum = λ a b c d e f. ap₂ R.sum e f;
    respects_negative = λ a b e. ap R.negative e;
    commutative = R.sum_comm;
    associative = R.sum_assoc;
    identity = R.sum_zero;
    inverse = R.sum_negative;
  }

  pub ring_product : IsProduct (λ (x y : A). x ≡ y) R.product
  ring_product = record {
    respects = λ a b c d e f. ap₂ R.product e f;
    commutative = R.product_comm;
    associative = R.product_assoc;
  }

  pub ring_laws : IsRing (λ (x y : A). x ≡ y) R.sum R.product R.one
  ring_laws = record {
    identity = R.product_one;
    distributive = R.distributive;
  }

module _ {A B : Type 0} {R : CommutativeRing A} (M : Space R B) where
  pub space_equality : IsEquality (λ (x y : B). x ≡ y)
  space_equality = plain_equality M.is_set

  pub space_group : IsGroup (λ (x y : B). x ≡ y) M.zero M.sum M.negative
  space_group = record {
    respects_sum = λ a b c d e f. ap₂ M.sum e f;
    respects_negative = λ a b e. ap M.negative e;
    commutative = M.sum_comm;
    associative = M.sum_assoc;
    identity = M.sum_zero;
    inverse = M.sum_negative;
  }

  pub space_module : IsModule (λ (x y : B). x ≡ y) M.zero M.sum M.scaling (λ (x y : A). x ≡ y) R.zero R.sum R.product R.one
  space_module = record {
    respects_points = λ a b x e. ap (λ c. M.scaling c x) e;
    respects_scalars = λ a x y e. ap (M.scaling a) e;
    sum_of_points = M.scaling_points;
    sum_of_scalars = M.scaling_scalars;
    product_of_scalars = M.scaling_product;
    identity = M.scaling_one;
    annihilation = λ a. double_itself space_equality space_group (M.scaling a R.zero) (sym (M.scaling_scalars a R.zero R.zero) ∙ ap (M.scaling a) (R.sum_zero R.zero));
  }
