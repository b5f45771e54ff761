-- The words of domains, transforms and vanishing at the fields of a commutative ring, up to plain equality.
use Rattle.std.specs.Prelude.{◌≡◌, ℕ, List, Bool}
use Rattle.math_theory.specs.Rings.{CommutativeRing}
use Rattle.math_theory.specs.Domains as Domains
use Rattle.math_theory.specs.Powers as Powers
use Rattle.math_theory.specs.Transforms as Transforms
use Rattle.math_theory.specs.Vanishing as Vanishing

module _ {A : Type 0} (R : CommutativeRing A) where
  -- each definition of these names over a ring, with the ring's operations and plain equality
  abbrev pub HasExactOrder : A → ℕ → Type 0
  HasExactOrder w n = Domains.HasExactOrder (λ (x y : A). x ≡ y) R.one R.product w n

  abbrev pub IsPrincipalRoot : ℕ → A → Type 0
  IsPrincipalRoot lg w = Domains.IsPrincipalRoot (λ (x y : A). x ≡ y) R.one R.negative R.product lg w

  abbrev pub IsNoPower : A → A → Type 0
  IsNoPower w s = Domains.IsNoPower (λ (x y : A). x ≡ y) R.one R.product w s

  -- the power lg of one plus one
  abbrev pub power_of_two : ℕ → A
  power_of_two lg = Powers.power R.one R.product (R.sum R.one R.one) lg

  -- each definition of these names over a ring, with the ring's operations and plain equality
  abbrev pub coset : A → A → ℕ → List A
  coset s w n = Domains.coset R.one R.product s w n

  abbrev pub transform : ℕ → A → List A → List A
  transform lg w cells = Transforms.transform R.sum R.negative R.product R.one lg w cells

  abbrev pub inverse_transform : ℕ → A → List A → List A
  inverse_transform lg w cells = Transforms.inverse_transform R.sum R.negative R.product R.one lg w cells

  abbrev pub missing_points : A → List Bool → List A
  missing_points w filled = Vanishing.missing_points R.one R.product w filled

  abbrev pub missing_product : A → A → List Bool → A
  missing_product r w filled = Vanishing.missing_product R.sum R.negative R.product R.one r w filled

  abbrev pub VanishesAt : List A → (A → A) → Type 0
  VanishesAt roots v = Vanishing.VanishesAt (λ (x y : A). x ≡ y) R.zero R.sum R.negative R.product R.one roots v

  abbrev pub IsVanishing : A → List Bool → A → List A → Type 0
  IsVanishing w filled at_zero values = Vanishing.IsVanishing (λ (x y : A). x ≡ y) R.zero R.sum R.negative R.product R.one w filled at_zero values
