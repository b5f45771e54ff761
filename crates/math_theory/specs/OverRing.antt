-- The words of this crate at the fields of a commutative ring, up to plain equality.
use Rattle.std.specs.Prelude.{◌≡◌, ℕ, List, Bool}
use Rattle.math_theory.specs.Rings.{CommutativeRing, Field}
use Rattle.math_theory.specs.Coefficients as Coefficients
use Rattle.math_theory.specs.Decoding as Decoding
use Rattle.math_theory.specs.Division as Division
use Rattle.math_theory.specs.Interpolation as Interpolation
use Rattle.math_theory.specs.Powers as Powers
use Rattle.math_theory.specs.Recovery as Recovery
use Rattle.math_theory.specs.RecoveryOnCoset as RecoveryOnCoset
use Rattle.math_theory.specs.RootProducts as RootProducts
use Rattle.math_theory.specs.Sums as Sums
use Rattle.math_theory.specs.Values as Values

-- no two are equal
abbrev pub AreDistinct : {A : Type 0} → List A → Type 0
AreDistinct {A} xs = Interpolation.AreApart (λ (x y : A). x ≡ y) xs

module _ {A : Type 0} (R : CommutativeRing A) where
  -- each definition of these names over a ring, with the ring's operations and plain equality
  abbrev pub power : A → ℕ → A
  power a n = Powers.power R.one R.product a n

  abbrev pub powers : A → ℕ → List A
  powers a n = Powers.powers R.one R.product a n

  abbrev pub value : A → List A → A
  value r a = Values.value R.zero R.sum R.product R.one r a

  abbrev pub coefficient : List A → ℕ → A
  coefficient a i = Coefficients.coefficient R.zero a i

  abbrev pub HaveSameCoefficients : List A → List A → Type 0
  HaveSameCoefficients a b = Coefficients.HaveSameCoefficients (λ (x y : A). x ≡ y) R.zero a b

  abbrev pub IsZeroPolynomial : List A → Type 0
  IsZeroPolynomial a = Coefficients.IsZeroPolynomial (λ (x y : A). x ≡ y) R.zero a

  abbrev pub polynomial_sum : List A → List A → List A
  polynomial_sum a b = Coefficients.polynomial_sum R.sum a b

  abbrev pub polynomial_negative : List A → List A
  polynomial_negative a = Coefficients.polynomial_negative R.negative a

  abbrev pub polynomial_difference : List A → List A → List A
  polynomial_difference a b = Coefficients.polynomial_difference R.sum R.negative a b

  abbrev pub polynomial_multiple : List A → A → List A
  polynomial_multiple a s = Coefficients.polynomial_multiple R.product a s

  abbrev pub polynomial_product : List A → List A → List A
  polynomial_product a b = Coefficients.polynomial_product R.zero R.sum R.product a b

  abbrev pub polynomial_dilation : A → List A → List A
  polynomial_dilation s a = Coefficients.polynomial_dilation R.product R.one R.product s a

  abbrev pub HasExactDegree : List A → ℕ → Type 0
  HasExactDegree a n = Division.HasExactDegree (λ (x y : A). x ≡ y) R.zero a n

  abbrev pub IsDivision : ℕ → List A → List A → List A → List A → Type 0
  IsDivision n p d q r = Division.IsDivision (λ (x y : A). x ≡ y) R.zero R.sum R.product n p d q r

  abbrev pub root_product : A → List A → A
  root_product r roots = RootProducts.root_product R.sum R.negative R.product R.one r roots

  abbrev pub weighted_sum : List A → List A → A
  weighted_sum points scalars = Sums.weighted_sum R.zero R.sum R.product points scalars

  abbrev pub values_at : List A → List A → List A
  values_at points a = Interpolation.values_at R.zero R.sum R.product R.one points a

  abbrev pub AreWeightsAt : A → List A → List A → Type 0
  AreWeightsAt x points weights = Interpolation.AreWeightsAt (λ (x y : A). x ≡ y) R.zero R.sum R.product R.one x points weights

  abbrev pub Fits : A → List A → List Bool → List A → Type 0
  Fits w cells filled q = Recovery.Fits (λ (x y : A). x ≡ y) R.zero R.sum R.product R.one w cells filled q

  abbrev pub HasCoset : A → A → ℕ → Type 0
  HasCoset w s n = RecoveryOnCoset.HasCoset (λ (x y : A). x ≡ y) R.zero R.product R.one w s n

  abbrev pub VanishesAtMissing : A → ℕ → List Bool → A → List A → Type 0
  VanishesAtMissing w n filled u v = RecoveryOnCoset.VanishesAtMissing (λ (x y : A). x ≡ y) R.zero R.sum R.negative R.product R.one w n filled u v

  abbrev pub HasProductValues : A → ℕ → List A → List A → List A → Type 0
  HasProductValues w n cells v g = RecoveryOnCoset.HasProductValues (λ (x y : A). x ≡ y) R.zero R.sum R.product R.one w n cells v g

  abbrev pub DividesOnCoset : A → A → ℕ → ℕ → List A → List A → List A → Type 0
  DividesOnCoset w s d m v g q = RecoveryOnCoset.DividesOnCoset (λ (x y : A). x ≡ y) R.zero R.sum R.product R.one w s d m v g q

  abbrev pub IsDividedDownTo : ℕ → List A → List A → List A → List A → Type 0
  IsDividedDownTo i p d q left = Division.IsDividedDownTo (λ (x y : A). x ≡ y) R.zero R.sum R.product i p d q left

  abbrev pub IsKept : List A → List A → List A → List A → Type 0
  IsKept points values r v = Decoding.IsKept (λ (x y : A). x ≡ y) R.zero R.sum R.product R.one points values r v

  abbrev pub AgreesOutside : List A → List A → List ℕ → List A → Type 0
  AgreesOutside points values places a = Decoding.AgreesOutside (λ (x y : A). x ≡ y) R.zero R.sum R.product R.one points values places a

  abbrev pub IsWithinRadius : List A → List A → ℕ → List A → Type 0
  IsWithinRadius points values count a = Decoding.IsWithinRadius (λ (x y : A). x ≡ y) R.zero R.sum R.product R.one points values count a

-- the product of (x - y) / (p - y) over the other points y
abbrev pub lagrange_weight : {A : Type 0} → Field A → A → A → List A → A
lagrange_weight F x p others = Interpolation.lagrange_weight F.sum F.negative F.product F.one F.inverse x p others

-- weight i is the product of (x - y) / (p - y), where p is point i and y goes over the other points
abbrev pub lagrange_weights : {A : Type 0} → Field A → A → List A → List A
lagrange_weights F x points = Interpolation.lagrange_weights F.zero F.sum F.negative F.product F.one F.inverse x points
