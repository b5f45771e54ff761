-- Polynomials that vanish at the missing points of a domain, and the pieces of which they are built.
use Rattle.std.specs.List.{range_with_len, count_by}
use Rattle.std.specs.Prelude.{◌≡◌, ℕ, ◌+◌, ◌*◌, ◌<◌, ◌≤◌, ◌^◌, List, Bool, false, length, not, map, slice_index_or, vec_len}
use Rattle.math_theory.specs.Powers.{power}
use Rattle.math_theory.specs.Vanishing.{VanishesAt, missing_points}
use Rattle.math_theory.specs.Vanishing as Vanishing
use Rattle.math_base.specs.Members.{RingOf}
use Rattle.math_base.specs.Polynomials.{value_in_ring}
use Rattle.math_transforms.specs.RootTrees.{IsTreeOf}
use Rattle.math_transforms.specs.declared.vanishing.Piece.{Piece}
use Rattle.math_transforms.specs.declared.vanishing.Spaced.{Spaced}
use Rattle.math_transforms.specs.declared.vanishing.Trees.{Trees}
use Rattle.math_transforms.specs.declared.vanishing.Piece.TheVariants.{Nowhere, Everywhere, Somewhere}

-- how many places are false
abbrev pub count_false : List Bool → ℕ
count_false filled = count_by not filled

-- the n truth values from place `start` on that are `stride` places apart
unfoldable pub every : ℕ → ℕ → ℕ → List Bool → List Bool
every start stride n filled = map (λ j. slice_index_or filled (start + j * stride) false) (range_with_len 0 n)

-- the truth values of the n points from `start` on that are `stride` places apart
abbrev pub places : ℕ → Spaced → List Bool
places n spaced = every spaced.start spaced.stride n spaced.points.now

-- there are n points, so far apart that they are all points whose index has the same remainder
pub record IsSpaced (n : ℕ) (spaced : Spaced) : Type 0 where
  pub start : spaced.start < spaced.stride
  pub covers : n * spaced.stride ≡ length spaced.points.now
  pub fits : length spaced.points.now < 2 ^ 64

-- the trees of the powers of root lg, and of their inverses
pub record AreTrees {A : Type 0} (R : RingOf A) (greatest : ℕ) (root : ℕ → A) (inverse : A → A) (trees : Trees A) : Type 0 where
  pub domain : trees.lg ≤ greatest
  pub small : trees.lg < 64
  pub evaluation : IsTreeOf R root R.one trees.lg trees.evaluation.now
  pub interpolation : IsTreeOf R (λ l. inverse (root l)) R.one trees.lg trees.interpolation.now

-- up to one factor that is not zero, v gives at each r the product of r - w ^ j over the places j that are false
abbrev pub VanishesAtFalse : {A : Type 0} → RingOf A → A → List Bool → (A → A) → Type 0
VanishesAtFalse R w filled v = VanishesAt R.same R.zero R.sum R.negative R.product R.one (missing_points R.one R.product w filled) v

-- a value at zero, and the values at the powers of w, of a polynomial that vanishes at the powers of w whose places are false, and at no others
abbrev pub IsVanishing : {A : Type 0} → RingOf A → A → List Bool → A → List A → Type 0
IsVanishing R w filled at_zero values = Vanishing.IsVanishing R.same R.zero R.sum R.negative R.product R.one w filled at_zero values

-- the product of r - w ^ j over the places j that are false
abbrev pub missing_product : {A : Type 0} → RingOf A → A → A → List Bool → A
missing_product R r w filled = Vanishing.missing_product R.sum R.negative R.product R.one r w filled

-- the value at r of a piece over n points
abbrev pub piece_value : {A : Type 0} → RingOf A → ℕ → Piece A → A → A
piece_value R n Nowhere r = R.one
piece_value R n Everywhere r = R.sum (power R.one R.product r n) (R.negative R.one)
piece_value R n (Somewhere p) r = value_in_ring R p.items r

-- a piece has at most n coefficients
abbrev pub HasAtMost : {A : Type 0} → ℕ → Piece A → Type 0
HasAtMost n Nowhere = Unit {0}
HasAtMost n Everywhere = Unit {0}
HasAtMost n (Somewhere p) = vec_len p ≤ n

-- a piece vanishes at all points
abbrev pub IsEverywhere : {A : Type 0} → Piece A → Type 0
IsEverywhere Nowhere = ⊥
IsEverywhere Everywhere = Unit {0}
IsEverywhere (Somewhere p) = ⊥

-- up to one factor that is not zero, v gives at each r the value of p at r times the value of q at s r
pub record IsMerged {A : Type 0} (R : RingOf A) (s : A) (p q v : A → A) : Type 0 where
  pub factor : A
  pub factor_is_not_zero : ¬ (R.same factor R.zero)
  pub gives : (r : A) → R.same (v r) (R.product factor (R.product (p r) (q (R.product s r))))
