-- Steps of one or two levels below a place of a tree of square roots, and transforms by all levels.
use Rattle.std.specs.Prelude.{◌≡◌, ℕ, ◌+◌, ◌-◌, ◌*◌, ◌^◌, Bool, true, false, List}
use Rattle.math_base.specs.Members.{RingOf}
use Rattle.math_transforms.specs.CombinedCells.{AreCombined}
use Rattle.math_transforms.specs.Quarters.{AreTurned}
use Rattle.math_transforms.specs.RootTrees.{AreMultiplesBelow, AreValuesBelow, entry}
use Rattle.math_transforms.specs.declared.points_below.Points.{Points}

module _ {A : Type 0} (R : RingOf A) where
  -- A step of one level combines two rows of s cells by the entry at the place, and one of two levels turns four rows by it and the two
  -- entries below. A step of no level leaves all cells.
  pub record AreSteppedBelow (forward : Bool) (levels : ℕ) (roots : List A) (place s : ℕ) (old new : List A) : Type 0 where
    pub none : levels ≡ 0 → new ≡ old
    pub one : levels ≡ 1 → AreCombined R forward (entry R roots place) s old new
    pub two : levels ≡ 2 → AreTurned R forward (entry R roots (2 * place)) (entry R roots (2 * place + 1)) (entry R roots place) s old new

  -- so many levels of the given points are taken in one step, of rows of c cells
  abbrev pub AreStepped : Bool → ℕ → Points A → ℕ → List A → List A → Type 0
  AreStepped forward levels points c old new = AreSteppedBelow forward levels points.roots.now points.place (2 ^ (points.lg - levels) * c) old new

  -- forward the new cells are the values of the old columns at the 2^lg points below a place, and on the way back the new columns have
  -- 2^lg times the old cells as their values at the inverses of these points
  abbrev pub AreTransformedBelow : Bool → List A → ℕ → ℕ → ℕ → List A → List A → Type 0
  AreTransformedBelow true roots lg place c old new = AreValuesBelow R roots lg place c old new
  AreTransformedBelow false roots lg place c old new = AreMultiplesBelow R roots lg place c old new

  -- and so for the given points
  abbrev pub AreTransformed : Bool → Points A → ℕ → List A → List A → Type 0
  AreTransformed forward points c old new = AreTransformedBelow forward points.roots.now points.lg points.place c old new
