-- Four rows of cells that are turned by two levels at once.
use Rattle.std.specs.Prelude.{ℕ, ◌+◌, ◌*◌, ◌<◌, Bool, List, slice_index_or}
use Rattle.math_base.specs.Members.{RingOf}
use Rattle.math_base.specs.Columns.{IsTurned}
use Rattle.math_transforms.specs.declared.points_below.quarters.Products.{Products}

module _ {A : Type 0} (R : RingOf A) where
  -- the cell at place p
  abbrev cell : List A → ℕ → A
  cell xs p = slice_index_or xs p R.zero

  -- the cells of column p of four rows of c cells are turned
  abbrev pub IsTurnedAt : Bool → A → A → A → ℕ → ℕ → List A → List A → Type 0
  IsTurnedAt forward e f g c p old new =
      IsTurned R forward e f g (cell old p) (cell old (c + p)) (cell old (2 * c + p)) (cell old (3 * c + p)) (cell new p) (cell new (c + p)) (cell new (2 * c + p)) (cell new (3 * c + p))

  -- four rows of c cells are turned, column by column
  pub record AreTurned (forward : Bool) (e f g : A) (c : ℕ) (old new : List A) : Type 0 where
    pub turned : (p : ℕ) → p < c → IsTurnedAt forward e f g c p old new

  -- what is made of the weights is e g and -f g
  pub record AreProducts (products : Products A) : Type 0 where
    pub product : R.same products.eg.now (R.product products.e.now products.g.now)
    pub minus : R.same products.minus_fg.now (R.negative (R.product products.f.now products.g.now))
