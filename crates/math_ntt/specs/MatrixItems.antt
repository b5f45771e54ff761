-- The cells of a matrix that is made of the items of a source.
use Rattle.std.specs.Prelude.{ℕ, List, Option}
use Rattle.math_codec.specs.Iterables.{ItemsMeet}
use Rattle.math_transforms.specs.Matrices.{GivesAtMost, AreFilledUp}

-- the cells are the first n items that the source gives, and zeros where it gives fewer
abbrev pub AreFirstItems : {U S A : Type 0} → (A → A → Type 0) → A → (U → S → Type 0) → (S → Option A → S → Type 0) → ℕ → U → List A → Type 0
AreFirstItems same zero_of becomes steps n source cells = ItemsMeet becomes (GivesAtMost steps n) source (λ items. AreFilledUp same zero_of items cells)
