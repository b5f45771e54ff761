-- Data that shards gave back, packed in elements.
use Rattle.std.specs.Prelude.{◌≡◌, ℕ, List, length}
use Rattle.math_shards.specs.declared.shards.unpacking.PackedData.{PackedData}
use Rattle.math_shards.specs.Fitting.{AreDataOf}

-- the packed data are these words
pub record HoldsWords (words : List ℕ) (packed : PackedData) : Type 0 where
  pub count : packed.count ≡ length words
  pub min : ℕ
  pub elements : AreDataOf words min packed.elements.items
