-- All that `take` hands on of an iterator.
use Rattle.std.proofs.Common.{◌≡◌, ℕ, ◌<◌, List, Option, None, arith}
use Rattle.std.specs.Iterator.{Yields}
use Rattle.std.specs.Iterator.Adapters.{take_steps, take_source, take_count}
use Rattle.std.specs.declared.iter.Take.{Take}
use Rattle.math_base.proofs.TakenItems.{take-yields}
use Rattle.math_transforms.specs.Matrices.{GivesAtMost}

module _ {S A : Type 0} (steps : S → Option A → S → Type 0) where
  -- where `take` has come to its end, the source has given as many items as were asked for, or has ended
  pub taken-all : (source : S) (n : ℕ) (s t u : Take S) (items : List A) → take_source s ≡ source → take_count s ≡ n → Yields (take_steps steps) s items t
      → (0 < take_count t → steps (take_source t) None (take_source u)) → GivesAtMost steps n source items
  taken-all source n s t u items e f h k = grind (arith, take-yields)
