-- What a test of two lists of truth values says.
use Rattle.std.proofs.Common.{arith, ◌≡◌, ◌∙◌, Bool, true, false, not, List, refl}
use Rattle.std.specs.Cmp.{booleans_Decides}
use Rattle.std.specs.Cmp.Lexicographic.{pointwise}
use Rattle.std.proofs.lemmas.Bool.{not-true, not-false}
use Rattle.std.proofs.lemmas.Slice.Eq.{slice_eq-Decides}
use mathlib.Core.Bool.{beq}

-- a test for a difference finds none
pub equal-unless_differ : (a b : List Bool) → not (pointwise beq a b) ≡ false → a ≡ b
equal-unless_differ a b h = (slice_eq-Decides booleans_Decides a b (pointwise beq a b) refl).0 (not-false (pointwise beq a b) h)

-- a test for a difference finds one
pub different-where_true : (a b : List Bool) → not (pointwise beq a b) ≡ true → a ≡ b → ⊥
different-where_true a b h e = grind (arith, slice_eq-Decides, not-true)
