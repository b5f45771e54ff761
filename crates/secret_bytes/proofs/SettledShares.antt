-- Shares that stand with those before them, and of each index the first.
use Rattle.std.proofs.Common.{◌≡◌, false, not, eqb, inl, inr, ap}
use Rattle.std.specs.Bool.{Decides}
use Rattle.std.proofs.lemmas.Bool.{cases_Bool, eq-eqb, eqb-true}
use Rattle.math_fields.specs.declared.goldilocks.F.{F}
use Rattle.math_fields.specs.Elements.{number}
use Rattle.math_fields.proofs.ElementNumbers.{same_number}

-- elements are equal where their numbers are
pub element-Decides : (a b : F) → Decides (eqb (number a) (number b)) (a ≡ b)
element-Decides a b = (λ e. same_number a b (eqb-true (number a) (number b) e), λ e. eq-eqb (number a) (number b) (ap number e))

pub elements-equal : (a b : F) → false ≡ not (eqb (number a) (number b)) → a ≡ b
elements-equal a b e =
    elim (cases_Bool (eqb (number a) (number b))) as (λ _. a ≡ b) [
      | inl t ↦ (element-Decides a b).0 t
      | inr f ↦ cc
    ]
