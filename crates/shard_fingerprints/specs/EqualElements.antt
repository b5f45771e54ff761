-- Elements with one number are one element.
use Rattle.std.proofs.Common.{◌≡◌, ℕ, ◌<◌, ap, subst}
use Rattle.std.proofs.Math.Bridge.{le_prop}
use Rattle.std.proofs.Math.Nat.{mod-eq_of_lt}
use Rattle.math_numbers.specs.Goldilocks.{P}
use Rattle.math_fields.specs.declared.goldilocks.F.{F}
use Rattle.math_fields.specs.Elements.{number, residue}

abbrev element : (n : ℕ) → n < P → F
element n below = record { value = n; below = below }

equal : (m n : ℕ) (p : m < P) (q : n < P) → m ≡ n → element m p ≡ element n q
equal m n p q e =
    let Q : ℕ → Type 0 = λ k. (r : k < P) → element m p ≡ element k r in
    subst Q e (λ r. ap (element m) (le_prop p r)) q

pub element_equal : (a b : F) → number a ≡ number b → a ≡ b
element_equal a b e = equal (number a) (number b) a.below b.below e

-- an element is the residue of its number
pub residue_number : (a : F) → residue (number a) ≡ a
residue_number a = element_equal (residue (number a)) a (mod-eq_of_lt a.below)
