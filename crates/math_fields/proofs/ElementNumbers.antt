-- Elements and their numbers.
use Rattle.std.proofs.Common.{◌≡◌, ℕ, ◌<◌, ap, subst, mod-eq_of_lt}
use native.Mathlib.Bridge.{le_prop}
use Rattle.math_numbers.specs.Goldilocks.{P}
use Rattle.math_fields.specs.Elements.{number, residue}
use Rattle.math_fields.specs.declared.goldilocks.F.{F}

-- elements with one number are one
pub same_number : (a b : F) → number a ≡ number b → a ≡ b
same_number a b e =
    let is_a : ℕ → Type 0 = λ n. (below : n < P) → a ≡ record { value = n; below = below } in
    subst is_a e (λ below. ap (λ (p : number a < P). record { value = number a; below = p }) (le_prop a.below below)) b.below

-- an element is the residue of its number
pub residue-number : (a : F) → residue (number a) ≡ a
residue-number a = same_number (residue (number a)) a (mod-eq_of_lt a.below)
