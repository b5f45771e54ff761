-- The number that limbs write is zero where each limb is.
use Rattle.std.proofs.Common.{◌≡◌, ◌≢◌, ◌↔◌, ℕ, zero, suc, ◌<◌, Bool, true, false, IsTrue, MatchBool, List, [], ◌∷◌, length, refl, arith}
use Rattle.std.specs.List.{AllWithin, HoldsAt}
use Rattle.math_theory.specs.Sums.{number_of_limbs}

zero_from_each : (limbs : List ℕ) → AllWithin (λ x. x ≡ 0) limbs 0 (length limbs) → number_of_limbs limbs ≡ 0
zero_from_each [] h = refl
zero_from_each (x ∷ limbs) h =
    let first : x ≡ 0 = h 0 x (omega arith) (omega arith) in
    let rest : number_of_limbs limbs ≡ 0 = zero_from_each limbs (λ k d l m. h (suc k) d (omega arith) (omega arith)) in
    omega arith

positive_from_one : (limbs : List ℕ) (k : ℕ) → k < length limbs → HoldsAt (λ x. x ≢ 0) limbs k → number_of_limbs limbs ≢ 0
positive_from_one [] k l h e = absurd (omega arith)
positive_from_one (x ∷ limbs) zero l h e = h 0 (omega arith)
positive_from_one (x ∷ limbs) (suc k) l h e = positive_from_one limbs k (omega arith) (λ d. h d) (omega arith)

-- what a test of each limb against zero tells
pub zero_by_limbs : (r : Bool) (limbs : List ℕ) → MatchBool r (AllWithin (λ x. x ≡ 0) limbs 0 (length limbs)) ((k : ℕ) × (k < length limbs) × HoldsAt (λ x. x ≢ 0) limbs k)
    → IsTrue r ↔ (number_of_limbs limbs ≡ 0)
zero_by_limbs true limbs h = (λ _. zero_from_each limbs h, λ _. refl)
zero_by_limbs false limbs h = (λ e. absurd (cc e), λ e. absurd (positive_from_one limbs h.0 h.1 h.2 e))
