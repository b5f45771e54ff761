-- Sizes and counts below a place of a tree of square roots, and the square of its turn.
use Rattle.std.proofs.Common.{◌≡◌, ◌∙◌, inl, inr, ℕ, suc, ◌+◌, ◌-◌, ◌*◌, ◌<◌, ◌≤◌, ◌^◌, Bool, true, false, if◌then◌else◌, [], ◌∷◌, refl, sym, ap, pow_pos, arith}
use Rattle.std.proofs.lemmas.Bool.{cases_lt}
use Rattle.std.proofs.lemmas.Nat.{mul-le}
use Rattle.math_theory.specs.Laws.{IsEquality, IsGroup, IsProduct, IsRing, IsField}
use Rattle.math_theory.specs.Powers.{power, power-suc, power-zero}
use Rattle.math_theory.specs.RootLaws.{HasRootsOfUnity}
use Rattle.math_theory.proofs.classes.RingUpToSame.{combine2_same, ring_same}
use Rattle.math_theory.proofs.domains.CarriedDomains.{IsPrincipalRoot-of_order-same}
use Rattle.math_theory.proofs.domains.MergedPieces.{root-nonzero}
use Rattle.math_theory.proofs.domains.RootOrders.{power_of_two-suc}
use Rattle.math_theory.proofs.rings.Normal.{◌⊕◌, ◌⊗◌, minus, 𝟙, v0, v1}

-- more cells than one row has are more than one row
pub some-level : (lg c n : ℕ) → n ≡ 2 ^ lg * c → c < n → 0 < lg
some-level lg c n size more = grind arith

pub some-columns : (lg c n : ℕ) → n ≡ 2 ^ lg * c → c < n → 0 < c
some-columns lg c n size more = grind arith

-- and no more cells than one row has are one row, or none
pub one_level : (lg c n : ℕ) → n ≡ 2 ^ lg * c → n ≤ c → 0 < c → lg ≡ 0
one_level lg c n size few some =
    elim (cases_lt 0 lg) [
      | inl l ↦
          let up : lg ≡ suc (lg - 1) = omega (arith, l) in
          let m = 2 ^ (lg - 1) in
          let twice : 2 ^ lg * c ≡ m * c + m * c = ap (λ i. 2 ^ i * c) up ∙ ap (λ i. i * c) (power_of_two-suc (lg - 1)) ∙ omega arith in
          let least : 1 * c ≤ m * c = mul-le 1 c m c (pow_pos (lg - 1)) (omega arith) in
          absurd (omega (arith, twice, least, size, few, some))
      | inr z ↦ omega (arith, z)
    ]

-- there are no steps where there is one row, or none
pub no-steps : (lg c n : ℕ) → n ≡ 2 ^ lg * c → n ≤ c → c * 2 ^ lg * lg ≡ 0
no-steps lg c n size few =
    elim (cases_lt 0 c) [
      | inl l ↦ ap (λ i. c * 2 ^ lg * i) (one_level lg c n size few l) ∙ omega arith
      | inr z ↦ let none : c ≡ 0 = omega (arith, z) in ap (λ i. i * 2 ^ lg * lg) none ∙ omega arith
    ]

-- the steps of all levels of n cells
pub all-steps : (lg c n : ℕ) → n ≡ 2 ^ lg * c → c * 2 ^ lg * lg ≡ lg * n
all-steps lg c n size = sym (ap (λ i. lg * i) size ∙ omega arith)

-- a root of order four has the square minus one, and so has its inverse
module _ {A : Type 0} {same : A → A → Type 0} {zero_of : A} {sum : A → A → A} {negative : A → A} {product : A → A → A} {one : A} {inverse : A → A}
    (E : IsEquality same) (G : IsGroup same zero_of sum negative) (P : IsProduct same product) (R : IsRing same sum product one) (F : IsField same zero_of product one inverse)
    {root : ℕ → A} {greatest : ℕ} {shift : A} {half : A → A} (roots : HasRootsOfUnity same zero_of sum product one greatest root shift half) (two : 2 ≤ greatest) where
  square-two : same (power one product (root 2) 2) (product (root 2) (root 2))
  square-two =
      rw (power-suc one product (root 2) 1, power-suc one product (root 2) 0, power-zero one product (root 2))
      (ring_same E G P R (root 2 ∷ []) ((𝟙 ⊗ v0) ⊗ v0) (v0 ⊗ v0) refl)

  pub turn-square : same (product (root 2) (root 2)) (negative one)
  turn-square = E.transitive _ _ _ (E.symmetric _ _ square-two) (IsPrincipalRoot-of_order-same E G P R F 2 (root 2) (roots.order 2 two))

  pub inverse_turn-square : same (product (inverse (root 2)) (inverse (root 2))) (negative one)
  inverse_turn-square =
      combine2_same E G P R (root 2 ∷ inverse (root 2) ∷ [])
      (v1 ⊗ v1) (minus 𝟙)
      (v1 ⊗ v1) (v0 ⊗ v0) (minus 𝟙)
      (minus ((v0 ⊗ v1) ⊕ 𝟙)) (v0 ⊗ v1) 𝟙 turn-square (F.inverts (root 2) (root-nonzero E G P R F (root 2) 4 (roots.order 2 two))) refl

  -- forward and on the way back
  pub either_turn-square : (forward : Bool) → same (product (if forward then root 2 else inverse (root 2)) (if forward then root 2 else inverse (root 2))) (negative one)
  either_turn-square true = turn-square
  either_turn-square false = inverse_turn-square
