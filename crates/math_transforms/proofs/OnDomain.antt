-- What holds at the one lg of a number of rows.
use Rattle.std.proofs.Common.{◌≡◌, ◌∙◌, ℕ, suc, ◌*◌, ◌^◌, ◌<◌, ◌≤◌, List, pow_mono, pow_pos, arith}
use Rattle.std.proofs.lemmas.Bool.{cases_lt}
use Rattle.math_theory.proofs.domains.RootOrders.{power_of_two-suc}
use Rattle.math_base.specs.Members.{RingOf}
use Rattle.math_transforms.specs.DomainValues.{matrix_of, AreValuesAtPowers, AreValuesOnDomain}
use Rattle.math_transforms.specs.Matrices.{MatrixOf}

power-apart : (i j : ℕ) → i < j → 2 ^ i < 2 ^ j
power-apart i j h = let up : 2 ^ suc i ≤ 2 ^ j = pow_mono h in omega (arith, up, power_of_two-suc i, pow_pos i)

pub power-once : (i j : ℕ) → 2 ^ i ≡ 2 ^ j → i ≡ j
power-once i j e = grind (arith, cases_lt, power-apart)

module _ {A : Type 0} where
  pub count-on_domain : (m s : MatrixOf A) → m ≡ s → (i lg : ℕ) → m.rows ≡ 2 ^ i → s.rows ≡ 2 ^ lg → m.cols * 2 ^ i * i ≡ s.cols * s.rows * lg
  count-on_domain m s e i lg h k = grind (arith, power-once)

  pub values-on_domain : (R : RingOf A) (root : ℕ → A) (rows cols i : ℕ) (cells : List A) (v w : MatrixOf A) → rows ≡ 2 ^ i
      → w.cols ≡ v.cols → w.cells ≡ v.cells → AreValuesAtPowers R (root i) (matrix_of (2 ^ i) cols cells) v → AreValuesOnDomain R root (matrix_of rows cols cells) w
  values-on_domain R root rows cols i cells v w e f g h lg k = grind (arith, power-once)
