-- Sixteen cells of one column that are turned by four levels.
use Rattle.std.proofs.Common.{◌≡◌, ℕ, ◌+◌, ◌*◌, ◌<◌, Bool, true, false, List, length, refl, subst, arith}
use Rattle.math_fields.specs.declared.goldilocks.F.{F}
use Rattle.math_fields.specs.Elements.{goldilocks}
use Rattle.math_base.specs.Columns.{AreSixteenTurned, IsTurnedByTree}

module _ (roots : List F) (p : ℕ) where
  turned_at : (forward : Bool) (q r i j : ℕ) (xs ys : List F) → q ≡ r → i ≡ j → IsTurnedByTree goldilocks forward roots q 1 i xs ys → IsTurnedByTree goldilocks forward roots r 1 j xs ys
  turned_at forward q r i j xs ys e f h =
      subst (λ t. IsTurnedByTree goldilocks forward roots t 1 j xs ys) e (subst (λ t. IsTurnedByTree goldilocks forward roots q 1 t xs ys) f h)

  -- first the four rows, and then each of them
  pub sixteen_forward : (old mid new : List F) → length mid ≡ 16
      → ((k : ℕ) → k < 4 → IsTurnedByTree goldilocks true roots p 4 k old mid)
      → ((k : ℕ) → k < 4 → IsTurnedByTree goldilocks true roots (4 * p + k) 1 (4 * k) mid new)
      → AreSixteenTurned goldilocks true roots p 1 old new
  sixteen_forward old mid new count all each = record {
    between = mid;
    count = count;
    all = all;
    first = λ i l. turned_at true (4 * p + 0) (4 * p) 0 i mid new (omega arith) (omega (arith, l)) (each 0 (omega arith));
    second = λ i l. turned_at true (4 * p + 1) (4 * p + 1) 4 (4 * 1 + i) mid new refl (omega (arith, l)) (each 1 (omega arith));
    third = λ i l. turned_at true (4 * p + 2) (4 * p + 2) 8 (2 * (4 * 1) + i) mid new refl (omega (arith, l)) (each 2 (omega arith));
    fourth = λ i l. turned_at true (4 * p + 3) (4 * p + 3) 12 (3 * (4 * 1) + i) mid new refl (omega (arith, l)) (each 3 (omega arith));
  }

  -- on the way back the other way round
  pub sixteen_back : (old mid new : List F) → length mid ≡ 16
      → ((k : ℕ) → k < 4 → IsTurnedByTree goldilocks false roots (4 * p + k) 1 (4 * k) old mid)
      → ((k : ℕ) → k < 4 → IsTurnedByTree goldilocks false roots p 4 k mid new)
      → AreSixteenTurned goldilocks false roots p 1 old new
  sixteen_back old mid new count each all = record {
    between = mid;
    count = count;
    all = all;
    first = λ i l. turned_at false (4 * p + 0) (4 * p) 0 i old mid (omega arith) (omega (arith, l)) (each 0 (omega arith));
    second = λ i l. turned_at false (4 * p + 1) (4 * p + 1) 4 (4 * 1 + i) old mid refl (omega (arith, l)) (each 1 (omega arith));
    third = λ i l. turned_at false (4 * p + 2) (4 * p + 2) 8 (2 * (4 * 1) + i) old mid refl (omega (arith, l)) (each 2 (omega arith));
    fourth = λ i l. turned_at false (4 * p + 3) (4 * p + 3) 12 (3 * (4 * 1) + i) old mid refl (omega (arith, l)) (each 3 (omega arith));
  }
