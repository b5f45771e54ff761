-- Powers by a number that limbs write, by squaring and multiplying over the bits from the highest to the lowest. In any commutative monoid,
-- up to a type's own equality, the square of the n-th power is the 2 n-th, and one more product gives the (2 n + 1)-th.
use Rattle.std.proofs.Common.{◌≡◌, sym, ap, ℕ, zero, suc, ◌+◌, ◌*◌, ◌^◌, ◌/◌, ◌-◌, ◌<◌, ◌≤◌, List, [], ◌∷◌, ◌++◌, map, reverse, arith, bit_and, Bor, add-zero, add-suc}
use Rattle.std.proofs.Math.Nat.{pow-suc, div-div-eq-div-mul}
use Rattle.std.proofs.lemmas.Nat.Bits.{shr_and_one}
use Rattle.std.proofs.lemmas.List.{map-append, reverse-append}
use Rattle.math_theory.specs.Laws.{IsEquality, IsMonoid}
use Rattle.math_theory.specs.Powers.{power, power-zero, power-suc}
use Rattle.math_theory.specs.Sums.{number_of_limbs}

power_of_two-half : (k : ℕ) → 0 < k → 2 ^ k ≡ 2 ^ (k - 1) * 2
power_of_two-half zero h = absurd (omega arith)
power_of_two-half (suc k) h = let e : suc k - 1 ≡ k = omega arith in rw e (pow-suc 2 k)

-- the bits of w from the i-th up, with one bit more
upper_bits : (w i : ℕ) → 0 < i → w / 2 ^ (i - 1) ≡ 2 * (w / 2 ^ i) + bit_and (w / 2 ^ (i - 1)) 1
upper_bits w i h =
    let e = power_of_two-half i h in
    let d : w / 2 ^ i ≡ w / 2 ^ (i - 1) / 2 = rw e (sym (div-div-eq-div-mul w (2 ^ (i - 1)) 2)) in
    let b = shr_and_one w (i - 1) in
    omega arith

exponent_step : (m k w i : ℕ) → 0 < k → 0 < i →
    m * 2 ^ k + w / 2 ^ (i - 1) ≡ ((m * 2 ^ (k - 1) + w / 2 ^ i) + (m * 2 ^ (k - 1) + w / 2 ^ i)) + bit_and (w / 2 ^ (i - 1)) 1
exponent_step m k w i h h' =
    let e = ap (λ v. m * v) (power_of_two-half k h) in
    let t = upper_bits w i h' in
    omega arith

-- what the run over the bits of w keeps, once the bits from the i-th up are taken: a first value that is the m-th power has become
-- the power by m, followed by these bits
abbrev pub TakenTo : {A : Type 0} → (A → A → Type 0) → (ℕ → A) → A → ℕ → A → ℕ → Type 0
TakenTo same power_by first w acc i = (m k : ℕ) → same first (power_by m) → k + i ≡ 64 → same acc (power_by (m * 2 ^ k + w / 2 ^ i))

module _ {A : Type 0} {same : A → A → Type 0} {one : A} {product : A → A → A} (E : IsEquality same) (M : IsMonoid same one product) where
  pub power-add : (a : A) (m n : ℕ) → same (power one product a (m + n)) (product (power one product a m) (power one product a n))
  power-add a m zero =
      rw (add-zero, power-zero one product a) (grw (E.transitive, E.reflexive, E.symmetric _ _ (M.identity (power one product a m)), M.commutative one (power one product a m)))
  power-add a m (suc n) =
      rw (add-suc, power-suc one product a (m + n), power-suc one product a n)
      (grw (E.transitive, E.reflexive, M.respects, power-add a m n, M.associative (power one product a m) (power one product a n) a))

  -- one is its own square
  pub one-square : (a : A) → same a one → same a (product a a)
  one-square a h = E.symmetric _ _ (E.transitive _ _ _ (M.respects _ _ _ _ h (E.reflexive a)) (M.identity a))

  -- one more bit that is zero, and one that is one
  pub TakenTo-zero : {first acc acc' : A} (a : A) (w i : ℕ) → 0 < i → i ≤ 64 → (bit_and (w / 2 ^ (i - 1)) 1 ≡ 1 → ⊥)
      → TakenTo same (power one product a) first w acc i → same acc' (product acc acc) → TakenTo same (power one product a) first w acc' (i - 1)
  TakenTo-zero {first} {acc} {acc'} a w i low high bit taken h m k f e =
      let n = m * 2 ^ (k - 1) + w / 2 ^ i in
      let r : same acc (power one product a n) = taken m (k - 1) f (omega arith) in
      let b : bit_and (w / 2 ^ (i - 1)) 1 ≡ 0 = omega (arith, shr_and_one w (i - 1)) in
      let v : m * 2 ^ k + w / 2 ^ (i - 1) ≡ n + n = omega (arith, exponent_step m k w i (omega arith) low) in
      rw v (grw (E.transitive, E.reflexive, M.respects, h, r, r) (E.symmetric _ _ (power-add a n n)))

  pub TakenTo-one : {first acc acc' acc'' : A} (a : A) (w i : ℕ) → 0 < i → i ≤ 64 → bit_and (w / 2 ^ (i - 1)) 1 ≡ 1
      → TakenTo same (power one product a) first w acc i → same acc' (product acc acc) → same acc'' (product acc' a) → TakenTo same (power one product a) first w acc'' (i - 1)
  TakenTo-one {first} {acc} {acc'} {acc''} a w i low high bit taken h h' m k f e =
      let n = m * 2 ^ (k - 1) + w / 2 ^ i in
      let r : same acc (power one product a n) = taken m (k - 1) f (omega arith) in
      let v : m * 2 ^ k + w / 2 ^ (i - 1) ≡ suc (n + n) = omega (arith, exponent_step m k w i (omega arith) low) in
      rw (v, power-suc one product a (n + n)) (grw (E.transitive, E.reflexive, M.respects, h', h, r, r, E.symmetric _ _ (power-add a n n)))

  -- after all bits of the word, it is one limb more
  pub TakenTo-limb : {first acc : A} (a : A) (w i : ℕ) → i ≤ 0 → (limbs : List (Bor ℕ)) (limb : Bor ℕ) → limb.now ≡ w
      → same first (power one product a (number_of_limbs (reverse (map (λ b. b.now) limbs))))
      → TakenTo same (power one product a) first w acc i → same acc (power one product a (number_of_limbs (reverse (map (λ b. b.now) (limbs ++ (limb ∷ []))))))
  TakenTo-limb {first} {acc} a w i h limbs limb e f taken =
      rw (map-append, reverse-append)
      (let z : i ≡ 0 = omega arith in
      let n = number_of_limbs (reverse (map (λ (b : Bor ℕ). b.now) limbs)) in
      let v : n * 2 ^ 64 + w / 2 ^ i ≡ limb.now + 2 ^ 64 * n = rw z (omega arith) in
      rw v at (taken n 64 f (omega arith)))
