-- Multiples of one element: where two are same, that of the difference is zero.
use Rattle.std.proofs.Common.{◌≡◌, ℕ, ◌+◌, ◌-◌, ◌*◌, ◌^◌, ◌<◌, subst, arith}
use Rattle.math_theory.specs.Laws.{IsEquality, IsGroup, IsMonoid}
use Rattle.math_theory.specs.Powers.{multiple}
use Rattle.math_theory.proofs.polynomials.ValuesRespect.{power-respects}
use Rattle.math_base.proofs.SquareAndMultiply.{power-add}

module _ {A : Type 0} {same : A → A → Type 0} {zero_of : A} {sum : A → A → A} {negative : A → A} (E : IsEquality same) (G : IsGroup same zero_of sum negative) where
  sums : IsMonoid same zero_of sum
  sums = record { respects = G.respects_sum; commutative = G.commutative; associative = G.associative; identity = G.identity }

  cancelled : (a b : A) → same a (sum a b) → same b zero_of
  cancelled a b h =
      let left : same (sum (negative a) a) zero_of = E.transitive _ _ _ (G.commutative (negative a) a) (G.inverse a) in
      E.transitive _ _ _ (E.symmetric _ _ (G.identity b))
      (E.transitive _ _ _ (G.respects_sum _ _ _ _ (E.symmetric _ _ left) (E.reflexive b))
      (E.transitive _ _ _ (G.associative (negative a) a b)
      (E.transitive _ _ _ (G.respects_sum _ _ _ _ (E.reflexive (negative a)) (E.symmetric _ _ h)) left)))

  -- a multiple by one limb, of what is same as a
  pub multiple_by_limb : (a b c : A) (n : ℕ) → same b a → same c (multiple zero_of sum b (n + 2 ^ 64 * 0)) → same c (multiple zero_of sum a n)
  multiple_by_limb a b c n h k =
      let e : n + 2 ^ 64 * 0 ≡ n = omega arith in
      E.transitive _ _ _ (subst (λ m. same c (multiple zero_of sum b m)) e k)
      (power-respects E (record { respects = G.respects_sum; commutative = G.commutative; associative = G.associative }) zero_of b a h n)

  pub multiples_differ : (a : A) (i j : ℕ) → i < j → same (multiple zero_of sum a i) (multiple zero_of sum a j) → same (multiple zero_of sum a (j - i)) zero_of
  multiples_differ a i j l h =
      let e : i + (j - i) ≡ j = omega arith in
      cancelled (multiple zero_of sum a i) (multiple zero_of sum a (j - i))
      (E.transitive _ _ _ h (subst (λ m. same (multiple zero_of sum a m) (sum (multiple zero_of sum a i) (multiple zero_of sum a (j - i)))) e (power-add E sums a i (j - i))))
