-- What the first shares of a deal combine to is its secret.
use Rattle.std.proofs.Common.{◌≡◌, ◌∙◌, ℕ, ◌≤◌, List, Option, length, take, get_or, sym, ap, subst, arith}
use Rattle.std.proofs.lemmas.List.{length-take, length-map}
use Rattle.std.proofs.lemmas.List.Elements.{All-take}
use Rattle.std.proofs.lemmas.List.FromFn.{length-range_with_len}
use Rattle.std.proofs.lemmas.Option.{get_or_from_slice_get}
use Rattle.rand_core.specs.Stream.{Stream}
use Rattle.math_theory.specs.Laws.{IsEquality, IsGroup, IsProduct, IsRing}
use Rattle.math_theory.specs.ModuleLaws.{ring_is_module}
use Rattle.math_theory.proofs.polynomials.Horner.{value_over-at_zero}
use Rattle.math_base.specs.Members.{RingOf}
use Rattle.math_base.specs.Polynomials.{value_in_ring}
use Rattle.shared_secret.specs.declared.shares.Share.{Share}
use Rattle.shared_secret.specs.Shares.{point, AreDealt, AreSharesOf, IsSampled}

module _ {A : Type 0} (R : RingOf A) (E : IsEquality R.same) (G : IsGroup R.same R.zero R.sum R.negative) (P : IsProduct R.same R.product) (L : IsRing R.same R.sum R.product R.one) where
  -- what gives, for the first t of n shares, the constant of each polynomial of at most t coefficients that has them gives the secret
  pub first_shares : (sample : Stream → Option A × Stream) (secret answer : A) (t n : ℕ) (before after : Stream) (p : List A) (shares : List (Share A))
      → t ≤ n → IsSampled sample secret t before after p → AreDealt R n p shares
      → ((q : List A) → length q ≤ length (take t shares) → AreSharesOf R q (take t shares) → R.same answer (value_in_ring R q R.zero))
      → R.same answer secret
  first_shares sample secret answer t n before after p shares few S D gives =
      let count : length shares ≡ n = sym (length-map shares (λ u. u.index)) ∙ ap length D.indices ∙ length-range_with_len 1 n in
      let enough : length p ≤ length (take t shares) = omega (arith, few, S.count, count, length-take t shares) in
      let left = All-take (λ s. R.same s.value (value_in_ring R p (point R s.index))) t shares D.values in
      let first : get_or p 0 R.zero ≡ secret = get_or_from_slice_get p 0 secret R.zero S.constant in
      subst (λ c. R.same answer c) first (E.transitive _ _ _ (gives p enough left) (value_over-at_zero E G (ring_is_module E G P L) p))
