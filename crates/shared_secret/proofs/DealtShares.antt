-- Shares of one deal: their points differ, any t of them combine to the secret, and the commitment verifies them.
use Rattle.std.proofs.Common.{◌≡◌, ◌∙◌, ℕ, ◌+◌, ◌-◌, ◌<◌, ◌≤◌, List, [], ◌∷◌, length, map, get_or, inl, inr, sym, ap, subst, arith}
use Rattle.std.specs.List.{All, AllZip, Contains}
use Rattle.std.proofs.lemmas.Bool.{cases_lt}
use Rattle.std.proofs.lemmas.List.{get_or-map, length-map}
use Rattle.std.proofs.lemmas.List.Elements.{All-head, All-tail}
use Rattle.std.proofs.lemmas.List.FromFn.{length-range_with_len, get_or-range_with_len}
use Rattle.std.proofs.lemmas.Option.{get_or_from_slice_get}
use Rattle.math_theory.specs.Laws.{IsEquality, IsGroup, IsProduct, IsRing, IsModule}
use Rattle.math_theory.specs.ModuleLaws.{ring_is_module}
use Rattle.math_theory.specs.Sums.{weighted_sum}
use Rattle.math_theory.proofs.polynomials.Horner.{value_over-at_zero}
use Rattle.math_theory.proofs.polynomials.ScaledPoint.{value_over-scaled_point}
use Rattle.math_base.specs.Members.{RingOf, SpaceOf, value}
use Rattle.math_base.specs.Polynomials.{value_in_ring}
use Rattle.math_poly.proofs.InterpolatedValues.{interpolated-value}
use Rattle.shared_secret.specs.declared.shares.Share.{Share}
use Rattle.shared_secret.specs.Shares.{point, points, values, AreSharesOf, HasZeroPoint, AreDealt, IsCombined}
use Rattle.shared_secret.specs.ShareLaws.{AnySharesCombine, DealtAreVerified, VerifiedGiveCommitted}
use Rattle.shared_secret.proofs.IndexPoints.{multiples_differ}

-- what is same as a function of the point of each share is so place by place
alike_by_place : {A C : Type 0} (R : RingOf A) (same : C → C → Type 0) (f : Share A → C) (g : A → C) (shares : List (Share A)) → All (λ s. same (f s) (g (point R s.index))) shares
    → AllZip same (map f shares) (map g (points R shares))
alike_by_place R same f g [] h = tt
alike_by_place R same f g (s ∷ shares) h = (All-head (λ u. same (f u) (g (point R u.index))) s shares h, alike_by_place R same f g shares (All-tail (λ u. same (f u) (g (point R u.index))) s shares h))

module _ {A : Type 0} (R : RingOf A) (E : IsEquality R.same) (G : IsGroup R.same R.zero R.sum R.negative) (P : IsProduct R.same R.product) (L : IsRing R.same R.sum R.product R.one) where
  -- what the values of one polynomial combine to is its value at zero
  pub combined-constant : (p : List A) (shares : List (Share A)) (answer : A) → length p ≤ length shares → AreSharesOf R p shares → IsCombined R shares answer
      → R.same answer (value_in_ring R p R.zero)
  combined-constant p shares answer l h C =
      interpolated-value E G P L E G (ring_is_module E G P L) answer (values shares) C.weights C.sum R.zero (points R shares) p C.give (omega (arith, l, length-map shares (λ s. point R s.index)))
      (alike_by_place R R.same (λ s. s.value) (λ x. value_in_ring R p x) shares h)

  -- a share of a deal: its index is one of 1 to n, and its value that of the polynomial
  dealt_share : (n : ℕ) (p : List A) (dealt : List (Share A)) → AreDealt R n p dealt → (s : Share A) → Contains dealt s
      → (0 < s.index) × (s.index ≤ n) × R.same s.value (value_in_ring R p (point R s.index))
  dealt_share n p dealt D s (k, l, e) =
      let count : length dealt ≡ n = sym (length-map dealt (λ u. u.index)) ∙ ap length D.indices ∙ length-range_with_len 1 n in
      let below : k < n = omega (arith, l, count) in
      let at : s.index ≡ 1 + k =
      ap (λ u. u.index) (sym e) ∙ sym (get_or-map (λ u. u.index) dealt k s 0 l) ∙ ap (λ is. get_or is k 0) D.indices ∙ get_or-range_with_len 1 n k 0 below in
      (omega (arith, at), omega (arith, at, below), subst (λ u. R.same u.value (value_in_ring R p (point R u.index))) e (D.values k s l))

  points_differ : (n i j : ℕ) → ¬ (HasZeroPoint R n) → i < j → j ≤ n → ¬ (R.same (point R i) (point R j))
  points_differ n i j nonzero l m s = nonzero (j - i, omega arith, omega arith, multiples_differ E G R.one i j l s)

  pub any_combine : AnySharesCombine R
  any_combine t n p secret dealt shares count constant D chosen indices enough =
      let of_deal : (k : ℕ) (d : Share A) → k < length shares
      → (0 < (get_or shares k d).index) × ((get_or shares k d).index ≤ n) × R.same (get_or shares k d).value (value_in_ring R p (point R (get_or shares k d).index)) =
      λ k d l. dealt_share n p dealt D (get_or shares k d) (chosen k d l) in (
        record {
          enough = enough;
          nonzero = λ h.
              let d : Share A = record { index = 0; value = h.1 } in
              let s = of_deal h.0 d h.2 in
              D.points ((get_or shares h.0 d).index, s.0, s.1, subst (λ x. R.same x R.zero) (get_or-map (λ u. point R u.index) shares h.0 d h.1 h.2) h.3);
          apart = λ i j x l m h.
              let d : Share A = record { index = 0; value = x } in
              let below : j < length shares = omega (arith, m, length-map shares (λ u. point R u.index)) in
              let s = get_or shares i d in
              let u = get_or shares j d in
              let same : R.same (point R s.index) (point R u.index) =
              subst (λ y. R.same y (point R u.index)) (get_or-map (λ v. point R v.index) shares i d x (omega (arith, l, below)))
              (subst (λ y. R.same (get_or (points R shares) i x) y) (get_or-map (λ v. point R v.index) shares j d x below) h) in
              elim (cases_lt s.index u.index) [
                | inl less ↦ points_differ n s.index u.index D.points less (of_deal j d below).1 same
                | inr not_less ↦ elim (cases_lt u.index s.index) [
                  | inl less ↦ points_differ n u.index s.index D.points less (of_deal i d (omega (arith, l, below))).1 (E.symmetric _ _ same)
                  | inr not_more ↦ indices i j d l below (omega (arith, not_less, not_more))
                ]
              ];
        },
        λ answer C.
            let first : get_or p 0 R.zero ≡ secret = get_or_from_slice_get p 0 secret R.zero constant in
            subst (λ c. R.same answer c) first
            (E.transitive _ _ _ (combined-constant p shares answer (omega (arith, count, enough)) (λ k d l. (of_deal k d l).2) C) (value_over-at_zero E G (ring_is_module E G P L) p)),
      )

  module _ {B : Type 0} (S : SpaceOf B A) (Es : IsEquality S.same) (Gs : IsGroup S.same S.zero S.sum S.negative)
      (M : IsModule S.same S.zero S.sum S.scaling R.same R.zero R.sum R.product R.one) (generator : B) where
    pub dealt_verified : DealtAreVerified S R generator
    dealt_verified n p dealt commitment D h k d l =
        let s = get_or dealt k d in
        Es.transitive _ _ _ (M.respects_scalars generator s.value _ (D.values k d l)) (Es.symmetric _ _ (value_over-scaled_point Es Gs M generator (point R s.index) p commitment h))

    -- the weighted sum of the generator scaled by each value is the generator scaled by that of the values
    weighted_sum-scaled_values : (shares : List (Share A)) (weights : List A)
        → S.same (weighted_sum S.zero S.sum S.scaling (map (λ s. S.scaling generator s.value) shares) weights) (S.scaling generator (weighted_sum R.zero R.sum R.product (values shares) weights))
    weighted_sum-scaled_values [] weights = Es.symmetric _ _ (M.annihilation generator)
    weighted_sum-scaled_values (s ∷ shares) [] = Es.symmetric _ _ (M.annihilation generator)
    weighted_sum-scaled_values (s ∷ shares) (w ∷ weights) =
        Es.transitive _ _ _ (Gs.respects_sum _ _ _ _ (M.product_of_scalars generator s.value w) (weighted_sum-scaled_values shares weights))
        (Es.symmetric _ _ (M.sum_of_scalars generator (R.product s.value w) (weighted_sum R.zero R.sum R.product (values shares) weights)))

    pub verified_committed : VerifiedGiveCommitted S R generator
    verified_committed commitment shares answer l h C =
        let scaled : S.same (S.scaling generator answer) (weighted_sum S.zero S.sum S.scaling (map (λ s. S.scaling generator s.value) shares) C.weights) =
        Es.transitive _ _ _ (M.respects_scalars generator answer _ C.sum) (Es.symmetric _ _ (weighted_sum-scaled_values shares C.weights)) in
        Es.transitive _ _ _
        (interpolated-value E G P L Es Gs M (S.scaling generator answer) (map (λ s. S.scaling generator s.value) shares) C.weights scaled R.zero (points R shares) commitment C.give
        (omega (arith, l, length-map shares (λ s. point R s.index)))
        (alike_by_place R S.same (λ s. S.scaling generator s.value) (λ x. value S R commitment x) shares h))
        (value_over-at_zero Es Gs M commitment)
