-- Which share is the first that can't be taken, and why: no two answers are due to the same shares.
use Rattle.std.proofs.Common.{◌≡◌, ◌∙◌, ℕ, ◌<◌, ◌≤◌, List, length, get_or, take, inl, inr, sym, ap, subst, arith}
use Rattle.std.specs.List.{All, AllZip}
use Rattle.std.proofs.lemmas.Bool.{cases_lt}
use Rattle.std.proofs.lemmas.List.{get_or-map, get_or-take, get_or_default, length-map, length-take-le, take-map}
use Rattle.std.proofs.lemmas.List.Elements.{AllZip-get_or, length_all_zip}
use Rattle.math_theory.specs.Interpolation.{AreApart, IsFirstPlace}
use Rattle.math_theory.specs.Laws.{IsEquality, IsGroup}
use Rattle.math_base.specs.Members.{RingOf}
use Rattle.shared_secret.specs.declared.shares.Share.{Share}
use Rattle.shared_secret.specs.Shares.{point, points, AreAtDistinctPoints, IsZeroFirst, IsRepeatedFirst}
use Rattle.shared_secret.specs.ShareLaws.{RefusalsExclude}
use Rattle.shared_secret.proofs.CombinedShares.{alike_points, combinable}

module _ {A : Type 0} (R : RingOf A) (E : IsEquality R.same) (G : IsGroup R.same R.zero R.sum R.negative) where
  -- point k of the first n shares is that of all
  taken : (shares : List (Share A)) (n k : ℕ) (x : A) → k < n → get_or (points R (take n shares)) k x ≡ get_or (points R shares) k x
  taken shares n k x l = ap (λ xs. get_or xs k x) (sym (take-map (λ s. point R s.index) n shares)) ∙ get_or-take n (points R shares) k x l

  point-count : (shares : List (Share A)) (n : ℕ) → n ≤ length shares → length (points R (take n shares)) ≡ n
  point-count shares n l = length-map (take n shares) (λ s. point R s.index) ∙ length-take-le n shares l

  -- a point before place n that is zero, or that of one before it, is among the first n
  no-zero : (shares : List (Share A)) (n k : ℕ) (x : A) → k < n → n ≤ length shares → AreAtDistinctPoints R (take n shares) → ¬ (R.same (get_or (points R shares) k x) R.zero)
  no-zero shares n k x l m h s =
      h.0 (k, x, omega (arith, l, length-take-le n shares m), subst (λ y. R.same y R.zero) (sym (taken shares n k x l)) s)

  no-repeated : (shares : List (Share A)) (n i k : ℕ) (x : A) → i < k → k < n → n ≤ length shares → AreAtDistinctPoints R (take n shares)
      → ¬ (R.same (get_or (points R shares) i x) (get_or (points R shares) k x))
  no-repeated shares n i k x l m o h s =
      h.1 i k x l (omega (arith, m, point-count shares n o))
      (subst (λ y. R.same y (get_or (points R (take n shares)) k x)) (sym (taken shares n i x (omega (arith, l, m))))
      (subst (λ y. R.same (get_or (points R shares) i x) y) (sym (taken shares n k x m)) s))

  pub exclude : RefusalsExclude R
  exclude shares = (
    λ h z. h.0 (z.0, z.1, z.2, z.4),
    λ h r. h.1 r.5.0 r.0 r.1 r.5.1 (omega (arith, r.2, length-map shares (λ s. point R s.index))) r.5.2,
    λ z r. elim (cases_lt z.0 r.0) [
      | inl l ↦ no-zero shares r.0 z.0 z.1 l (omega (arith, r.2)) r.3 z.4
      | inr m ↦ elim (cases_lt r.0 z.0) [
        | inl l ↦ no-repeated shares z.0 r.5.0 r.0 r.1 r.5.1 l (omega (arith, z.2)) z.3 r.5.2
        | inr n ↦
            let e : z.0 ≡ r.0 = omega (arith, m, n) in
            r.4 (subst (λ k. R.same (get_or (points R shares) k r.1) R.zero) e
            (subst (λ y. R.same y R.zero) (get_or_default (points R shares) z.0 z.1 r.1 (omega (arith, z.2, length-map shares (λ s. point R s.index)))) z.4))
      ]
    ],
  )

  -- the points of the shares so far
  abbrev ArePointsOf : List (Share A) → List A → Type 0
  ArePointsOf shares xs = AllZip (λ share x. R.same x (point R share.index)) shares xs

  distinct : (shares : List (Share A)) (xs : List A) → ArePointsOf shares xs → All (λ x. ¬ (R.same x R.zero)) xs → AreApart R.same xs → AreAtDistinctPoints R shares
  distinct shares xs h nonzero apart = let c = combinable R E G 0 shares xs (omega arith) h nonzero apart in (c.nonzero, c.apart)

  at_place : (shares : List (Share A)) (i : ℕ) (s : Share A) (x : A) → i < length shares → s ≡ get_or shares i s → get_or (points R shares) i x ≡ point R s.index
  at_place shares i s x l at = get_or-map (λ u. point R u.index) shares i s x l ∙ ap (λ u. point R u.index) (sym at)

  pub zero_first : (shares : List (Share A)) (i : ℕ) (s : Share A) (xs : List A) → i < length shares → s ≡ get_or shares i s
      → ArePointsOf (take i shares) xs → All (λ x. ¬ (R.same x R.zero)) xs → AreApart R.same xs → R.same (point R s.index) R.zero → IsZeroFirst R shares
  zero_first shares i s xs l at h nonzero apart z =
      let x = point R s.index in
      (i, x, l, distinct (take i shares) xs h nonzero apart, subst (λ y. R.same y R.zero) (sym (at_place shares i s x l at)) z)

  pub repeated_first : (shares : List (Share A)) (i : ℕ) (s : Share A) (x : A) (xs : List A) (k : ℕ) → i < length shares → s ≡ get_or shares i s → R.same x (point R s.index)
      → ArePointsOf (take i shares) xs → All (λ x. ¬ (R.same x R.zero)) xs → AreApart R.same xs → ¬ (R.same x R.zero) → IsFirstPlace R.same x xs k → IsRepeatedFirst R shares
  repeated_first shares i s x xs k l at p h nonzero apart z first =
      let alike = alike_points R E G (take i shares) xs h in
      let below : k < i = omega (arith, first.0, length_all_zip R.same xs (points R (take i shares)) alike, point-count shares i (omega (arith, l))) in
      let here : R.same x (get_or (points R shares) i x) = subst (λ y. R.same x y) (sym (at_place shares i s x l at)) p in
      let there : R.same (get_or xs k x) (get_or (points R shares) k x) =
      subst (λ y. R.same (get_or xs k x) y) (taken shares i k x below) (AllZip-get_or R.same xs (points R (take i shares)) k x x alike first.0) in (
        i,
        x,
        l,
        distinct (take i shares) xs h nonzero apart,
        λ s. z (E.transitive _ _ _ here s),
        (k, below, E.transitive _ _ _ (E.symmetric _ _ there) (E.transitive _ _ _ first.1 here)),
      )
