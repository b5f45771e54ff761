-- Changes of the shares of deals change the elements that they give by what does not depend on the deal.
use Rattle.std.proofs.Common.{◌≡◌, ◌≢◌, ◌∙◌, ℕ, zero, suc, ◌+◌, ◌<◌, ◌≤◌, ◌^◌, List, [], ◌∷◌, ◌++◌, eqb, false, length, get_or, map, refl, sym, ap, ap₂, subst, arith}
use Rattle.std.specs.List.{All, AllPairs, AllZip, Contains}
use Rattle.std.proofs.lemmas.Bool.{ne_eqb}
use Rattle.std.proofs.lemmas.List.{append_assoc, append-nil, ext_get_or, get_or-map, length-map}
use Rattle.std.proofs.lemmas.List.Elements.{All-contains, All-head, All-nil, All-push, All-tail}
use Rattle.std.proofs.lemmas.Option.{get_or_from_slice_get, slice_get_within}
use Rattle.math_theory.specs.Interpolation.{AreApart}
use Rattle.math_theory.specs.OverRing as OverRing
use Rattle.math_theory.specs.Rings.{CommutativeRing}
use Rattle.math_theory.proofs.classes.Classes.{Class, class, same_class, ring_of_classes}
use Rattle.math_theory.proofs.classes.ClassesOfLists.{value-class}
use Rattle.math_theory.proofs.classes.ClassesOfProducts.{polynomial_difference-class}
use Rattle.math_theory.proofs.classes.RingUpToSame.{combine_same, ring_same}
use Rattle.math_theory.proofs.polynomials.Coefficients.{length-difference}
use Rattle.math_theory.proofs.polynomials.Values.{value-difference}
use Rattle.math_theory.proofs.rings.Normal.{◌⊕◌, ◌⊖◌, 𝟙, v0, v1, v2}
use Rattle.math_fields.specs.declared.goldilocks.F.{F}
use Rattle.math_fields.specs.ElementLaws.{commutes, equality, group, ring}
use Rattle.math_fields.specs.Elements.{negative, residue, same, sum, goldilocks}
use Rattle.math_base.specs.Polynomials.{value_in_ring}
use Rattle.math_fields.proofs.ElementNumbers.{same_number}
use Rattle.math_decoding.specs.Polynomials.{difference}
use Rattle.shared_secret.specs.declared.shares.Share.{Share}
use Rattle.shared_secret.specs.CorrectedShares.{AreSharesWithinRadius}
use Rattle.shared_secret.specs.Shares.{point, points, values}
use Rattle.secret_bytes.specs.declared.share.SecretShare.{SecretShare}
use Rattle.secret_bytes.specs.Columns.{column, share_of}
use Rattle.secret_bytes.specs.Combined.{AreElementsOfShares}
use Rattle.secret_bytes.specs.CombiningLaws.{ChangesPassRarely, IsChanged, PassesChanged}
use Rattle.secret_bytes.specs.Deals.{IsOfDeal}
use Rattle.secret_bytes.specs.KeyChecks.{added}
use Rattle.secret_bytes.specs.Keyed.{element_count}
use Rattle.secret_bytes.specs.Settled.{firsts, firsts_after, has_index}
use Rattle.secret_bytes.proofs.AnyShares.{constant-at_zero, number_of-index, sampled-at}
use Rattle.secret_bytes.proofs.DealtRows.{sampled-count}
use Rattle.secret_bytes.proofs.ElementPoints.{points_apart, values-same, within-once}
use Rattle.secret_bytes.proofs.PackedAlone.{keyed-length}
use Rattle.secret_bytes.proofs.RarePasses.{PassesAsOther, few-passes}

-- the value of a difference
value-less : (x : F) (p q : List F) → same (value_in_ring goldilocks (difference goldilocks p q) x) (sum (value_in_ring goldilocks p x) (negative (value_in_ring goldilocks q x)))
value-less x p q =
    same_class equality _ _
    (sym (value-class equality group commutes ring x (difference goldilocks p q))
    ∙ ap (OverRing.value C (class equality x)) (sym (polynomial_difference-class equality group commutes ring p q))
    ∙ value-difference C (class equality x) (map (class equality) p) (map (class equality) q)
    ∙ ap₂ (λ a b. C.sum a (C.negative b)) (value-class equality group commutes ring x p) (value-class equality group commutes ring x q))
  where
    C : CommutativeRing (Class equality)
    C = ring_of_classes equality group commutes ring

-- a change as a share of element j
abbrev change_of : ℕ → ℕ × List F → Share F
change_of j c = record { index = c.0; value = get_or c.1 j (residue 0) }

abbrev changed_column : ℕ → List (ℕ × List F) → List (Share F)
changed_column j changes = map (change_of j) changes

-- where no two shares have one index, the firsts are all of them
firsts-of : (kept shares : List SecretShare) → All (λ s. All (λ u. u.index ≢ s.index) kept) shares → AllPairs (λ s u. s.index ≢ u.index) shares → firsts_after kept shares ≡ kept ++ shares
firsts-of kept [] h k = sym (append-nil kept)
firsts-of kept (s ∷ shares) h k =
    let none : has_index kept s.index ≡ false = no-index kept s.index (All-head (λ s. All (λ u. u.index ≢ s.index) kept) s shares h) in
    rw none
    (firsts-of (kept ++ (s ∷ [])) shares
    (λ i d l. All-push (λ (u : SecretShare). u.index ≢ (get_or shares i d).index) kept s (h (suc i) d (omega (arith, l))) (k 0 (suc i) d (omega arith) (omega (arith, l))))
    (λ i j d l m. k (suc i) (suc j) d (omega (arith, l)) (omega (arith, m)))
    ∙ append_assoc kept (s ∷ []) shares)
  where
    no-index : (kept : List SecretShare) (i : ℕ) → All (λ u. u.index ≢ i) kept → has_index kept i ≡ false
    no-index [] i h = refl
    no-index (u ∷ kept) i h =
        let other : eqb u.index i ≡ false = ne_eqb u.index i (All-head (λ (u : SecretShare). u.index ≢ i) u kept h) in
        rw other (no-index kept i (All-tail (λ (u : SecretShare). u.index ≢ i) u kept h))

-- what stands at one place of both lists
zip-at : {A B : Type 0} (R : A → B → Type 0) (xs : List A) (ys : List B) → AllZip R xs ys → (k : ℕ) (d : A) (e : B) → k < length xs → R (get_or xs k d) (get_or ys k e)
zip-at R [] ys h k d e l = absurd (omega (arith, l))
zip-at R (x ∷ xs) [] h k d e l = absurd h
zip-at R (x ∷ xs) (y ∷ ys) h zero d e l = h.0
zip-at R (x ∷ xs) (y ∷ ys) h (suc k) d e l = zip-at R xs ys h.1 k d e (omega (arith, l))

zip-count : {A B : Type 0} (R : A → B → Type 0) (xs : List A) (ys : List B) → AllZip R xs ys → length xs ≡ length ys
zip-count R [] [] h = refl
zip-count R [] (y ∷ ys) h = absurd h
zip-count R (x ∷ xs) [] h = absurd h
zip-count R (x ∷ xs) (y ∷ ys) h = ap suc (zip-count R xs ys h.1)

added-count : (us cs : List F) → length (added sum us cs) ≡ length us
added-count [] cs = refl
added-count (u ∷ us) [] = refl
added-count (u ∷ us) (c ∷ cs) = ap suc (added-count us cs)

nothing-more : (u : F) → same u (sum u (residue 0))
nothing-more u = equality.symmetric (sum u (residue 0)) u (equality.transitive (sum u (residue 0)) (sum (residue 0) u) u (group.commutative u (residue 0)) (group.identity u))

added-value : (us cs : List F) (j : ℕ) → j < length us → same (get_or (added sum us cs) j (residue 0)) (sum (get_or us j (residue 0)) (get_or cs j (residue 0)))
added-value [] cs j l = absurd (omega (arith, l))
added-value (u ∷ us) [] j l = nothing-more (get_or (u ∷ us) j (residue 0))
added-value (u ∷ us) (c ∷ cs) zero l = equality.reflexive (sum u c)
added-value (u ∷ us) (c ∷ cs) (suc j) l = added-value us cs j (omega (arith, l))

-- the differences of two lists, place by place
less : List F → List F → List F
less [] ys = []
less (x ∷ xs) [] = []
less (x ∷ xs) (y ∷ ys) = sum x (negative y) ∷ less xs ys

less-count : (xs ys : List F) → length xs ≡ length ys → length (less xs ys) ≡ length ys
unfolding less
less-count [] [] e = refl
less-count [] (y ∷ ys) e = absurd (omega (arith, e))
less-count (x ∷ xs) [] e = absurd (omega (arith, e))
less-count (x ∷ xs) (y ∷ ys) e = ap suc (less-count xs ys (omega (arith, e)))

less-value : (xs ys : List F) (j : ℕ) → length xs ≡ length ys → j < length ys → get_or (less xs ys) j (residue 0) ≡ sum (get_or xs j (residue 0)) (negative (get_or ys j (residue 0)))
unfolding less
less-value [] ys j e l = absurd (omega (arith, e, l))
less-value (x ∷ xs) [] j e l = absurd (omega (arith, e))
less-value (x ∷ xs) (y ∷ ys) zero e l = refl
less-value (x ∷ xs) (y ∷ ys) (suc j) e l = less-value xs ys j (omega (arith, e)) (omega (arith, l))

-- of a sum one summand is left
left-over : (v q p s u c : F) → same v (sum q (negative p)) → same q s → same p u → same s (sum u c) → same v c
left-over v q p s u c h a b e =
    let plain : same (sum (sum u c) (negative u)) c = ring_same equality group commutes ring (u ∷ c ∷ []) ((v0 ⊕ v1) ⊖ v0) v1 refl in
    equality.transitive v (sum q (negative p)) c h
    (equality.transitive (sum q (negative p)) (sum (sum u c) (negative u)) c
    (group.respects_sum q (sum u c) (negative p) (negative u) (equality.transitive q s (sum u c) a e) (group.respects_negative p u b)) plain)

module _ (bytes : List ℕ) (t n : ℕ) (changes : List (ℕ × List F)) (some : 0 < t) (small : n < 2 ^ 32) (apart : AllPairs (λ c d. c.0 ≢ d.0) changes) (key : F) (p : PassesChanged bytes t n changes key) where
  count : length p.shares ≡ length changes
  count = zip-count (IsChanged p.dealt) p.shares changes p.changed

  none : ℕ × List F
  none = (0, [])

  one : (k : ℕ) (d : SecretShare) → k < length p.shares → IsChanged p.dealt (get_or p.shares k d) (get_or changes k none)
  one k d l = zip-at (IsChanged p.dealt) p.shares changes p.changed k d none l

  of_deal : (s : SecretShare) → Contains p.dealt s → IsOfDeal t p.deal.deal (length p.deal.all) s
  of_deal s h = All-contains (IsOfDeal t p.deal.deal (length p.deal.all)) p.dealt s p.deal.alike h

  -- the index of each share is that of its change
  index-of : (k : ℕ) (d : SecretShare) → k < length p.shares → (get_or p.shares k d).index ≡ (get_or changes k none).0
  index-of k d l = let o = one k d l in o.index ∙ sym o.same_index

  indices-apart : AllPairs (λ s u. s.index ≢ u.index) p.shares
  indices-apart i j d l m e =
      apart i j none l (omega (arith, m, count)) (sym (index-of i d (omega (arith, l, m))) ∙ e ∙ index-of j d m)

  indices-small : All (λ s. s.index < 2 ^ 32) p.shares
  indices-small k d l =
      let o = one k d l in
      let i = number_of-index bytes t n p.before p.after p.dealt p.deal o.one_of.0 o.before o.one_of.1 o.one_of.2 in
      omega (arith, o.index, i.0, i.1, small)

  kept : firsts p.shares ≡ p.shares
  kept = firsts-of [] p.shares (λ k d l. All-nil (λ (u : SecretShare). u.index ≢ (get_or p.shares k d).index)) indices-apart

  first-is : get_or p.shares 0 p.combined.first ≡ p.combined.first
  first-is = get_or_from_slice_get p.shares 0 p.combined.first p.combined.first p.combined.of_deal.first_is

  first-one : IsChanged p.dealt p.combined.first (get_or changes 0 none)
  first-one = subst (λ (s : SecretShare). IsChanged p.dealt s (get_or changes 0 none)) first-is (one 0 p.combined.first (slice_get_within p.shares 0 p.combined.first p.combined.of_deal.first_is))

  pub recovered : AreElementsOfShares t (length p.deal.all) p.shares p.combined.all p.wrong
  recovered =
      let o = first-one in
      let d = of_deal o.before o.one_of in
      let threshold : p.combined.first.threshold ≡ t = o.threshold ∙ d.threshold in
      let width : length p.combined.first.values.items ≡ length p.deal.all = ap length o.values ∙ added-count o.before.values.items (get_or changes 0 none).1 ∙ d.count in
      subst (λ (ss : List SecretShare). AreElementsOfShares t (length p.deal.all) ss p.combined.all p.wrong) kept
      (subst (λ (w : ℕ). AreElementsOfShares t w (firsts p.shares) p.combined.all p.wrong) width
      (subst (λ (m : ℕ). AreElementsOfShares m (length p.combined.first.values.items) (firsts p.shares) p.combined.all p.wrong) threshold p.combined.recovered))

  pub width : length p.combined.all ≡ length p.deal.all
  width = recovered.count

  pub dealt-polynomial : ℕ → List F
  dealt-polynomial j = get_or p.deal.polynomials j []

  polynomial-count : length p.deal.polynomials ≡ length p.deal.all
  polynomial-count = sampled-count t p.deal.third p.after p.deal.all p.deal.polynomials p.deal.sampled

  -- the points of the shares and of the changes, and their values
  points-are : (j : ℕ) → points goldilocks (column j p.shares) ≡ points goldilocks (changed_column j changes)
  points-are j = along p.shares changes p.changed
    where
      along : (ss : List SecretShare) (cs : List (ℕ × List F)) → AllZip (IsChanged p.dealt) ss cs → points goldilocks (column j ss) ≡ points goldilocks (changed_column j cs)
      along [] [] h = refl
      along [] (c ∷ cs) h = absurd h
      along (s ∷ ss) [] h = absurd h
      along (s ∷ ss) (c ∷ cs) h = ap₂ (λ i rest. point goldilocks i ∷ rest) (h.0.index ∙ sym h.0.same_index) (along ss cs h.1)

  points-count : (j : ℕ) → length (points goldilocks (column j p.shares)) ≡ length p.shares
  points-count j = length-map (column j p.shares) (λ (v : Share F). point goldilocks v.index) ∙ length-map p.shares (share_of j)

  -- the polynomial that is decoded, less the dealt one, is within the radius of the changes
  pub moved : (j : ℕ) (l : j < length p.deal.all) → AreSharesWithinRadius goldilocks t (difference goldilocks (recovered.elements j l).polynomial (dealt-polynomial j)) (changed_column j changes)
  unfolding dealt-polynomial
  moved j l =
      let q = (recovered.elements j l).polynomial in
      let P = get_or p.deal.polynomials j [] in
      let within = (recovered.elements j l).within in
      let dealt = sampled-at t p.deal.third p.after p.deal.all p.deal.polynomials p.deal.sampled j (omega (arith, l, polynomial-count)) in (
        omega (arith, length-difference sum negative q P, within.0, dealt.0),
        within.1,
        subst (λ (xs : List F). length within.1 + length within.1 + t ≤ length xs) (points-are j) within.2,
        λ i m outside.
            let m_shares : i < length (points goldilocks (column j p.shares)) = omega (arith, m, ap length (points-are j)) in
            let below : i < length p.shares = omega (arith, m_shares, points-count j) in
            let d = p.combined.first in
            let s = get_or p.shares i d in
            let o = one i d below in
            let x = point goldilocks s.index in
            let x-share : get_or (points goldilocks (column j p.shares)) i (residue 0) ≡ x =
            get_or-map (λ (v : Share F). point goldilocks v.index) (column j p.shares) i (share_of j d) (residue 0) (omega (arith, below, length-map p.shares (share_of j)))
            ∙ ap (λ (v : Share F). point goldilocks v.index) (get_or-map (share_of j) p.shares i d (share_of j d) below) in
            let x-change : get_or (points goldilocks (changed_column j changes)) i (residue 0) ≡ x = ap (λ xs. get_or xs i (residue 0)) (sym (points-are j)) ∙ x-share in
            let s-value : get_or (values (column j p.shares)) i (residue 0) ≡ get_or s.values.items j (residue 0) =
            get_or-map (λ (v : Share F). v.value) (column j p.shares) i (share_of j d) (residue 0) (omega (arith, below, length-map p.shares (share_of j)))
            ∙ ap (λ (v : Share F). v.value) (get_or-map (share_of j) p.shares i d (share_of j d) below) in
            let c = get_or changes i none in
            let c-value : get_or (values (changed_column j changes)) i (residue 0) ≡ get_or c.1 j (residue 0) =
            get_or-map (λ (v : Share F). v.value) (changed_column j changes) i (change_of j none) (residue 0)
            (omega (arith, below, count, length-map changes (change_of j)))
            ∙ ap (λ (v : Share F). v.value)
            (get_or-map (change_of j) changes i none (change_of j none) (omega (arith, below, count))) in
            let at_q : same (value_in_ring goldilocks q x) (get_or s.values.items j (residue 0)) =
            subst (λ v. same (value_in_ring goldilocks q x) v) s-value (subst (λ y. same (value_in_ring goldilocks q y) (get_or (values (column j p.shares)) i (residue 0))) x-share (within.3 i m_shares outside)) in
            let at_dealt : same (get_or o.before.values.items j (residue 0)) (value_in_ring goldilocks P x) =
            subst (λ (i : ℕ). same (get_or o.before.values.items j (residue 0)) (value_in_ring goldilocks P (point goldilocks i))) (sym o.index) (dealt-value j l o.before o.one_of) in
            let changed_value : same (get_or s.values.items j (residue 0)) (sum (get_or o.before.values.items j (residue 0)) (get_or c.1 j (residue 0))) =
            subst (λ (xs : List F). same (get_or xs j (residue 0)) (sum (get_or o.before.values.items j (residue 0)) (get_or c.1 j (residue 0)))) (sym o.values)
            (added-value o.before.values.items c.1 j (omega (arith, l, (of_deal o.before o.one_of).count))) in
            let there : same (value_in_ring goldilocks (difference goldilocks q P) x) (get_or c.1 j (residue 0)) =
            left-over (value_in_ring goldilocks (difference goldilocks q P) x) (value_in_ring goldilocks q x) (value_in_ring goldilocks P x) (get_or s.values.items j (residue 0)) (get_or o.before.values.items j (residue 0)) (get_or c.1 j (residue 0)) (value-less x q P) at_q (equality.symmetric (get_or o.before.values.items j (residue 0)) (value_in_ring goldilocks P x) at_dealt) changed_value in
            subst (λ v. same (value_in_ring goldilocks (difference goldilocks q P) (get_or (points goldilocks (changed_column j changes)) i (residue 0))) v) (sym c-value)
            (subst (λ y. same (value_in_ring goldilocks (difference goldilocks q P) y) (get_or c.1 j (residue 0))) (sym x-change) there),
      )
    where
      dealt-value : (j : ℕ) → j < length p.deal.all → (s : SecretShare) → Contains p.dealt s → same (get_or s.values.items j (residue 0)) (value_in_ring goldilocks (get_or p.deal.polynomials j []) (point goldilocks s.index))
      dealt-value j l s c =
          let there : get_or (column j p.dealt) c.0 (share_of j s) ≡ share_of j s = get_or-map (share_of j) p.dealt c.0 s (share_of j s) c.1 ∙ ap (share_of j) c.2 in
          subst (λ (v : Share F). same v.value (value_in_ring goldilocks (get_or p.deal.polynomials j []) (point goldilocks v.index))) there
          ((p.deal.columns j (omega (arith, l, polynomial-count))).values c.0 (share_of j s) (omega (arith, c.1, length-map p.dealt (share_of j))))

  -- what is recovered, less what was dealt, is its value at zero
  pub gap-at : (j : ℕ) (l : j < length p.deal.all)
      → same (sum (get_or p.combined.all j (residue 0)) (negative (get_or p.deal.all j (residue 0)))) (value_in_ring goldilocks (difference goldilocks (recovered.elements j l).polynomial (dealt-polynomial j)) (residue 0))
  unfolding dealt-polynomial
  gap-at j l =
      let e = recovered.elements j l in
      let dealt = sampled-at t p.deal.third p.after p.deal.all p.deal.polynomials p.deal.sampled j (omega (arith, l, polynomial-count)) in
      let constant = constant-at_zero (get_or p.deal.polynomials j []) (get_or p.deal.all j (residue 0)) dealt.1 in
      let a = get_or p.combined.all j (residue 0) in
      let b = get_or p.deal.all j (residue 0) in
      let q = value_in_ring goldilocks e.polynomial (residue 0) in
      let r = value_in_ring goldilocks (get_or p.deal.polynomials j []) (residue 0) in
      let v = value_in_ring goldilocks (difference goldilocks e.polynomial (get_or p.deal.polynomials j [])) (residue 0) in
      equality.transitive (sum a (negative b)) (sum q (negative r)) v (group.respects_sum a q (negative b) (negative r) e.constant (group.respects_negative b r constant))
      (equality.symmetric v (sum q (negative r)) (value-less (residue 0) e.polynomial (get_or p.deal.polynomials j [])))

  pub apart-points : (j : ℕ) → AreApart same (points goldilocks (changed_column j changes))
  apart-points j = subst (AreApart same) (points-are j) (points_apart j p.shares indices-apart indices-small)

  pub enough : (j : ℕ) → t ≤ length (changed_column j changes)
  enough j = omega (arith, recovered.few, count, length-map changes (change_of j))

-- two such changes of the elements are one
one-gap : (bytes : List ℕ) (t n : ℕ) (changes : List (ℕ × List F)) (some : 0 < t) (small : n < 2 ^ 32) (apart : AllPairs (λ c d. c.0 ≢ d.0) changes) (a b : F)
    (p : PassesChanged bytes t n changes a) (q : PassesChanged bytes t n changes b) (j : ℕ) → j < length p.deal.all → j < length q.deal.all
    → same (sum (get_or p.combined.all j (residue 0)) (negative (get_or p.deal.all j (residue 0)))) (sum (get_or q.combined.all j (residue 0)) (negative (get_or q.deal.all j (residue 0))))
one-gap bytes t n changes some small apart a b p q j l m =
    let first = moved bytes t n changes some small apart a p j l in
    let second = moved bytes t n changes some small apart b q j m in
    let r = difference goldilocks ((recovered bytes t n changes some small apart a p).elements j l).polynomial (dealt-polynomial bytes t n changes some small apart a p j) in
    let s = difference goldilocks ((recovered bytes t n changes some small apart b q).elements j m).polynomial (dealt-polynomial bytes t n changes some small apart b q j) in
    let once = within-once t (changed_column j changes) s r (apart-points bytes t n changes some small apart a p j) (enough bytes t n changes some small apart a p j) second first in
    let v = value_in_ring goldilocks r (residue 0) in
    let w = value_in_ring goldilocks s (residue 0) in
    let x = sum (get_or p.combined.all j (residue 0)) (negative (get_or p.deal.all j (residue 0))) in
    let y = sum (get_or q.combined.all j (residue 0)) (negative (get_or q.deal.all j (residue 0))) in
    equality.transitive x v y (gap-at bytes t n changes some small apart a p j l) (equality.transitive v w y (values-same r s (residue 0) once) (equality.symmetric y w (gap-at bytes t n changes some small apart b q j m)))

width-of : (bytes : List ℕ) (t n : ℕ) (changes : List (ℕ × List F)) (key : F) (p : PassesChanged bytes t n changes key) → length p.deal.all ≡ element_count (length bytes)
width-of bytes t n changes key p = keyed-length p.deal.keyed.key bytes p.deal.all (p.deal.keyed, refl)

pub changes-pass-rarely : ChangesPassRarely
changes-pass-rarely bytes t n changes [] some small distinct apart h = omega arith
changes-pass-rarely bytes t n changes (x ∷ keys) some small distinct apart h = few-passes bytes ds (x ∷ keys) ds-count apart passes
  where
    p : PassesChanged bytes t n changes x
    p = All-head (PassesChanged bytes t n changes) x keys h

    ds : List F
    ds = less p.combined.all p.deal.all

    ds-count : length ds ≡ element_count (length bytes)
    ds-count = less-count p.combined.all p.deal.all (width bytes t n changes some small distinct x p) ∙ width-of bytes t n changes x p

    -- the elements that another key gives
    gap : (key : F) (q : PassesChanged bytes t n changes key) → q.combined.all ≡ added sum q.deal.all ds
    gap key q =
        ext_get_or (residue 0) q.combined.all (added sum q.deal.all ds) (width bytes t n changes some small distinct key q ∙ sym (added-count q.deal.all ds))
        (λ j l.
        let below : j < length q.deal.all = omega (arith, l, width bytes t n changes some small distinct key q) in
        let below_first : j < length p.deal.all = omega (arith, below, width-of bytes t n changes key q, width-of bytes t n changes x p) in
        let c = get_or q.combined.all j (residue 0) in
        let a = get_or q.deal.all j (residue 0) in
        let d = get_or ds j (residue 0) in
        let d-is : d ≡ sum (get_or p.combined.all j (residue 0)) (negative (get_or p.deal.all j (residue 0))) =
        less-value p.combined.all p.deal.all j (width bytes t n changes some small distinct x p) below_first in
        let same_gap : same (sum c (negative a)) d =
        subst (λ v. same (sum c (negative a)) v) (sym d-is) (one-gap bytes t n changes some small distinct key x q p j below below_first) in
        let back : same c (sum a d) = combine_same equality group commutes ring (c ∷ a ∷ d ∷ []) v0 (v1 ⊕ v2) 𝟙 (v0 ⊖ v1) v2 same_gap refl in
        same_number c (get_or (added sum q.deal.all ds) j (residue 0)) (equality.transitive c (sum a d) (get_or (added sum q.deal.all ds) j (residue 0)) back (equality.symmetric (get_or (added sum q.deal.all ds) j (residue 0)) (sum a d) (added-value q.deal.all ds j below))))

    passes : All (PassesAsOther bytes ds) (x ∷ keys)
    passes k d l =
        let q = h k d l in
        record { all = q.deal.all; keyed = (q.deal.keyed, q.keyed); shares = q.shares; found = q.found; wrong = q.wrong; combined = q.combined; changed = gap (get_or (x ∷ keys) k d) q; other = q.other }
