-- Shares of a deal of bytes: they stand with one another, and their elements are those that were dealt.
use Rattle.std.proofs.Common.{◌≡◌, ◌∙◌, ℕ, zero, suc, ◌+◌, ◌<◌, ◌≤◌, ◌^◌, List, [], ◌∷◌, length, take, get_or, slice_get, Some, refl, sym, ap, ap₂, subst, arith}
use Rattle.std.specs.List.{All, AllZip, Contains}
use Rattle.std.proofs.lemmas.List.{ext_get_or, get_or-map, get_or_default, length-map, nil_from_length}
use Rattle.std.proofs.lemmas.List.Elements.{All-contains, All-nil, All-take}
use Rattle.std.proofs.lemmas.List.FromFn.{get_or-range_with_len, length-range_with_len}
use Rattle.std.proofs.lemmas.Option.{get_or_from_slice_get, slice_get_within}
use Rattle.rand_core.specs.Stream.{Stream}
use Rattle.math_theory.specs.ModuleLaws.{ring_is_module}
use Rattle.math_theory.proofs.polynomials.Horner.{value_over-at_zero}
use Rattle.math_theory.specs.Interpolation.{AreApart}
use Rattle.math_fields.specs.declared.goldilocks.F.{F}
use Rattle.math_fields.specs.ElementLaws.{commutes, equality, group, ring}
use Rattle.math_fields.specs.Elements.{number, residue, same, goldilocks}
use Rattle.math_base.specs.Polynomials.{value_in_ring}
use Rattle.math_fields.proofs.ElementNumbers.{same_number}
use Rattle.secret_bytes.specs.declared.share.SecretShare.{SecretShare}
use Rattle.secret_bytes.specs.SecretShares.{AreSameShares}
use Rattle.shared_secret.specs.declared.shares.Share.{Share}
use Rattle.shared_secret.specs.CorrectedShares.{AreSharesWithinRadius}
use Rattle.shared_secret.specs.Shares.{point, points}
use Rattle.secret_bytes.specs.Columns.{column, share_of}
use Rattle.secret_bytes.specs.Combined.{AreCombined, AreElementsOfShares, FitsShare, IsDueCombining, IsWrong, others}
use Rattle.secret_bytes.specs.CombiningLaws.{AnySharesOfBytesCombine, IsMemory, IsSameAsOne}
use Rattle.secret_bytes.specs.Deals.{AreDealtBytes, AreSampled, IsOfDeal}
use Rattle.secret_bytes.specs.Keyed.{AreKeyed}
use Rattle.secret_bytes.specs.Settled.{IsFault, IsFirstFault, HasNoZero, firsts}
use Rattle.secret_bytes.specs.declared.error.CombineError.{CombineError}
use Rattle.secret_bytes.specs.declared.error.CombineError.TheVariants.{AnotherDeal, AnotherLength, AnotherThreshold, Changed, Memory, NoShare, Repeated, TooFew, TooManyWrong, Unsound}
use Rattle.secret_bytes.proofs.CombinedShares.{firsts-all, firsts-apart}
use Rattle.secret_bytes.proofs.DealtRows.{sampled-count}
use Rattle.secret_bytes.proofs.ElementPoints.{points_apart, values-same, within-once}
use Rattle.secret_bytes.proofs.KeyedBytes.{keyed-once}
use Rattle.secret_bytes.proofs.LeftShares.{others-each}
use Rattle.secret_bytes.proofs.RecoveredShares.{fits-same, within}

-- the elements are the only ones
pub recovered-once : (t width : ℕ) (shares : List SecretShare) (all others : List F) (wrong ws : List ℕ) → AreElementsOfShares t width shares all wrong → AreElementsOfShares t width shares others ws → all ≡ others
recovered-once t width shares all others wrong ws r m =
    ext_get_or (residue 0) all others (r.count ∙ sym m.count)
    (λ j l.
    let below : j < width = omega (arith, l, r.count) in
    let a = r.elements j below in
    let b = m.elements j below in
    same_number (get_or all j (residue 0)) (get_or others j (residue 0))
    (a.constant ∙ values-same a.polynomial b.polynomial (residue 0) (b.only a.polynomial a.within) ∙ sym b.constant))

-- polynomial j has t coefficients, the first of which is element j
pub sampled-at : (t : ℕ) (before after : Stream) (all : List F) (ps : List (List F)) → AreSampled t before after all ps → (j : ℕ) → j < length ps
    → (length (get_or ps j []) ≡ t) × (slice_get (get_or ps j []) 0 ≡ Some (get_or all j (residue 0)))
sampled-at t before after [] [] h j l = absurd (omega (arith, l))
sampled-at t before after [] (p ∷ ps) h j l = absurd h
sampled-at t before after (a ∷ all) [] h j l = absurd h
sampled-at t before after (a ∷ all) (p ∷ ps) h zero l = (h.1.count, h.1.constant)
sampled-at t before after (a ∷ all) (p ∷ ps) h (suc j) l = sampled-at t h.0 after all ps h.2 j (omega (arith, l))

-- the first coefficient is the value at zero
pub constant-at_zero : (p : List F) (a : F) → slice_get p 0 ≡ Some a → same a (value_in_ring goldilocks p (residue 0))
constant-at_zero p a e =
    ap number (sym (get_or_from_slice_get p 0 a (residue 0) e)) ∙ sym (value_over-at_zero equality group (ring_is_module equality group commutes ring) p)

items-same : (xs ys : List F) → AllZip same xs ys → xs ≡ ys
items-same [] [] h = refl
items-same [] (y ∷ ys) h = absurd h
items-same (x ∷ xs) [] h = absurd h
items-same (x ∷ xs) (y ∷ ys) h = ap₂ (λ z zs. z ∷ zs) (same_number x y h.0) (items-same xs ys h.1)

-- the share of element j of a share with this index and these values
abbrev share_with : ℕ → ℕ → List F → Share F
share_with j i xs = record { index = i; value = get_or xs j (residue 0) }

-- same shares have the same values
values-same_shares : (s u : SecretShare) → AreSameShares s u → s.values.items ≡ u.values.items
values-same_shares s u h = items-same s.values.items u.values.items h.values

-- the share at place k of a deal has the index k + 1
pub number_of-index : (bytes : List ℕ) (t n : ℕ) (before after : Stream) (dealt : List SecretShare) → AreDealtBytes bytes t n before after dealt
    → (k : ℕ) (s : SecretShare) → k < length dealt → get_or dealt k s ≡ s → (s.index ≡ 1 + k) × (k < n)
number_of-index bytes t n before after dealt D k s l e =
    let count : length dealt ≡ n = sym (length-map dealt (λ (u : SecretShare). u.index)) ∙ ap length D.indices ∙ length-range_with_len 1 n in
    let below : k < n = omega (arith, l, count) in
    (ap (λ (u : SecretShare). u.index) (sym e) ∙ sym (get_or-map (λ (u : SecretShare). u.index) dealt k s 0 l) ∙ ap (λ is. get_or is k 0) D.indices ∙ get_or-range_with_len 1 n k 0 below, below)

module _ (bytes : List ℕ) (t n : ℕ) (before after : Stream) (dealt shares : List SecretShare) (some : 0 < t) (small : n < 2 ^ 32) (D : AreDealtBytes bytes t n before after dealt)
    (chosen : All (IsSameAsOne dealt) shares) (enough : t ≤ length (firsts shares)) where
  abbrev polynomial : ℕ → List F
  polynomial j = get_or D.polynomials j []

  index-of : (s : SecretShare) (h : IsSameAsOne dealt s) → (s.index ≡ 1 + h.1.0) × (h.1.0 < n)
  index-of s h = let i = number_of-index bytes t n before after dealt D h.1.0 h.0 h.1.1 h.1.2 in (h.2.index ∙ i.0, i.1)

  -- dealt shares of one index are one
  one-dealt : (s u : SecretShare) → Contains dealt s → Contains dealt u → s.index ≡ u.index → s ≡ u
  one-dealt s u h k e =
      let a = number_of-index bytes t n before after dealt D h.0 s h.1 h.2 in
      let b = number_of-index bytes t n before after dealt D k.0 u k.1 k.2 in
      let place : h.0 ≡ k.0 = omega (arith, a.0, b.0, e) in
      sym h.2 ∙ get_or_default dealt h.0 s u h.1 ∙ ap (λ i. get_or dealt i u) place ∙ k.2

  -- and copies of these have the same values
  one-share : (s u : SecretShare) → IsSameAsOne dealt s → IsSameAsOne dealt u → s.index ≡ u.index → s.values.items ≡ u.values.items
  one-share s u h k e =
      values-same_shares s h.0 h.2 ∙ ap (λ (v : SecretShare). v.values.items) (one-dealt h.0 k.0 h.1 k.1 (sym h.2.index ∙ e ∙ k.2.index))
      ∙ sym (values-same_shares u k.0 k.2)

  of_deal : (s : SecretShare) → IsSameAsOne dealt s → IsOfDeal t D.deal (length D.all) s
  of_deal s h =
      let d = All-contains (IsOfDeal t D.deal (length D.all)) dealt h.0 D.alike h.1 in
      record { threshold = h.2.threshold ∙ d.threshold; deal = same_number s.deal h.0.deal h.2.deal ∙ d.deal; count = ap length (values-same_shares s h.0 h.2) ∙ d.count }

  sound : (s : SecretShare) → IsSameAsOne dealt s → HasNoZero s
  sound s h = (omega (arith, some, (of_deal s h).threshold), omega (arith, (index-of s h).0))

  width_is : length D.polynomials ≡ length D.all
  width_is = sampled-count t D.third after D.all D.polynomials D.sampled

  -- each dealt share fits each polynomial
  fits-one : (j : ℕ) → j < length D.all → (s : SecretShare) → Contains dealt s → FitsShare j (polynomial j) s
  fits-one j l s h =
      let column_at : get_or (column j dealt) h.0 (share_of j s) ≡ share_of j s = get_or-map (share_of j) dealt h.0 s (share_of j s) h.1 ∙ ap (share_of j) h.2 in
      subst (λ (u : Share F). same u.value (value_in_ring goldilocks (polynomial j) (point goldilocks u.index))) column_at
      ((D.columns j (omega (arith, l, width_is))).values h.0 (share_of j s) (omega (arith, h.1, length-map dealt (share_of j))))

  -- and so does each copy
  fits-dealt : (j : ℕ) → j < length D.all → (s : SecretShare) → IsSameAsOne dealt s → FitsShare j (polynomial j) s
  fits-dealt j l s h =
      let parts : share_of j h.0 ≡ share_of j s =
      ap₂ (share_with j) (sym h.2.index) (sym (values-same_shares s h.0 h.2)) in
      subst (λ (u : Share F). same u.value (value_in_ring goldilocks (polynomial j) (point goldilocks u.index))) parts (fits-one j l h.0 h.1)

  kept-dealt : All (IsSameAsOne dealt) (firsts shares)
  kept-dealt = firsts-all (IsSameAsOne dealt) shares chosen

  kept-small : All (λ s. s.index < 2 ^ 32) (firsts shares)
  kept-small k d l =
      let i = index-of (get_or (firsts shares) k d) (kept-dealt k d l) in
      omega (arith, i.0, i.1, small)

  apart-at : (j : ℕ) → AreApart same (points goldilocks (column j (firsts shares)))
  apart-at j = points_apart j (firsts shares) (firsts-apart shares) kept-small

  enough-at : (j : ℕ) → t ≤ length (column j (firsts shares))
  enough-at j = omega (arith, enough, length-map (firsts shares) (share_of j))

  radius : (j : ℕ) → j < length D.all → AreSharesWithinRadius goldilocks t (polynomial j) (column j (firsts shares))
  radius j l =
      within t j (firsts shares) [] (polynomial j) (firsts-apart shares) (omega (arith, (sampled-at t D.third after D.all D.polynomials D.sampled j (omega (arith, l, width_is))).0)) (omega (arith, enough))
      (λ k d m. fits-dealt j l (get_or (others [] (firsts shares)) k d) (All-contains (IsSameAsOne dealt) (firsts shares) (get_or (others [] (firsts shares)) k d) kept-dealt (others-each [] (firsts shares) k d m).0))

  not-wrong : (s : SecretShare) → IsSameAsOne dealt s → ¬ (IsWrong t (length D.all) (firsts shares) s)
  not-wrong s h w =
      w.4 (fits-same w.0 (polynomial w.0) w.1 s (within-once t (column w.0 (firsts shares)) w.1 (polynomial w.0) (apart-at w.0) (enough-at w.0) w.3 (radius w.0 w.2)) (fits-dealt w.0 w.2 s h))

  -- the elements that were dealt are those of the shares, and none is wrong
  recovered : AreElementsOfShares t (length D.all) (firsts shares) D.all []
  recovered = record {
    count = refl;
    elements = λ j l. record {
      polynomial = polynomial j;
      within = radius j l;
      constant = constant-at_zero (polynomial j) (get_or D.all j (residue 0)) (sampled-at t D.third after D.all D.polynomials D.sampled j (omega (arith, l, width_is))).1;
      only = λ q h. within-once t (column j (firsts shares)) (polynomial j) q (apart-at j) (enough-at j) (radius j l) h;
    };
    few = omega (arith, enough);
    exactly = λ k d l. (λ h. absurd (omega (arith, h.1)), λ w. absurd (not-wrong (get_or (firsts shares) k d) (kept-dealt k d l) w));
    among = All-nil (λ i. (s : SecretShare) × Contains (firsts shares) s × (s.index ≡ i));
    rising = λ k l. absurd (omega (arith, l));
  }

  -- the first share has the numbers of the deal
  first-dealt : (first : SecretShare) → slice_get shares 0 ≡ Some first → IsSameAsOne dealt first
  first-dealt first e = subst (IsSameAsOne dealt) (get_or_from_slice_get shares 0 first first e) (chosen 0 first (slice_get_within shares 0 first e))

  as-dealt : (first : SecretShare) → slice_get shares 0 ≡ Some first → (all : List F) (wrong : List ℕ) → AreElementsOfShares first.threshold (length first.values.items) (firsts shares) all wrong
      → AreElementsOfShares t (length D.all) (firsts shares) all wrong
  as-dealt first e all wrong r =
      let d = of_deal first (first-dealt first e) in
      rw (d.threshold, d.count) at r

  -- why a share does not stand is due to none of them
  no-fault : (first : SecretShare) → slice_get shares 0 ≡ Some first → (error : CombineError) → IsFirstFault first.threshold first.deal (length first.values.items) shares error → ⊥
  no-fault first e error h = at error h.5
    where
      here : IsSameAsOne dealt h.1
      here = subst (IsSameAsOne dealt) h.3 (chosen h.0 h.1 h.2)

      f : IsOfDeal t D.deal (length D.all) first
      f = of_deal first (first-dealt first e)

      d : IsOfDeal t D.deal (length D.all) h.1
      d = of_deal h.1 here

      at : (error : CombineError) → IsFault first.threshold first.deal (length first.values.items) (take h.0 shares) h.1 h.0 error → ⊥
      at (Unsound place) g = g.1 (sound h.1 here)
      at (AnotherDeal place) g = g.2 (d.deal ∙ sym f.deal)
      at (AnotherThreshold place) g = g.3 (d.threshold ∙ sym f.threshold)
      at (AnotherLength place) g = g.4 (d.count ∙ sym f.count)
      at (Repeated place) g =
          let u = g.3 in
          let there : IsSameAsOne dealt u.0 = All-contains (IsSameAsOne dealt) (take h.0 shares) u.0 (All-take (IsSameAsOne dealt) h.0 shares chosen) u.1 in
          u.3 (one-share u.0 h.1 there here u.2)
      at (Memory m) g = g
      at NoShare g = g
      at (TooFew count needed) g = g
      at TooManyWrong g = g
      at Changed g = g

  memory-alone : (error : CombineError) → IsDueCombining shares error → IsMemory error
  memory-alone (Memory e) h = tt
  memory-alone NoShare h = absurd (omega (arith, some, enough, ap (λ ss. length (firsts ss)) (nil_from_length shares h)))
  memory-alone (Unsound place) h = absurd (no-fault h.0 h.1 (Unsound place) h.2)
  memory-alone (AnotherDeal place) h = absurd (no-fault h.0 h.1 (AnotherDeal place) h.2)
  memory-alone (AnotherThreshold place) h = absurd (no-fault h.0 h.1 (AnotherThreshold place) h.2)
  memory-alone (AnotherLength place) h = absurd (no-fault h.0 h.1 (AnotherLength place) h.2)
  memory-alone (Repeated place) h = absurd (no-fault h.0 h.1 (Repeated place) h.2)
  memory-alone (TooFew count needed) h = absurd (omega (arith, enough, (of_deal h.0 (first-dealt h.0 h.1.first_is)).threshold, h.2, h.3, h.4))
  memory-alone TooManyWrong h =
      let d = of_deal h.0 (first-dealt h.0 h.1.first_is) in
      let none : (all : List F) (wrong : List ℕ) → ¬ (AreElementsOfShares t (length D.all) (firsts shares) all wrong) = rw (d.threshold, d.count) at h.3 in
      absurd (none D.all [] recovered)
  memory-alone Changed h =
      let all_is : h.2 ≡ D.all = recovered-once t (length D.all) (firsts shares) h.2 D.all h.3 [] (as-dealt h.0 h.1.first_is h.2 h.3 h.4) recovered in
      absurd (h.5 bytes (subst (AreKeyed bytes) (sym all_is) D.keyed))

  only-bytes : (found wrong : List ℕ) → AreCombined shares found wrong → (found ≡ bytes) × (wrong ≡ [])
  only-bytes found wrong c =
      let r = as-dealt c.first c.of_deal.first_is c.all wrong c.recovered in
      let all_is : c.all ≡ D.all = recovered-once t (length D.all) (firsts shares) c.all D.all wrong [] r recovered in (
        keyed-once D.all found bytes (subst (AreKeyed found) all_is c.keyed) D.keyed,
        none wrong (λ i there.
            let s = All-contains (λ (i : ℕ). (s : SecretShare) × Contains (firsts shares) s × (s.index ≡ i)) wrong i r.among there in
            let exact = All-contains (λ (s : SecretShare). (Contains wrong s.index → IsWrong t (length D.all) (firsts shares) s) × (IsWrong t (length D.all) (firsts shares) s → Contains wrong s.index)) (firsts shares) s.0 r.exactly s.1 in
            not-wrong s.0 (All-contains (IsSameAsOne dealt) (firsts shares) s.0 kept-dealt s.1) (exact.0 (subst (Contains wrong) (sym s.2) there))),
      )
    where
      none : (wrong : List ℕ) → ((i : ℕ) → ¬ (Contains wrong i)) → wrong ≡ []
      none [] h = refl
      none (i ∷ wrong) h = absurd (h i (0, omega arith, refl))

pub any-shares : AnySharesOfBytesCombine
any-shares bytes t n before after dealt shares some small D chosen enough =
    (memory-alone bytes t n before after dealt shares some small D chosen enough, only-bytes bytes t n before after dealt shares some small D chosen enough)
