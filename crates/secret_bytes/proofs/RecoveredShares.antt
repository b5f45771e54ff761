-- Shares of which some are wrong, and the elements of those that are left.
use Rattle.std.proofs.Common.{◌≡◌, ◌≢◌, ◌∙◌, ℕ, eqb, zero, suc, ◌+◌, ◌<◌, ◌≤◌, ◌^◌, ◌⊎◌, inl, inr, List, [], ◌∷◌, ◌++◌, length, map, get_or, refl, sym, ap, subst, arith}
use Rattle.std.specs.List.{All, AllPairs, Contains}
use Rattle.std.specs.List.Sorted.{IsPermutation, IsSorted, IsStrictlyIncreasing}
use Rattle.std.specs.Cmp.{unsigned_Decides}
use Rattle.std.specs.Ordering.{nat_cmp}
use Rattle.std.proofs.lemmas.Bool.{cases_eq, cases_lt}
use Rattle.std.proofs.lemmas.Bool.Decides.{nat_tests}
use Rattle.std.proofs.lemmas.List.{get_or-map, get_or_default, length-map}
use Rattle.std.proofs.lemmas.List.Elements.{All-append, All-contains, All-filter, All-head, All-nil, All-tail, Contains-append_right, Contains-get_or}
use Rattle.std.proofs.lemmas.List.Kept.{AllPairs-filter}
use Rattle.std.proofs.lemmas.List.Sorted.{All-permutation, Contains-permutation, IsNonDecreasingBy-from_sort, IsPermutation-sym, length_permutation}
use Rattle.std.proofs.lemmas.Map.Keys.{IsDistinct-IsPermutation}
use Rattle.std.proofs.lemmas.Map.Made.{AllPairs-from_IsDistinct, IsDistinct-from_AllPairs}
use Rattle.math_theory.specs.Interpolation.{AreApart}
use Rattle.math_fields.specs.declared.goldilocks.F.{F}
use Rattle.math_fields.specs.Elements.{number, residue, same, goldilocks}
use Rattle.math_base.specs.Polynomials.{value_in_ring}
use Rattle.math_decoding.specs.Polynomials.{AreSame}
use Rattle.secret_bytes.specs.declared.share.SecretShare.{SecretShare}
use Rattle.shared_secret.specs.declared.shares.Share.{Share}
use Rattle.shared_secret.specs.CorrectedShares.{AreSharesWithinRadius, IsCorrectedSecret}
use Rattle.shared_secret.specs.Shares.{AreAtDistinctPoints, point, points, values}
use Rattle.secret_bytes.specs.Columns.{column, share_of}
use Rattle.secret_bytes.specs.Combined.{AreElementsOfShares, FitsShare, IsWrong, is_outside, others}
use Rattle.secret_bytes.specs.Passes.{AreFirstElements, AreReady, IsPlain, indices_at}
use Rattle.secret_bytes.proofs.ElementPoints.{point-number, points_apart, values-same, within-once}
use Rattle.secret_bytes.proofs.LeftShares.{first_place, first_place-at, left-count, others-each, others-has, others-more, others-none, outside-cases, pairs-head, pairs-tail, same-share}

-- the share at a place
pub share-at : (shares : List SecretShare) (i : ℕ) → i < length shares → (s : SecretShare) × (get_or shares i s ≡ s)
share-at [] i l = absurd (omega (arith, l))
share-at (s ∷ shares) zero l = (s, refl)
share-at (s ∷ shares) (suc i) l = share-at shares i (omega (arith, l))

pub column-count : (j : ℕ) (shares : List SecretShare) → length (points goldilocks (column j shares)) ≡ length shares
column-count j shares = length-map (column j shares) (λ (v : Share F). point goldilocks v.index) ∙ length-map shares (share_of j)

point-of : (j : ℕ) (shares : List SecretShare) (i : ℕ) (s : SecretShare) (x : F) → i < length shares → get_or shares i s ≡ s → get_or (points goldilocks (column j shares)) i x ≡ point goldilocks s.index
point-of j shares i s x l e =
    get_or-map (λ (v : Share F). point goldilocks v.index) (column j shares) i (share_of j s) x (omega (arith, l, length-map shares (share_of j)))
    ∙ ap (λ (v : Share F). point goldilocks v.index) (get_or-map (share_of j) shares i s (share_of j s) l) ∙ ap (λ (u : SecretShare). point goldilocks u.index) e

value-of : (j : ℕ) (shares : List SecretShare) (i : ℕ) (s : SecretShare) (x : F) → i < length shares → get_or shares i s ≡ s → get_or (values (column j shares)) i x ≡ get_or s.values.items j (residue 0)
value-of j shares i s x l e =
    get_or-map (λ (v : Share F). v.value) (column j shares) i (share_of j s) x (omega (arith, l, length-map shares (share_of j)))
    ∙ ap (λ (v : Share F). v.value) (get_or-map (share_of j) shares i s (share_of j s) l) ∙ ap (λ (u : SecretShare). get_or u.values.items j (residue 0)) e

-- that the value of p at point i is value i of the column says that p fits share i
fits-from : (j : ℕ) (shares : List SecretShare) (p : List F) (i : ℕ) (s : SecretShare) → i < length shares → get_or shares i s ≡ s
    → same (value_in_ring goldilocks p (get_or (points goldilocks (column j shares)) i (residue 0))) (get_or (values (column j shares)) i (residue 0)) → FitsShare j p s
fits-from j shares p i s l e h =
    ap number (sym (value-of j shares i s (residue 0) l e)) ∙ sym h ∙ ap (λ x. number (value_in_ring goldilocks p x)) (point-of j shares i s (residue 0) l e)

fits-to : (j : ℕ) (shares : List SecretShare) (p : List F) (i : ℕ) (s : SecretShare) → i < length shares → get_or shares i s ≡ s → FitsShare j p s
    → same (value_in_ring goldilocks p (get_or (points goldilocks (column j shares)) i (residue 0))) (get_or (values (column j shares)) i (residue 0))
fits-to j shares p i s l e h =
    ap (λ x. number (value_in_ring goldilocks p x)) (point-of j shares i s (residue 0) l e) ∙ sym h ∙ ap number (sym (value-of j shares i s (residue 0) l e))

pub fits-cases : (j : ℕ) (p : List F) (s : SecretShare) → (FitsShare j p s) ⊎ ¬ (FitsShare j p s)
fits-cases j p s = cases_eq (number (get_or s.values.items j (residue 0))) (number (value_in_ring goldilocks p (point goldilocks s.index)))

pub fits-same : (j : ℕ) (p q : List F) (s : SecretShare) → AreSame goldilocks p q → FitsShare j p s → FitsShare j q s
fits-same j p q s e h = h ∙ values-same p q (point goldilocks s.index) e

abbrev pub AreDistinct : List SecretShare → Type 0
AreDistinct shares = AllPairs (λ s u. s.index ≢ u.index) shares

pub contains-map : {A : Type 0} (f : ℕ → A) (xs : List ℕ) (i : ℕ) → Contains xs i → Contains (map f xs) (f i)
contains-map f xs i (k, l, e) = (k, omega (arith, l, length-map xs f), get_or-map f xs k i (f i) l ∙ ap f e)

-- what fits all shares but those of few indices is within the radius
pub within : (t j : ℕ) (shares : List SecretShare) (wrong : List ℕ) (p : List F) → AreDistinct shares → length p ≤ t → length wrong + length wrong + t ≤ length shares
    → All (FitsShare j p) (others wrong shares) → AreSharesWithinRadius goldilocks t p (column j shares)
within t j shares wrong p apart short few fits = (
  short,
  map (first_place shares) wrong,
  omega (arith, few, length-map wrong (first_place shares), column-count j shares),
  λ i l n.
      let below : i < length shares = omega (arith, l, column-count j shares) in
      let s = share-at shares i below in
      let here : Contains shares s.0 = (i, below, s.1) in
      let place : first_place shares s.0.index ≡ i = ap (λ (u : SecretShare). first_place shares u.index) (sym s.1) ∙ first_place-at shares i s.0 apart below in
      let out : ¬ (Contains wrong s.0.index) = λ h. n (subst (Contains (map (first_place shares) wrong)) place (contains-map (first_place shares) wrong s.0.index h)) in
      fits-to j shares p i s.0 below s.1 (All-contains (FitsShare j p) (others wrong shares) s.0 fits (others-has wrong shares s.0 here out)),
)

-- a share at a place that is not wrong fits what was decoded, and one at a wrong place does not
decoded-fits : (t j : ℕ) (shares : List SecretShare) (a : F) (places : List ℕ) (h : IsCorrectedSecret goldilocks t (column j shares) a places) (i : ℕ) (s : SecretShare) → i < length shares
    → get_or shares i s ≡ s → ¬ (Contains places i) → FitsShare j h.polynomial s
decoded-fits t j shares a places h i s l e n =
    fits-from j shares h.polynomial i s l e (h.decoded.places.agree i (omega (arith, l, column-count j shares)) n)

decoded-differs : (t j : ℕ) (shares : List SecretShare) (a : F) (places : List ℕ) (h : IsCorrectedSecret goldilocks t (column j shares) a places) (k : ℕ) (s : SecretShare) → k < length places
    → get_or shares (get_or places k 0) s ≡ s → ¬ (FitsShare j h.polynomial s)
decoded-differs t j shares a places h k s l e f =
    let below : get_or places k 0 < length shares = omega (arith, h.decoded.places.below k 0 l, column-count j shares) in
    h.decoded.places.differ k 0 l (fits-to j shares h.polynomial (get_or places k 0) s below e f)

-- how far the search for wrong shares has come: `kept` are left without the indices that were found, each of which is that of a wrong share
pub record IsProgress (t width : ℕ) (shares kept : List SecretShare) (wrong : List ℕ) : Type 0 where
  pub left : kept ≡ others wrong shares
  pub few : length wrong + length wrong + t ≤ length shares
  pub found : All (λ i. (s : SecretShare) × Contains shares s × (s.index ≡ i) × IsWrong t width shares s) wrong
  pub apart : AllPairs (λ i k. i ≢ k) wrong

pub progress-none : (t width : ℕ) (shares : List SecretShare) (wrong : List ℕ) → wrong ≡ [] → AreReady t width shares → IsProgress t width shares shares wrong
progress-none t width shares wrong e ready =
    rw e record {
      left = sym (others-none shares);
      few = omega (arith, ready.enough);
      found = All-nil (λ i. (s : SecretShare) × Contains shares s × (s.index ≡ i) × IsWrong t width shares s);
      apart = λ i k d l m. absurd (omega (arith, m));
    }

pub progress-ready : (t width : ℕ) (shares kept : List SecretShare) (wrong : List ℕ) → AreReady t width shares → IsProgress t width shares kept wrong → AreReady t width kept
progress-ready t width shares kept wrong ready g =
    rw g.left record {
      enough = omega (arith, g.few, left-count wrong shares ready.apart);
      apart = AllPairs-filter (λ (s u : SecretShare). s.index ≢ u.index) (λ (s : SecretShare). is_outside wrong s.index) shares ready.apart;
      plain = All-filter (λ (s : SecretShare). is_outside wrong s.index) (IsPlain width) shares ready.plain;
    }

small : (t width : ℕ) (shares : List SecretShare) → AreReady t width shares → All (λ s. s.index < 2 ^ 32) shares
small t width shares ready k d l = (ready.plain k d l).small

-- distinct numbers that are sorted rise
rising-sorted : (wrong sorted : List ℕ) → AllPairs (λ i k. i ≢ k) wrong → IsPermutation wrong sorted → IsSorted nat_cmp sorted → IsStrictlyIncreasing sorted
rising-sorted wrong sorted apart moved up = λ k l.
    let below = IsNonDecreasingBy-from_sort (λ (n : ℕ). n) sorted up k (k + 1) 0 (omega arith) l in
    let other = apart-sorted k (k + 1) 0 (omega arith) l in
    omega (arith, below, other)
  where
    apart-sorted : AllPairs (λ i k. i ≢ k) sorted
    apart-sorted = AllPairs-from_IsDistinct unsigned_Decides sorted (IsDistinct-IsPermutation eqb (λ x y. grind (arith, nat_tests)) wrong sorted moved (IsDistinct-from_AllPairs unsigned_Decides wrong apart))

-- where all elements fit, they are those of the shares, and the indices, once sorted, those of the wrong ones
pub progress-end : (t width : ℕ) (shares kept : List SecretShare) (wrong sorted : List ℕ) (all : List F) → AreReady t width shares → IsProgress t width shares kept wrong
    → IsPermutation wrong sorted → IsSorted nat_cmp sorted
    → length all ≡ width → ((j : ℕ) → j < width → IsCorrectedSecret goldilocks t (column j kept) (get_or all j (residue 0)) []) → AreElementsOfShares t width shares all sorted
progress-end t width shares kept wrong sorted all ready g moved up count fit =
    record {
      count = count;
      elements = λ j l. record { polynomial = (fit j l).polynomial; within = radius j l; constant = (fit j l).constant; only = only j l };
      few = omega (arith, g.few, length_permutation wrong sorted moved);
      exactly = λ k d l.
          let s = get_or shares k d in
          let here : Contains shares s = Contains-get_or shares k d l in (
            λ h. let w = All-contains (λ i. (u : SecretShare) × Contains shares u × (u.index ≡ i) × IsWrong t width shares u) wrong s.index g.found
                (Contains-permutation sorted wrong s.index (IsPermutation-sym wrong sorted moved) h) in
                subst (IsWrong t width shares) (same-share shares w.0 s ready.apart w.1 here w.2) w.3,
            λ h. elim (outside-cases wrong s.index) as (λ _. Contains sorted s.index) [
              | inl there ↦ Contains-permutation wrong sorted s.index moved there
              | inr none ↦
                  let fits = All-contains (FitsShare h.0 (fit h.0 h.2).polynomial) (others wrong shares) s (fits-all h.0 h.2) (others-has wrong shares s here none.1) in
                  absurd (h.4 (fits-same h.0 (fit h.0 h.2).polynomial h.1 s (within-once t (column h.0 shares) h.1 (fit h.0 h.2).polynomial (apart-at h.0) (enough-at h.0) h.3 (radius h.0 h.2)) fits))
            ],
          );
      among = All-permutation (λ i. (s : SecretShare) × Contains shares s × (s.index ≡ i)) wrong sorted moved (λ k d l. let w = g.found k d l in (w.0, w.1, w.2));
      rising = rising-sorted wrong sorted g.apart moved up;
    }
  where
    fits-all : (j : ℕ) (l : j < width) → All (FitsShare j (fit j l).polynomial) (others wrong shares)
    fits-all j l =
        subst (All (FitsShare j (fit j l).polynomial)) g.left
        (λ k d m. decoded-fits t j kept (get_or all j (residue 0)) [] (fit j l) k (get_or kept k d) m (get_or_default kept k (get_or kept k d) d m) (λ n. absurd (omega (arith, n.1))))

    radius : (j : ℕ) (l : j < width) → AreSharesWithinRadius goldilocks t (fit j l).polynomial (column j shares)
    radius j l = within t j shares wrong (fit j l).polynomial ready.apart (omega (arith, (fit j l).decoded.number)) g.few (fits-all j l)

    apart-at : (j : ℕ) → AreApart same (points goldilocks (column j shares))
    apart-at j = points_apart j shares ready.apart (small t width shares ready)

    enough-at : (j : ℕ) → t ≤ length (column j shares)
    enough-at j = omega (arith, ready.enough, length-map shares (share_of j))

    only : (j : ℕ) (l : j < width) (q : List F) → AreSharesWithinRadius goldilocks t q (column j shares) → AreSame goldilocks q (fit j l).polynomial
    only j l q h = within-once t (column j shares) (fit j l).polynomial q (apart-at j) (enough-at j) (radius j l) h

-- what was found of the first elements stands where more shares are left out
pub elements-left : (t width : ℕ) (shares left : List SecretShare) (wrong : List ℕ) (all : List F) → AreReady t width left → left ≡ others wrong shares → AreFirstElements t width shares all
    → AreFirstElements t width left all
elements-left t width shares left wrong all ready e h = record { count = h.count; fit = λ j l. corrected j (get_or all j (residue 0)) (h.fit j l) }
  where
    fits : (j : ℕ) (a : F) (c : IsCorrectedSecret goldilocks t (column j shares) a []) → All (FitsShare j c.polynomial) left
    fits j a c =
        subst (All (FitsShare j c.polynomial)) (sym e)
        (All-filter (λ (s : SecretShare). is_outside wrong s.index) (FitsShare j c.polynomial) shares
        (λ k d m. decoded-fits t j shares a [] c k (get_or shares k d) m (get_or_default shares k (get_or shares k d) d m) (λ n. absurd (omega (arith, n.1)))))

    corrected : (j : ℕ) (a : F) → IsCorrectedSecret goldilocks t (column j shares) a [] → IsCorrectedSecret goldilocks t (column j left) a []
    corrected j a c =
        let enough : t ≤ length (column j left) = omega (arith, ready.enough, length-map left (share_of j)) in
        let radius : AreSharesWithinRadius goldilocks t c.polynomial (column j left) =
        within t j left [] c.polynomial ready.apart (omega (arith, c.decoded.number)) (omega (arith, ready.enough)) (subst (All (FitsShare j c.polynomial)) (sym (others-none left)) (fits j a c)) in
        record {
          polynomial = c.polynomial;
          decoded = record {
            number = c.decoded.number;
            places = record {
              rising = λ k m. absurd (omega (arith, m));
              below = λ k d m. absurd (omega (arith, m));
              differ = λ k d m. absurd (omega (arith, m));
              agree = λ i m n.
                  let below : i < length left = omega (arith, m, column-count j left) in
                  let s = share-at left i below in
                  fits-to j left c.polynomial i s.0 below s.1 (All-contains (FitsShare j c.polynomial) left s.0 (fits j a c) (i, below, s.1));
            };
            few = omega (arith, ready.enough, column-count j left);
            only = λ q k. within-once t (column j left) c.polynomial q (points_apart j left ready.apart (small t width left ready)) enough radius k;
          };
          constant = c.constant;
        }

-- shares of distinct indices are at distinct points other than zero
pub distinct-points-of : (j : ℕ) (shares : List SecretShare) → AreDistinct shares → All (λ s. 0 < s.index) shares → All (λ s. s.index < 2 ^ 32) shares → AreAtDistinctPoints goldilocks (column j shares)
distinct-points-of j shares apart some few = (
  λ h.
      let below : h.0 < length shares = omega (arith, h.2, length-map shares (share_of j)) in
      let s = share-at shares h.0 below in
      let positive : 0 < s.0.index = subst (λ (u : SecretShare). 0 < u.index) s.1 (some h.0 s.0 below) in
      let fits : s.0.index < 2 ^ 32 = subst (λ (u : SecretShare). u.index < 2 ^ 32) s.1 (few h.0 s.0 below) in
      let at : number (get_or (points goldilocks (column j shares)) h.0 h.1) ≡ s.0.index =
      ap number (point-of j shares h.0 s.0 h.1 below s.1) ∙ point-number s.0.index (omega (arith, fits)) in
      let zero_at : number (get_or (points goldilocks (column j shares)) h.0 h.1) ≡ 0 = h.3 in
      omega (arith, positive, at, zero_at),
  points_apart j shares apart few,
)

pub distinct-points : (t width j : ℕ) (shares : List SecretShare) → AreReady t width shares → AreAtDistinctPoints goldilocks (column j shares)
distinct-points t width j shares ready = distinct-points-of j shares ready.apart (λ k d l. (ready.plain k d l).some) (small t width shares ready)

index-at : (shares : List SecretShare) (i : ℕ) (s : SecretShare) → i < length shares → get_or shares i s ≡ s → get_or (map (λ s. s.index) shares) i 0 ≡ s.index
index-at shares i s l e = get_or-map (λ (u : SecretShare). u.index) shares i s 0 l ∙ ap (λ (u : SecretShare). u.index) e

pairs-append : {A : Type 0} (R : A → A → Type 0) (xs ys : List A) → AllPairs R xs → AllPairs R ys → All (λ x. All (R x) ys) xs → AllPairs R (xs ++ ys)
pairs-append R [] ys h k m = k
pairs-append {A = A} R (x ∷ xs) ys h k m =
    let rest = pairs-append R xs ys (pairs-tail R x xs h) k (All-tail (λ z. All (R z) ys) x xs m) in
    let first = All-append (R x) xs ys (pairs-head R x xs h) (All-head (λ z. All (R z) ys) x xs m) in
    λ i j d l n. at i j d l n first rest
  where
    at : (i j : ℕ) (d : A) → i < j → j < length (x ∷ (xs ++ ys)) → All (R x) (xs ++ ys) → AllPairs R (xs ++ ys) → R (get_or (x ∷ (xs ++ ys)) i d) (get_or (x ∷ (xs ++ ys)) j d)
    at zero zero d l n first rest = absurd (omega (arith, l))
    at zero (suc j) d l n first rest = first j d (omega (arith, n))
    at (suc i) zero d l n first rest = absurd (omega (arith, l))
    at (suc i) (suc j) d l n first rest = rest i j d (omega (arith, l)) (omega (arith, n))

rising-all : (xs : List ℕ) → IsStrictlyIncreasing xs → (i k : ℕ) → i < k → k < length xs → get_or xs i 0 < get_or xs k 0
rising-all xs h i zero l m = absurd (omega (arith, l))
rising-all xs h i (suc k) l m =
    let e : k + 1 ≡ suc k = omega arith in
    let step : get_or xs k 0 < get_or xs (suc k) 0 = subst (λ n. get_or xs k 0 < get_or xs n 0) e (h k (omega (arith, m))) in
    elim (cases_lt i k) as (λ _. get_or xs i 0 < get_or xs (suc k) 0) [
      | inl less ↦ omega (arith, step, rising-all xs h i k less (omega (arith, m)))
      | inr other ↦ let same_place : i ≡ k = omega (arith, l, other) in subst (λ n. get_or xs n 0 < get_or xs (suc k) 0) (sym same_place) step
    ]

-- one look that finds the shares at these places wrong
module _ (t width : ℕ) (shares kept : List SecretShare) (wrong : List ℕ) (j : ℕ) (a : F) (places : List ℕ) (ready : AreReady t width shares) (g : IsProgress t width shares kept wrong)
    (l : j < width) (h : IsCorrectedSecret goldilocks t (column j kept) a places) where
  abbrev pub more : List ℕ
  more = indices_at kept places

  pub kept-apart : AreDistinct kept
  kept-apart = (progress-ready t width shares kept wrong ready g).apart

  -- what is kept is one of the shares, and none of those that were found
  pub kept-each : (s : SecretShare) → Contains kept s → Contains shares s × ¬ (Contains wrong s.index)
  kept-each s m = All-contains (λ (u : SecretShare). Contains shares u × ¬ (Contains wrong u.index)) (others wrong shares) s (others-each wrong shares) (subst (λ us. Contains us s) g.left m)

  -- the share at a wrong place
  pub at-wrong : (k : ℕ) → k < length places → (s : SecretShare) × Contains kept s × (get_or more k 0 ≡ s.index) × (get_or kept (get_or places k 0) s ≡ s) × ¬ (FitsShare j h.polynomial s)
  at-wrong k m =
      let i = get_or places k 0 in
      let below : i < length kept = omega (arith, h.decoded.places.below k 0 m, column-count j kept) in
      let s = share-at kept i below in (
        s.0,
        (i, below, s.1),
        get_or-map (λ n. get_or (map (λ (u : SecretShare). u.index) kept) n 0) places k 0 0 m ∙ index-at kept i s.0 below s.1,
        s.1,
        decoded-differs t j kept a places h k s.0 m s.1,
      )

  pub more-count : length more ≡ length places
  more-count = length-map places (λ n. get_or (map (λ (u : SecretShare). u.index) kept) n 0)

  -- the indices that are found are distinct
  pub apart-more : AllPairs (λ i k. i ≢ k) (wrong ++ more)
  apart-more =
      pairs-append (λ (i k : ℕ). i ≢ k) wrong more g.apart
      (λ i k d m n e.
      let below : k < length places = omega (arith, n, more-count) in
      let s = at-wrong i (omega (arith, m, below)) in
      let u = at-wrong k below in
      let index : s.0.index ≡ u.0.index = sym s.2 ∙ get_or_default more i 0 d (omega (arith, m, n)) ∙ e ∙ get_or_default more k d 0 n ∙ u.2 in
      let one : s.0 ≡ u.0 = same-share kept s.0 u.0 kept-apart s.1 u.1 index in
      let less : get_or places i 0 < get_or places k 0 = rising-all places h.decoded.places.rising i k m below in
      kept-apart (get_or places i 0) (get_or places k 0) s.0 less (omega (arith, h.decoded.places.below k 0 below, column-count j kept))
      (ap (λ (v : SecretShare). v.index) s.3 ∙ index ∙ sym (ap (λ (v : SecretShare). v.index) (at-default u.0 s.0 k below ∙ u.3))))
      (λ i d m k x n e.
      let u = at-wrong k (omega (arith, n, more-count)) in
      let index : get_or wrong i d ≡ u.0.index = e ∙ get_or_default more k x 0 n ∙ u.2 in
      (kept-each u.0 u.1).1 (subst (Contains wrong) index (Contains-get_or wrong i d m)))
    where
      at-default : (u s : SecretShare) (k : ℕ) → k < length places → get_or kept (get_or places k 0) s ≡ get_or kept (get_or places k 0) u
      at-default u s k m = get_or_default kept (get_or places k 0) s u (omega (arith, h.decoded.places.below k 0 m, column-count j kept))

  -- what was decoded fits all shares but those that are found
  pub fits-more : All (FitsShare j h.polynomial) (others (wrong ++ more) shares)
  fits-more =
      subst (All (FitsShare j h.polynomial)) (ap (others (wrong ++ more)) g.left ∙ others-more wrong more shares)
      (λ k d m.
      let s = get_or (others (wrong ++ more) kept) k d in
      let each = others-each (wrong ++ more) kept k d m in
      let there : Contains kept s = each.0 in
      decoded-fits t j kept a places h there.0 s there.1 there.2
      (λ n.
      let found : Contains more (get_or (map (λ (u : SecretShare). u.index) kept) there.0 0) = contains-map (λ n. get_or (map (λ (u : SecretShare). u.index) kept) n 0) places there.0 n in
      each.1 (Contains-append_right wrong more s.index (subst (Contains more) (index-at kept there.0 s there.1 there.2) found))))

  -- the search goes on without them
  pub progress-next : (left : List SecretShare) → length (wrong ++ more) + length (wrong ++ more) + t ≤ length shares → left ≡ others (wrong ++ more) kept → IsProgress t width shares left (wrong ++ more)
  progress-next left few e =
      let radius : AreSharesWithinRadius goldilocks t h.polynomial (column j shares) = within t j shares (wrong ++ more) h.polynomial ready.apart (omega (arith, h.decoded.number)) few fits-more in
      record {
        left = e ∙ ap (others (wrong ++ more)) g.left ∙ others-more wrong more shares;
        few = few;
        found = All-append (λ i. (s : SecretShare) × Contains shares s × (s.index ≡ i) × IsWrong t width shares s) wrong more g.found
            (λ k d m.
            let s = at-wrong k (omega (arith, m, more-count)) in
            (s.0, (kept-each s.0 s.1).0, sym s.2 ∙ get_or_default more k 0 d m, (j, h.polynomial, l, radius, s.4)));
        apart = apart-more;
      }
