-- The elements that shares give, of which some are wrong, and the bytes that they are combined to.
use Rattle.std.specs.List.{Contains, filter, list_any}
use Rattle.std.specs.List.Sorted.{IsStrictlyIncreasing}
use Rattle.std.specs.Prelude.{◌≡◌, ◌↔◌, ◌+◌, ◌<◌, ◌≤◌, ◌==◌, ℕ, Bool, not, List, length, slice_get, slice_index_or, Some, All}
use Rattle.math_fields.specs.declared.goldilocks.F.{F}
use Rattle.math_fields.specs.Elements.{residue, same, goldilocks}
use Rattle.math_base.specs.Polynomials.{value_in_ring}
use Rattle.math_decoding.specs.Polynomials.{AreSame}
use Rattle.secret_bytes.specs.declared.share.SecretShare.{SecretShare}
use Rattle.shared_secret.specs.declared.shares.Share.{Share}
use Rattle.shared_secret.specs.CorrectedShares.{AreSharesWithinRadius}
use Rattle.shared_secret.specs.Shares.{point}
use Rattle.secret_bytes.specs.Columns.{column, share_of}
use Rattle.secret_bytes.specs.Keyed.{AreKeyed}
use Rattle.secret_bytes.specs.Settled.{IsFirstFault, StandBelow, firsts}
use Rattle.secret_bytes.specs.declared.error.CombineError.{CombineError}
use Rattle.secret_bytes.specs.declared.error.CombineError.TheVariants.{Changed, Memory, NoShare, TooFew, TooManyWrong}

-- whether the index is none of these
abbrev pub is_outside : List ℕ → ℕ → Bool
is_outside wrong index = not (list_any (λ i. i == index) wrong)

-- the shares whose index is none of these
abbrev pub others : List ℕ → List SecretShare → List SecretShare
others wrong shares = filter (λ s. is_outside wrong s.index) shares

-- value j of the share is the value of the polynomial p at the point of its index
abbrev pub FitsShare : ℕ → List F → SecretShare → Type 0
FitsShare j p s = let u : Share F = share_of j s in same u.value (value_in_ring goldilocks p (point goldilocks s.index))

-- the element is the value at zero of a polynomial of at most t coefficients that has all of m shares but at most (m - t) / 2, and every
-- other such polynomial is the same
pub record IsElementOf (t : ℕ) (shares : List (Share F)) (a : F) : Type 0 where
  pub polynomial : List F
  pub within : AreSharesWithinRadius goldilocks t polynomial shares
  pub constant : same a (value_in_ring goldilocks polynomial (residue 0))
  pub only : (q : List F) → AreSharesWithinRadius goldilocks t q shares → AreSame goldilocks q polynomial

-- one of the values of the share is not the value of the polynomial of at most t coefficients that has all of these m shares but at most (m
-- - t) / 2
abbrev pub IsWrong : ℕ → ℕ → List SecretShare → SecretShare → Type 0
IsWrong t width shares s = (j : ℕ) × (p : List F) × (j < width) × AreSharesWithinRadius goldilocks t p (column j shares) × ¬ (FitsShare j p s)

-- the elements of the shares, and the indices of those that are wrong, rising, of which there are at most (m - t) / 2 for m shares
pub record AreElementsOfShares (t width : ℕ) (shares : List SecretShare) (all : List F) (wrong : List ℕ) : Type 0 where
  pub count : length all ≡ width
  pub elements : (j : ℕ) → j < width → IsElementOf t (column j shares) (slice_index_or all j (residue 0))
  pub few : length wrong + length wrong + t ≤ length shares
  pub exactly : All (λ s. Contains wrong s.index ↔ IsWrong t width shares s) shares
  pub among : All (λ i. (s : SecretShare) × Contains shares s × (s.index ≡ i)) wrong
  pub rising : IsStrictlyIncreasing wrong

-- the shares stand with one another, by the threshold, the deal and the number of values of the first one
pub record AreOfOneDeal (first : SecretShare) (shares : List SecretShare) : Type 0 where
  pub first_is : slice_get shares 0 ≡ Some first
  pub stand : StandBelow first.threshold first.deal (length first.values.items) shares (length shares)

-- the shares stand with one another, and the first share of each index, of which the shares with these indices are wrong, give the elements
-- of the bytes
pub record AreCombined (shares : List SecretShare) (bytes wrong : List ℕ) : Type 0 where
  pub first : SecretShare
  pub all : List F
  pub of_deal : AreOfOneDeal first shares
  pub recovered : AreElementsOfShares first.threshold (length first.values.items) (firsts shares) all wrong
  pub keyed : AreKeyed bytes all

-- why shares are not combined: there is none; or the first that does not stand; or too few have distinct indices; or there are no elements,
-- or they are the elements of no bytes
abbrev pub IsDueCombining : List SecretShare → CombineError → Type 0
IsDueCombining shares (Memory e) = Unit {0}
IsDueCombining shares NoShare = length shares ≡ 0
IsDueCombining shares (TooFew count t) =
    (first : SecretShare) × AreOfOneDeal first shares × (count ≡ length (firsts shares)) × (t ≡ first.threshold) × (count < t)
IsDueCombining shares TooManyWrong =
    (first : SecretShare) × AreOfOneDeal first shares × (first.threshold ≤ length (firsts shares))
    × ((all : List F) (wrong : List ℕ) → ¬ (AreElementsOfShares first.threshold (length first.values.items) (firsts shares) all wrong))
IsDueCombining shares Changed =
    (first : SecretShare) × AreOfOneDeal first shares × (all : List F) × (wrong : List ℕ)
    × AreElementsOfShares first.threshold (length first.values.items) (firsts shares) all wrong × ((bytes : List ℕ) → ¬ (AreKeyed bytes all))
IsDueCombining shares error = (first : SecretShare) × (slice_get shares 0 ≡ Some first) × IsFirstFault first.threshold first.deal (length first.values.items) shares error
