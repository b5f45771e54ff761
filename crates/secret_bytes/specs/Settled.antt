-- Shares of one deal, and of each index the first.
use Rattle.std.specs.List.{Contains, list_any}
use Rattle.std.specs.Prelude.{◌≡◌, ◌<◌, ◌==◌, ℕ, Bool, List, [], ◌∷◌, ◌++◌, if◌then◌else◌, length, slice_index_or, take, All, Option, Some, None}
use Rattle.math_fields.specs.declared.goldilocks.F.{F}
use Rattle.secret_bytes.specs.declared.share.SecretShare.{SecretShare}
use Rattle.secret_bytes.specs.Deals.{IsOfDeal}
use Rattle.secret_bytes.specs.declared.error.CombineError.{CombineError}
use Rattle.secret_bytes.specs.declared.error.CombineError.TheVariants.{AnotherDeal, AnotherLength, AnotherThreshold, Memory, Repeated, Unsound}

-- neither the threshold nor the index is zero
abbrev pub HasNoZero : SecretShare → Type 0
HasNoZero s = (0 < s.threshold) × (0 < s.index)

-- both have the same values
abbrev pub HaveEqualValues : SecretShare → SecretShare → Type 0
HaveEqualValues s u = s.values.items ≡ u.values.items

-- the share at this place has the values of s
abbrev pub HasValuesAt : List SecretShare → SecretShare → ℕ → Type 0
HasValuesAt shares s place = HaveEqualValues (slice_index_or shares place s) s

-- one of the shares has the index of s and other values
abbrev pub IsContradicted : List SecretShare → SecretShare → Type 0
IsContradicted before s = (u : SecretShare) × Contains before u × (u.index ≡ s.index) × ¬ (HaveEqualValues u s)

-- the share is sound, has this threshold, deal and number of values, and each of those before it that has its index has its values
pub record Stands (t : ℕ) (identity : F) (width : ℕ) (before : List SecretShare) (s : SecretShare) : Type 0 where
  pub sound : HasNoZero s
  pub of_deal : IsOfDeal t identity width s
  pub values : All (λ u. u.index ≡ s.index → HaveEqualValues u s) before

-- each of the first n shares stands with those before it
abbrev pub StandBelow : ℕ → F → ℕ → List SecretShare → ℕ → Type 0
StandBelow t identity width shares n = (k : ℕ) (s : SecretShare) → k < n → Stands t identity width (take k shares) (slice_index_or shares k s)

-- why a share at place k does not stand with those before it, where that is the refusal: the first of these faults in the order of the cases
abbrev pub IsFault : ℕ → F → ℕ → List SecretShare → SecretShare → ℕ → CombineError → Type 0
IsFault t identity width before s k (Unsound place) = (place ≡ k) × ¬ (HasNoZero s)
IsFault t identity width before s k (AnotherDeal place) = (place ≡ k) × HasNoZero s × ¬ (s.deal ≡ identity)
IsFault t identity width before s k (AnotherThreshold place) = (place ≡ k) × HasNoZero s × (s.deal ≡ identity) × ¬ (s.threshold ≡ t)
IsFault t identity width before s k (AnotherLength place) = (place ≡ k) × HasNoZero s × (s.deal ≡ identity) × (s.threshold ≡ t) × ¬ (length s.values.items ≡ width)
IsFault t identity width before s k (Repeated place) = (place ≡ k) × HasNoZero s × IsOfDeal t identity width s × IsContradicted before s
IsFault t identity width before s k _ = ⊥

-- the refusal is the fault of the first share that does not stand with those before it
abbrev pub IsFirstFault : ℕ → F → ℕ → List SecretShare → CombineError → Type 0
IsFirstFault t identity width shares error =
    (k : ℕ) × (s : SecretShare) × (k < length shares) × (slice_index_or shares k s ≡ s) × StandBelow t identity width shares k × IsFault t identity width (take k shares) s k error

-- the refusal is the fault of the first share that does not stand with those before it, or memory ran out
abbrev pub IsDueSettling : ℕ → F → ℕ → List SecretShare → CombineError → Type 0
IsDueSettling t identity width shares (Memory e) = Unit {0}
IsDueSettling t identity width shares error = IsFirstFault t identity width shares error

-- none of the first n shares has this index; or the one at the place that is given has it, and is one of them
abbrev pub IsPlaceOf : List SecretShare → ℕ → ℕ → Option ℕ → Type 0
IsPlaceOf shares n i None = (k : ℕ) (s : SecretShare) → k < n → ¬ ((slice_index_or shares k s).index ≡ i)
IsPlaceOf shares n i (Some p) = (p < n) × ((s : SecretShare) → (slice_index_or shares p s).index ≡ i)

-- whether one of the shares has this index
abbrev pub has_index : List SecretShare → ℕ → Bool
has_index shares index = list_any (λ s. s.index == index) shares

-- the shares that are kept, and after them each share whose index is none of those before it
abbrev pub firsts_after : List SecretShare → List SecretShare → List SecretShare
firsts_after kept [] = kept
firsts_after kept (s ∷ shares) = firsts_after (if has_index kept s.index then kept else kept ++ (s ∷ [])) shares

-- the shares, of each index the first
abbrev pub firsts : List SecretShare → List SecretShare
firsts shares = firsts_after [] shares
