-- One look at all elements of shares.
use Rattle.std.specs.Prelude.{◌≡◌, ◌≢◌, ◌<◌, ◌≤◌, ◌^◌, ℕ, List, [], map, length, slice_index_or, All, AllPairs}
use Rattle.math_fields.specs.declared.goldilocks.F.{F}
use Rattle.math_fields.specs.Elements.{residue, goldilocks}
use Rattle.secret_bytes.specs.declared.share.SecretShare.{SecretShare}
use Rattle.shared_secret.specs.CorrectedShares.{AreSharesWithinRadius, IsCorrectedSecret}
use Rattle.secret_bytes.specs.Columns.{column}
use Rattle.secret_bytes.specs.Combined.{AreElementsOfShares}
use Rattle.secret_bytes.specs.declared.combining.Pass.{Pass}
use Rattle.secret_bytes.specs.declared.combining.Pass.TheVariants.{Fit, TooManyWrong, Wrong}
use Rattle.secret_bytes.specs.declared.error.CombineError.{CombineError}
use Rattle.secret_bytes.specs.declared.error.CombineError.TheVariants as error

-- the index is not zero and fits 32 bits, and the share has `width` values
pub record IsPlain (width : ℕ) (s : SecretShare) : Type 0 where
  pub some : 0 < s.index
  pub small : s.index < 2 ^ 32
  pub count : length s.values.items ≡ width

-- at least t shares of distinct indices, each with `width` values
pub record AreReady (t width : ℕ) (shares : List SecretShare) : Type 0 where
  pub enough : t ≤ length shares
  pub apart : AllPairs (λ s u. s.index ≢ u.index) shares
  pub plain : All (IsPlain width) shares

-- the indices of the shares at these places
abbrev pub indices_at : List SecretShare → List ℕ → List ℕ
indices_at shares places = map (λ i. slice_index_or (map (λ s. s.index) shares) i 0) places

-- the first elements of the shares, of which none is wrong there
pub record AreFirstElements (t width : ℕ) (shares : List SecretShare) (elements : List F) : Type 0 where
  pub count : length elements ≤ width
  pub fit : (j : ℕ) → j < length elements → IsCorrectedSecret goldilocks t (column j shares) (slice_index_or elements j (residue 0)) []

-- what one look at the elements finds: `count` elements are all of them; or at some element the shares at these places are wrong; or at
-- some element too many are
abbrev pub IsPass : ℕ → ℕ → List SecretShare → ℕ → Pass → Type 0
IsPass t width shares count Fit = count ≡ width
IsPass t width shares count (Wrong places) = (j : ℕ) × (a : F) × (j < width) × (0 < length places.items) × IsCorrectedSecret goldilocks t (column j shares) a places.items
IsPass t width shares count TooManyWrong = (j : ℕ) × (j < width) × ((p : List F) → ¬ (AreSharesWithinRadius goldilocks t p (column j shares)))

-- at element j the shares at these places are wrong, or too many are for the element to be found
abbrev pub IsDecodedAt : ℕ → ℕ → List SecretShare → Pass → Type 0
IsDecodedAt t j shares Fit = ⊥
IsDecodedAt t j shares (Wrong places) = (a : F) × IsCorrectedSecret goldilocks t (column j shares) a places.items
IsDecodedAt t j shares TooManyWrong = (p : List F) → ¬ (AreSharesWithinRadius goldilocks t p (column j shares))

-- why no elements are recovered
abbrev pub IsDueRecovering : ℕ → ℕ → List SecretShare → CombineError → Type 0
IsDueRecovering t width shares (error.Memory e) = Unit {0}
IsDueRecovering t width shares error.TooManyWrong = (all : List F) (wrong : List ℕ) → ¬ (AreElementsOfShares t width shares all wrong)
IsDueRecovering t width shares _ = ⊥
