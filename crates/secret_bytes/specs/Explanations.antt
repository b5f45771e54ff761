-- The dealings that explain the values of some shares by the elements of a secret.
use Rattle.std.specs.List.{AllZip, Contains}
use Rattle.std.specs.Prelude.{◌≡◌, ◌≢◌, ◌+◌, ◌-◌, ◌*◌, ◌<◌, ◌^◌, ℕ, List, [], length, slice_index_or, All, AllPairs}
use Rattle.math_numbers.specs.Goldilocks.{P}
use Rattle.math_fields.specs.declared.goldilocks.F.{F}
use Rattle.math_fields.specs.Elements.{residue, same, goldilocks}
use Rattle.secret_bytes.specs.Packings.{AreBytes}
use Rattle.secret_bytes.specs.declared.share.SecretShare.{SecretShare}
use Rattle.shared_secret.specs.Explanations.{Explains}
use Rattle.secret_bytes.specs.Columns.{column}
use Rattle.secret_bytes.specs.Keyed.{AreKeyed, AreKeyedBy, element_count}

-- each share has `width` values
abbrev pub HaveWidth : ℕ → List SecretShare → Type 0
HaveWidth width shares = All (λ s. length s.values.items ≡ width) shares

-- each share has a value for each element; and for each element there is a polynomial of t coefficients that has it as its constant, and the values of this element of the shares
pub record AreExplained (t : ℕ) (all : List F) (shares : List SecretShare) (polynomials : List (List F)) : Type 0 where
  pub width : HaveWidth (length all) shares
  pub count : length polynomials ≡ length all
  pub each : (j : ℕ) → j < length all → Explains goldilocks t (slice_index_or all j (residue 0)) (column j shares) (slice_index_or polynomials j [])

-- the shares have distinct indices other than zero, each of which fits 32 bits
pub record HaveDistinctIndices (shares : List SecretShare) : Type 0 where
  pub apart : AllPairs (λ s u. s.index ≢ u.index) shares
  pub some : All (λ s. 0 < s.index) shares
  pub small : All (λ s. s.index < 2 ^ 32) shares

-- whatever the values of t - 1 shares, of distinct indices other than zero, every list of as many elements explains them, and by exactly one list of polynomials of t coefficients
abbrev pub EachSecretExplains : Type 0
EachSecretExplains = (shares : List SecretShare) (all : List F) → HaveDistinctIndices shares → HaveWidth (length all) shares
    → (polynomials : List (List F)) × AreExplained (length shares + 1) all shares polynomials
    × ((others : List (List F)) → AreExplained (length shares + 1) all shares others
    → (j : ℕ) → j < length all → AllZip same (slice_index_or others j []) (slice_index_or polynomials j []))

-- the bytes with this key are the elements `all` alone, three more than hold the bytes; and these explain the values of t - 1 shares by these polynomials of t coefficients alone
pub record IsExplainedOnce (shares : List SecretShare) (bytes : List ℕ) (key : F) : Type 0 where
  pub all : List F
  pub polynomials : List (List F)
  pub keyed : AreKeyedBy key bytes all
  pub only_elements : (others : List F) → AreKeyedBy key bytes others → others ≡ all
  pub count : length all ≡ element_count (length bytes)
  pub explained : AreExplained (length shares + 1) all shares polynomials
  pub only_polynomials : (others : List (List F)) → AreExplained (length shares + 1) all shares others → others ≡ polynomials

-- whatever the values of t - 1 shares, of distinct indices other than zero, every secret of bytes for which they have as many values as elements are dealt explains them with every key, in exactly one way
abbrev pub EachSecretOfBytesExplains : Type 0
EachSecretOfBytesExplains = (shares : List SecretShare) (bytes : List ℕ) (key : F) → HaveDistinctIndices shares → AreBytes bytes → HaveWidth (element_count (length bytes)) shares
    → IsExplainedOnce shares bytes key

-- a dealing, by a list of elements and a list of polynomials: the elements of the bytes with some key explain the values of the shares by
-- these polynomials of t coefficients
abbrev pub IsDealing : ℕ → List SecretShare → List ℕ → List F × List (List F) → Type 0
IsDealing t shares bytes d = AreKeyed bytes d.0 × AreExplained t d.0 shares d.1

-- these are all dealings: no two are the same, and there is no other one
pub record AreAllDealings (t : ℕ) (shares : List SecretShare) (bytes : List ℕ) (dealings : List (List F × List (List F))) : Type 0 where
  pub each : All (IsDealing t shares bytes) dealings
  pub apart : AllPairs (λ d e. d ≢ e) dealings
  pub every : (d : List F × List (List F)) → IsDealing t shares bytes d → Contains dealings d

-- j shares, fewer than t, are explained by every secret of bytes in exactly as many ways: one for each of the P keys and each choice of t -
-- 1 - j coefficients for each of the elements that are dealt
abbrev pub EachSecretOfBytesExplainsEquallyOften : Type 0
EachSecretOfBytesExplainsEquallyOften = (t : ℕ) (shares : List SecretShare) (bytes : List ℕ) → HaveDistinctIndices shares → AreBytes bytes → HaveWidth (element_count (length bytes)) shares
    → length shares < t
    → (dealings : List (List F × List (List F))) × AreAllDealings t shares bytes dealings × (length dealings ≡ P * (P ^ (t - 1 - length shares)) ^ element_count (length bytes))
