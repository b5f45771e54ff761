-- What is drawn for a deal, how it explains the shares, and what of these does not depend on the bytes that are dealt.
use Rattle.std.specs.List.{Contains, flat_map}
use Rattle.std.specs.Prelude.{◌≡◌, ◌↔◌, ◌+◌, ◌<◌, ◌≤◌, ◌^◌, ℕ, List, ◌∷◌, length, drop, map, Option, Some, All}
use Rattle.rand_core.specs.Stream.{Stream}
use Rattle.math_fields.specs.declared.goldilocks.F.{F}
use Rattle.math_fields.specs.Elements.{number, sample_of}
use Rattle.math_base.specs.Samples.{first_below, samples}
use Rattle.secret_bytes.specs.declared.share.SecretShare.{SecretShare}
use Rattle.secret_bytes.specs.Deals.{AreDealtBytes, sample_count}
use Rattle.secret_bytes.specs.Explanations.{AreExplained, IsDealing}
use Rattle.secret_bytes.specs.Keyed.{AreKeyedBy}

-- the threshold, the index, the deal, and how many values there are: all of a share but the values
abbrev pub head_of : SecretShare → ℕ × ℕ × F × ℕ
head_of s = (s.threshold, s.index, s.deal, length s.values.items)

-- dealt from the same samples, with one threshold and as many shares, the shares of two lists of as many bytes differ in their values alone
abbrev pub SharesDifferInValuesAlone : Type 0
SharesDifferInValuesAlone = (bytes others : List ℕ) (t n : ℕ) (before after later : Stream) (dealt further : List SecretShare) → length others ≡ length bytes
    → AreDealtBytes bytes t n before after dealt → AreDealtBytes others t n before later further → map head_of further ≡ map head_of dealt

-- the next n words of a source that are taken for elements: of each 64 at most the first below P
abbrev pub accepted : ℕ → Stream → Option (List ℕ) × Stream
accepted n source = samples (first_below 64) n source

-- each list of samples is drawn from exactly one run of accepted words: the samples are these elements exactly where the accepted words are
-- their numbers, and some source gives them
abbrev pub EachListIsDrawnOnce : Type 0
EachListIsDrawnOnce = (xs : List F)
    → ((before after : Stream) → samples sample_of (length xs) before ≡ (Some xs, after) ↔ accepted (length xs) before ≡ (Some (map number xs), after))
    × ((before : Stream) × (after : Stream) × (samples sample_of (length xs) before ≡ (Some xs, after)))

-- what is drawn for a deal: its identity, the key, and of each polynomial all coefficients but the constant
abbrev pub draws : F → F → List (List F) → List F
draws identity key polynomials = identity ∷ key ∷ flat_map (drop 1) polynomials

-- The samples of a deal of the bytes are its identity, a key and the coefficients of polynomials that explain any of its shares. They do so
-- with the elements that the bytes have with this key; and where the deal has t - 1 shares at least, these elements explain all of its
-- shares by no other polynomials of t coefficients.
pub record IsExplainedDeal (bytes : List ℕ) (t n : ℕ) (before after : Stream) (dealt : List SecretShare) : Type 0 where
  pub identity : F
  pub key : F
  pub all : List F
  pub polynomials : List (List F)
  pub drawn : samples sample_of (sample_count t (length bytes)) before ≡ (Some (draws identity key polynomials), after)
  pub keyed : AreKeyedBy key bytes all
  pub of_deal : All (λ s. s.deal ≡ identity) dealt
  pub explained : (shares : List SecretShare) → All (Contains dealt) shares → AreExplained t all shares polynomials
  pub alone : t ≤ n + 1 → (others : List (List F)) → AreExplained t all dealt others → others ≡ polynomials

-- every deal of the bytes is an explained deal
abbrev pub DealsOfBytesAreExplained : Type 0
DealsOfBytesAreExplained = (bytes : List ℕ) (t n : ℕ) (before after : Stream) (dealt : List SecretShare) → 0 < t → n < 2 ^ 32 → AreDealtBytes bytes t n before after dealt
    → IsExplainedDeal bytes t n before after dealt

-- whatever dealing of the bytes explains some shares: where a source gives what is drawn for it, the shares of a deal from this source have
-- the values of these shares, index by index
abbrev pub ExplanationsAreDealt : Type 0
ExplanationsAreDealt = (bytes : List ℕ) (t n : ℕ) (before after : Stream) (dealt shares : List SecretShare) (identity : F) (d : List F × List (List F)) (h : IsDealing t shares bytes d)
    → 0 < t → n < 2 ^ 32 → AreDealtBytes bytes t n before after dealt → samples sample_of (sample_count t (length bytes)) before ≡ (Some (draws identity h.0.key d.1), after)
    → (s u : SecretShare) → Contains shares s → Contains dealt u → u.index ≡ s.index → u.values.items ≡ s.values.items
