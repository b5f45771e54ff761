-- Shares of bytes that are dealt.
use Rattle.std.specs.List.{range_with_len}
use Rattle.std.specs.Prelude.{◌≡◌, ◌+◌, ◌-◌, ◌*◌, ◌<◌, ◌≤◌, ℕ, List, [], ◌∷◌, length, map, slice_index_or, Some, None, All}
use Rattle.rand_core.specs.Stream.{Stream}
use Rattle.math_fields.specs.declared.goldilocks.F.{F}
use Rattle.math_fields.specs.Elements.{sample_of, goldilocks}
use Rattle.math_base.specs.Samples.{samples}
use Rattle.math_base.specs.declared.algebra.RandomError.{RandomError}
use Rattle.math_base.specs.declared.algebra.RandomError.TheVariants as random
use Rattle.secret_bytes.specs.declared.error.DealError.{DealError}
use Rattle.secret_bytes.specs.declared.error.DealError.TheVariants.{Memory, TooManyWords}
use Rattle.secret_bytes.specs.declared.share.SecretShare.{SecretShare}
use Rattle.shared_secret.specs.Shares.{AreDealt, IsSampled}
use Rattle.secret_bytes.specs.Columns.{column}
use Rattle.secret_bytes.specs.Keyed.{AreKeyed, element_count}

-- for each element in turn a polynomial of t coefficients: the element, and then the next samples of a source, which they take from `before` to `after`
abbrev pub AreSampled : ℕ → Stream → Stream → List F → List (List F) → Type 0
AreSampled t before after [] [] = before ≡ after
AreSampled t before after [] (p ∷ polynomials) = ⊥
AreSampled t before after (a ∷ all) [] = ⊥
AreSampled t before after (a ∷ all) (p ∷ polynomials) = (between : Stream) × IsSampled sample_of a t before between p × AreSampled t between after all polynomials

-- the share has this threshold, is of the deal with this identity, and has `width` values
pub record IsOfDeal (t : ℕ) (identity : F) (width : ℕ) (s : SecretShare) : Type 0 where
  pub threshold : s.threshold ≡ t
  pub deal : s.deal ≡ identity
  pub count : length s.values.items ≡ width

-- The shares of a deal have the indices 1 to n in order, one deal and the threshold t, and value j of each is the value of a polynomial of
-- t coefficients whose constant is element j of the elements that the bytes have with a key and a check. The deal, the key and all other
-- coefficients are the next samples of a source.
pub record AreDealtBytes (bytes : List ℕ) (t n : ℕ) (before after : Stream) (shares : List SecretShare) : Type 0 where
  pub deal : F
  pub all : List F
  pub polynomials : List (List F)
  pub second : Stream
  pub third : Stream
  pub keyed : AreKeyed bytes all
  pub deal_sampled : sample_of before ≡ (Some deal, second)
  pub key_sampled : sample_of second ≡ (Some keyed.key, third)
  pub sampled : AreSampled t third after all polynomials
  pub indices : map (λ s. s.index) shares ≡ range_with_len 1 n
  pub alike : All (IsOfDeal t deal (length all)) shares
  pub columns : (j : ℕ) → j < length polynomials → AreDealt goldilocks n (slice_index_or polynomials j []) (column j shares)

-- how many samples a deal of n bytes takes: the deal, the key, and t - 1 for each element
abbrev pub sample_count : ℕ → ℕ → ℕ
sample_count t n = 2 + element_count n * (t - 1)

-- a refused sample as a refused deal
abbrev pub refusal_of : RandomError → DealError
refusal_of (random.Memory e) = Memory e
refusal_of random.TooManyWords = TooManyWords

-- why n samples are not drawn: one of them is refused; or memory ran out, and the samples drawn before are there
abbrev pub IsDueSampling : ℕ → Stream → Stream → DealError → Type 0
IsDueSampling n before after TooManyWords = samples sample_of n before ≡ (None, after)
IsDueSampling n before after (Memory e) = (k : ℕ) × (xs : List F) × (k ≤ n) × (samples sample_of k before ≡ (Some xs, after))
