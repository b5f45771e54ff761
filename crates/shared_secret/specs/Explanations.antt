-- The polynomials that explain some shares by a secret, and how many there are.
use Rattle.std.specs.List.{AllZip, Contains}
use Rattle.std.specs.Prelude.{◌≡◌, ◌+◌, ◌-◌, ◌<◌, ◌≤◌, ◌^◌, ℕ, List, Option, length, drop, All}
use Rattle.rand_core.specs.Stream.{Stream}
use Rattle.math_theory.specs.Coefficients.{coefficient}
use Rattle.math_theory.specs.Interpolation.{AreApart}
use Rattle.math_base.specs.Members.{RingOf}
use Rattle.shared_secret.specs.declared.shares.Share.{Share}
use Rattle.shared_secret.specs.Shares.{AreSharesOf, AreAtDistinctPoints, AreDealt, IsSampled}

-- a polynomial of t coefficients whose constant is same as the secret, and which has the values of the shares at their points
pub record Explains {A : Type 0} (R : RingOf A) (t : ℕ) (secret : A) (shares : List (Share A)) (p : List A) : Type 0 where
  pub count : length p ≡ t
  pub constant : R.same (coefficient R.zero p 0) secret
  pub values : AreSharesOf R p shares

-- p explains the shares by the secret, and every other polynomial that does is same as p, coefficient by coefficient
abbrev pub ExplainsAlone : {A : Type 0} → RingOf A → ℕ → A → List (Share A) → List A → Type 0
ExplainsAlone {A} R t secret shares p = Explains R t secret shares p × ((q : List A) → Explains R t secret shares q → AllZip R.same q p)

-- t - 1 shares at distinct points other than zero are explained by every secret, and with each by exactly one polynomial of t coefficients
abbrev pub EachSecretExplainsOnce : {A : Type 0} → RingOf A → Type 0
EachSecretExplainsOnce {A} R = (shares : List (Share A)) (secret : A) → AreAtDistinctPoints R shares
    → (p : List A) × ExplainsAlone R (length shares + 1) secret shares p

-- j shares, fewer than t, are explained by every secret, and with each by exactly one polynomial of t coefficients for each choice of the last t - 1 - j of these
abbrev pub EachSecretExplainsByLast : {A : Type 0} → RingOf A → Type 0
EachSecretExplainsByLast {A} R = (t : ℕ) (shares : List (Share A)) (secret : A) (last : List A) → AreAtDistinctPoints R shares → length shares + 1 + length last ≡ t
    → (p : List A) × Explains R t secret shares p × AllZip R.same (drop (length shares + 1) p) last
    × ((q : List A) → Explains R t secret shares q → AllZip R.same (drop (length shares + 1) q) last → AllZip R.same q p)

-- every element is same as one of these, and no two of them are same
pub record AreAllElements {A : Type 0} (R : RingOf A) (elements : List A) : Type 0 where
  pub every : (a : A) → (b : A) × Contains elements b × R.same a b
  pub apart : AreApart R.same elements

-- each of these explains the shares by the secret, no two of them are same coefficient by coefficient, and every polynomial that does is same as one of them
pub record AreAllExplanations {A : Type 0} (R : RingOf A) (t : ℕ) (secret : A) (shares : List (Share A)) (ps : List (List A)) : Type 0 where
  pub each : All (Explains R t secret shares) ps
  pub apart : AreApart (AllZip R.same) ps
  pub every : (q : List A) → Explains R t secret shares q → (p : List A) × Contains ps p × AllZip R.same q p

-- in a field of q elements, j shares, fewer than t, are explained by each secret in exactly q to the power t - 1 - j ways
abbrev pub EachSecretExplainsEquallyOften : {A : Type 0} → RingOf A → Type 0
EachSecretExplainsEquallyOften {A} R = (elements : List A) (t : ℕ) (shares : List (Share A)) (secret : A) → AreAllElements R elements → AreAtDistinctPoints R shares
    → length shares < t → (ps : List (List A)) × AreAllExplanations R t secret shares ps × (length ps ≡ length elements ^ (t - 1 - length shares))

-- the polynomial of a deal, which is the secret and then the samples that were drawn, explains any of its shares by the secret; and where there are t - 1 shares at least, at distinct points, no
-- other one explains all of them
abbrev pub DealsAreExplained : {A : Type 0} → RingOf A → (Stream → Option A × Stream) → Type 0
DealsAreExplained {A} R sample = (secret : A) (t n : ℕ) (before after : Stream) (p : List A) (dealt : List (Share A)) → IsSampled sample secret t before after p → AreDealt R n p dealt
    → ((shares : List (Share A)) → All (Contains dealt) shares → Explains R t secret shares p)
    × (t ≤ n + 1 → AreAtDistinctPoints R dealt → (q : List A) → Explains R t secret dealt q → AllZip R.same q p)
