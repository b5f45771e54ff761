-- What holds of all shares of a deal.
use Rattle.std.specs.List.{AllZip, Contains}
use Rattle.std.specs.Prelude.{◌≡◌, ◌≢◌, ◌≤◌, ℕ, List, length, Some, slice_get, All, AllPairs}
use Rattle.math_theory.specs.Coefficients.{coefficient}
use Rattle.math_base.specs.Members.{RingOf, SpaceOf}
use Rattle.shared_secret.specs.declared.shares.Share.{Share}
use Rattle.shared_secret.specs.Shares.{AreAtDistinctPoints, AreDealt, AreCombinable, IsCombined, IsRepeatedFirst, IsVerified, IsZeroFirst}

-- t or more of the shares that are dealt with a polynomial of at most t coefficients, no two of one index, are combinable, and to its constant alone
abbrev pub AnySharesCombine : {A : Type 0} → RingOf A → Type 0
AnySharesCombine {A} R = (t n : ℕ) (p : List A) (secret : A) (dealt shares : List (Share A))
    → length p ≤ t → slice_get p 0 ≡ Some secret → AreDealt R n p dealt
    → All (λ s. Contains dealt s) shares → AllPairs (λ s u. s.index ≢ u.index) shares → t ≤ length shares
    → AreCombinable R t shares × ((answer : A) → IsCombined R shares answer → R.same answer secret)

-- the commitment of a polynomial verifies each share that is dealt with it
abbrev pub DealtAreVerified : {A B : Type 0} → SpaceOf A B → RingOf B → A → Type 0
DealtAreVerified {A} {B} S R generator = (n : ℕ) (p : List B) (dealt : List (Share B)) (commitment : List A)
    → AreDealt R n p dealt → AllZip (λ scalar element. S.same element (S.scaling generator scalar)) p commitment
    → All (IsVerified S R generator commitment) dealt

-- the generator scaled by what verified shares combine to is same as the commitment's first coefficient, where it has no more coefficients than there are shares
abbrev pub VerifiedGiveCommitted : {A B : Type 0} → SpaceOf A B → RingOf B → A → Type 0
VerifiedGiveCommitted {A} {B} S R generator = (commitment : List A) (shares : List (Share B)) (answer : B)
    → length commitment ≤ length shares → All (IsVerified S R generator commitment) shares → IsCombined R shares answer
    → S.same (S.scaling generator answer) (coefficient S.zero commitment 0)

-- no two of these hold of the same shares: they are at distinct points other than zero, the first that can't be taken has the point zero, and it has the point of one before it
abbrev pub RefusalsExclude : {A : Type 0} → RingOf A → Type 0
RefusalsExclude {A} R = (shares : List (Share A))
    → (AreAtDistinctPoints R shares → ¬ (IsZeroFirst R shares)) × (AreAtDistinctPoints R shares → ¬ (IsRepeatedFirst R shares)) × (IsZeroFirst R shares → ¬ (IsRepeatedFirst R shares))
