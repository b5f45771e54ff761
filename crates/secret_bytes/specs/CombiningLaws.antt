-- What holds of all shares of a deal of bytes, of all lines of such shares, and of shares that are changed.
use Rattle.std.specs.List.{AllZip, Contains}
use Rattle.std.specs.Prelude.{◌≡◌, ◌≢◌, ◌-◌, ◌<◌, ◌≤◌, ◌^◌, ℕ, List, [], length, All, AllPairs}
use Rattle.rand_core.specs.Stream.{Stream}
use Rattle.math_theory.specs.Interpolation.{AreApart}
use Rattle.math_fields.specs.declared.goldilocks.F.{F}
use Rattle.math_fields.specs.Elements.{same, sum}
use Rattle.secret_bytes.specs.declared.share.SecretShare.{SecretShare}
use Rattle.secret_bytes.specs.Refusals as line
use Rattle.secret_bytes.specs.SecretShares.{AreSameShares}
use Rattle.secret_bytes.specs.Combined.{AreCombined, IsDueCombining}
use Rattle.secret_bytes.specs.Deals.{AreDealtBytes}
use Rattle.secret_bytes.specs.KeyChecks.{added}
use Rattle.secret_bytes.specs.Keyed.{element_count}
use Rattle.secret_bytes.specs.Settled.{firsts}
use Rattle.secret_bytes.specs.Texts.{AreLinesOf, AreReadAs, IsDueReading}
use Rattle.secret_bytes.specs.declared.error.CombineError.{CombineError}
use Rattle.secret_bytes.specs.declared.error.CombineError.TheVariants.{Memory}
use Rattle.secret_bytes.specs.declared.text.LineFault.{LineFault}

-- the refusal says that memory ran out
abbrev pub IsMemory : CombineError → Type 0
IsMemory (Memory e) = Unit {0}
IsMemory _ = ⊥

-- the share is the same as one of these
abbrev pub IsSameAsOne : List SecretShare → SecretShare → Type 0
IsSameAsOne dealt s = (u : SecretShare) × Contains dealt u × AreSameShares s u

-- the shares are refused only because memory ran out, and are combined to the bytes alone, none of them being wrong
abbrev pub CombineToAlone : List ℕ → List SecretShare → Type 0
CombineToAlone bytes shares =
    ((error : CombineError) → IsDueCombining shares error → IsMemory error)
    × ((found wrong : List ℕ) → AreCombined shares found wrong → (found ≡ bytes) × (wrong ≡ []))

-- shares of a deal of the bytes, or copies of them, in any order, of which at least t have distinct indices, are refused only because
-- memory ran out, and combined to the bytes alone
abbrev pub AnySharesOfBytesCombine : Type 0
AnySharesOfBytesCombine = (bytes : List ℕ) (t n : ℕ) (before after : Stream) (dealt shares : List SecretShare) → 0 < t → n < 2 ^ 32 → AreDealtBytes bytes t n before after dealt
    → All (IsSameAsOne dealt) shares → t ≤ length (firsts shares) → CombineToAlone bytes shares

-- a text whose lines are the lines of shares of a deal, at least t of distinct indices, blank lines aside, is refused only because memory
-- ran out, and its shares are combined to the bytes alone
abbrev pub AnyLinesCombine : Type 0
AnyLinesCombine = (bytes text : List ℕ) (t n : ℕ) (before after : Stream) (dealt chosen : List SecretShare) (numbers : List ℕ) → 0 < t → t ≤ n → n < 2 ^ 32 → length bytes ≤ 65536
    → AreDealtBytes bytes t n before after dealt → AreLinesOf text chosen numbers → All (Contains dealt) chosen → t ≤ length (firsts chosen)
    → ((fault : LineFault) → IsDueReading text fault → line.IsMemory fault.why)
    × ((shares : List SecretShare) (places : List ℕ) → AreReadAs text shares places → CombineToAlone bytes shares)

-- s is one of the dealt shares, with its number of values, and with what is changed, by its index, added to these
pub record IsChanged (dealt : List SecretShare) (s : SecretShare) (change : ℕ × List F) : Type 0 where
  pub before : SecretShare
  pub one_of : Contains dealt before
  pub threshold : s.threshold ≡ before.threshold
  pub index : s.index ≡ before.index
  pub same_index : change.0 ≡ before.index
  pub values : s.values.items ≡ added sum before.values.items change.1

-- with this key, shares of some deal of the bytes, with these changes, are combined to other bytes
pub record PassesChanged (bytes : List ℕ) (t n : ℕ) (changes : List (ℕ × List F)) (key : F) : Type 0 where
  pub before : Stream
  pub after : Stream
  pub dealt : List SecretShare
  pub deal : AreDealtBytes bytes t n before after dealt
  pub keyed : deal.keyed.key ≡ key
  pub shares : List SecretShare
  pub changed : AllZip (IsChanged dealt) shares changes
  pub found : List ℕ
  pub wrong : List ℕ
  pub combined : AreCombined shares found wrong
  pub other : found ≢ bytes

-- changes of shares of distinct indices that do not depend on the key pass for at most n + 1 of all keys, n being the number of elements of the bytes
abbrev pub ChangesPassRarely : Type 0
ChangesPassRarely = (bytes : List ℕ) (t n : ℕ) (changes : List (ℕ × List F)) (keys : List F) → 0 < t → n < 2 ^ 32 → AllPairs (λ c d. c.0 ≢ d.0) changes
    → AreApart same keys → All (PassesChanged bytes t n changes) keys → length keys ≤ element_count (length bytes) - 1
