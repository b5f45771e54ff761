-- Shares of one deal, of each index the first, and why shares are not combined.
use Rattle.std.proofs.Common.{◌≡◌, ◌≢◌, ℕ, ◌<◌, ◌≤◌, ◌^◌, true, false, eqb, inl, inr, List, [], ◌∷◌, ◌++◌, length, slice_get, Some, Result, Ok, Err, IfErr, sym, subst, arith}
use Rattle.std.specs.List.{All, AllPairs}
use Rattle.std.specs.Result.{IsErrAnd}
use Rattle.std.proofs.lemmas.Bool.{cases_Bool, eq-eqb}
use Rattle.std.proofs.lemmas.List.Elements.{All-cons, All-head, All-nil, All-push, All-tail}
use Rattle.std.proofs.lemmas.List.Quantifiers.{all_pairs_push}
use Rattle.math_fields.specs.declared.goldilocks.F.{F}
use Rattle.secret_bytes.specs.declared.share.SecretShare.{SecretShare}
use Rattle.secret_bytes.specs.Combined.{AreOfOneDeal, IsDueCombining}
use Rattle.secret_bytes.specs.Passes.{AreReady, IsDueRecovering, IsPlain}
use Rattle.secret_bytes.specs.Settled.{IsDueSettling, StandBelow, firsts, firsts_after, has_index}
use Rattle.secret_bytes.specs.declared.error.CombineError.{CombineError}
use Rattle.secret_bytes.specs.declared.error.CombineError.TheVariants.{AnotherDeal, AnotherLength, AnotherThreshold, Changed, Memory, NoShare, Repeated, TooFew, TooManyWrong, Unsound}

abbrev AreDistinct : List SecretShare → Type 0
AreDistinct shares = AllPairs (λ s u. s.index ≢ u.index) shares

after-all : (P : SecretShare → Type 0) (kept shares : List SecretShare) → All P kept → All P shares → All P (firsts_after kept shares)
after-all P kept [] h k = h
after-all P kept (s ∷ shares) h k =
    elim (cases_Bool (has_index kept s.index)) as (λ _. All P (firsts_after kept (s ∷ shares))) [
      | inl t ↦ rw t (after-all P kept shares h (All-tail P s shares k))
      | inr f ↦ rw f (after-all P (kept ++ (s ∷ [])) shares (All-push P kept s h (All-head P s shares k)) (All-tail P s shares k))
    ]

-- what all shares have, the firsts have
pub firsts-all : (P : SecretShare → Type 0) (shares : List SecretShare) → All P shares → All P (firsts shares)
firsts-all P shares h = after-all P [] shares (All-nil P) h

none-has : (kept : List SecretShare) (i : ℕ) → has_index kept i ≡ false → All (λ s. s.index ≢ i) kept
none-has [] i e = All-nil (λ s. s.index ≢ i)
none-has (s ∷ kept) i e =
    elim (cases_Bool (eqb s.index i)) as (λ _. All (λ s. s.index ≢ i) (s ∷ kept)) [
      | inl t ↦ let z : true ≡ false = rw t at e in cc
      | inr f ↦ All-cons (λ (u : SecretShare). u.index ≢ i) s kept (λ same_index. let z : eqb s.index i ≡ true = eq-eqb s.index i same_index in cc) (none-has kept i (rw f at e))
    ]

after-apart : (kept shares : List SecretShare) → AreDistinct kept → AreDistinct (firsts_after kept shares)
after-apart kept [] h = h
after-apart kept (s ∷ shares) h =
    elim (cases_Bool (has_index kept s.index)) as (λ _. AreDistinct (firsts_after kept (s ∷ shares))) [
      | inl t ↦ rw t (after-apart kept shares h)
      | inr f ↦ rw f (after-apart (kept ++ (s ∷ [])) shares (all_pairs_push (λ (s u : SecretShare). s.index ≢ u.index) kept s h (none-has kept s.index f)))
    ]

pub firsts-apart : (shares : List SecretShare) → AreDistinct (firsts shares)
firsts-apart shares = after-apart [] shares (λ i j d l m. absurd (omega (arith, m)))

-- the firsts of shares that stand are ready, where they are enough
pub firsts-ready : (t : ℕ) (identity : F) (width : ℕ) (shares : List SecretShare) → StandBelow t identity width shares (length shares) → All (λ s. s.index < 2 ^ 32) shares
    → t ≤ length (firsts shares) → AreReady t width (firsts shares)
firsts-ready t identity width shares stand small enough = record {
  enough = enough;
  apart = firsts-apart shares;
  plain = firsts-all (IsPlain width) shares (λ k d l. record { some = (stand k d l).sound.1; small = small k d l; count = (stand k d l).of_deal.count });
}

-- why shares do not stand is why they are not combined
pub due-fault : (shares : List SecretShare) (first : SecretShare) → slice_get shares 0 ≡ Some first → (error : CombineError)
    → IsDueSettling first.threshold first.deal (length first.values.items) shares error → IsDueCombining shares error
due-fault shares first e (Memory m) h = tt
due-fault shares first e NoShare h = absurd h.5
due-fault shares first e (Unsound place) h = (first, e, h)
due-fault shares first e (AnotherDeal place) h = (first, e, h)
due-fault shares first e (AnotherThreshold place) h = (first, e, h)
due-fault shares first e (AnotherLength place) h = (first, e, h)
due-fault shares first e (Repeated place) h = (first, e, h)
due-fault shares first e (TooFew count t) h = absurd h.5
due-fault shares first e TooManyWrong h = absurd h.5
due-fault shares first e Changed h = absurd h.5

-- and so is why nothing is recovered
pub due-recovering : (shares : List SecretShare) (first : SecretShare) → AreOfOneDeal first shares → first.threshold ≤ length (firsts shares) → (error : CombineError)
    → IsDueRecovering first.threshold (length first.values.items) (firsts shares) error → IsDueCombining shares error
due-recovering shares first o l (Memory m) h = tt
due-recovering shares first o l NoShare h = absurd h
due-recovering shares first o l (Unsound place) h = absurd h
due-recovering shares first o l (AnotherDeal place) h = absurd h
due-recovering shares first o l (AnotherThreshold place) h = absurd h
due-recovering shares first o l (AnotherLength place) h = absurd h
due-recovering shares first o l (Repeated place) h = absurd h
due-recovering shares first o l (TooFew count t) h = absurd h
due-recovering shares first o l TooManyWrong h = (first, o, l, h)
due-recovering shares first o l Changed h = absurd h

-- what an error says of itself, it says where it is passed on
pub refused : {X : Type 0} (r : Result X CombineError) (e : CombineError) (P : CombineError → Type 0) → IsErrAnd r (λ x. x ≡ e) → P e → IfErr r P
refused (Ok x) e P h k = tt
refused (Err x) e P h k = subst P (sym h) k
