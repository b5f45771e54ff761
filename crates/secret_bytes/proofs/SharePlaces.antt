-- Shares that are compared with the first one of their index alone.
use Rattle.std.proofs.Common.{◌≡◌, ◌∙◌, ℕ, Option, Some, None, ◌<◌, ◌≤◌, inl, inr, List, length, take, get_or, sym, ap, arith}
use Rattle.std.specs.List.{All}
use Rattle.std.specs.Option.{IsSomeAnd, IfSome}
use Rattle.std.proofs.lemmas.Bool.{cases_lt}
use Rattle.std.proofs.lemmas.List.{get_or-take, get_or_default, length-take-le}
use Rattle.math_fields.specs.declared.goldilocks.F.{F}
use Rattle.secret_bytes.specs.declared.share.SecretShare.{SecretShare}
use Rattle.secret_bytes.specs.Settled.{HaveEqualValues, IsContradicted, IsDueSettling, IsFault, IsPlaceOf, StandBelow}
use Rattle.secret_bytes.specs.declared.error.CombineError.{CombineError}
use Rattle.secret_bytes.specs.declared.error.CombineError.TheVariants.{AnotherDeal, AnotherLength, AnotherThreshold, Changed, Memory, NoShare, Repeated, TooFew, TooManyWrong, Unsound}

-- a share with the values of the first of its index has those of all of its index before it, which stand
pub values-hold : (t : ℕ) (identity : F) (width : ℕ) (shares : List SecretShare) (n : ℕ) (s : SecretShare) (first : Option ℕ) → n ≤ length shares → StandBelow t identity width shares n
    → IsPlaceOf shares n s.index first → IfSome first (λ p. HaveEqualValues (get_or shares p s) s) → All (λ u. u.index ≡ s.index → HaveEqualValues u s) (take n shares)
values-hold t identity width shares n s None fits stand h same = λ k d l e.
    let m : k < n = omega (arith, l, length-take-le n shares fits) in
    let at : get_or (take n shares) k d ≡ get_or shares k d = get_or-take n shares k d m in
    absurd (h k d m (ap (λ (u : SecretShare). u.index) (sym at) ∙ e))
values-hold t identity width shares n s (Some p) fits stand h same = λ k d l e.
    let m : k < n = omega (arith, l, length-take-le n shares fits) in
    let at : get_or (take n shares) k d ≡ get_or shares k d = get_or-take n shares k d m in
    let index : (get_or shares k d).index ≡ s.index = ap (λ (u : SecretShare). u.index) (sym at) ∙ e in
    let goal : HaveEqualValues (get_or shares k d) s =
    elim (cases_lt k p) as (λ _. HaveEqualValues (get_or shares k d) s) [
      | inl before ↦
          let some : k < length (take p shares) = omega (arith, before, h.0, fits, length-take-le p shares (let w : p ≤ length shares = omega (arith, h.0, fits) in w)) in
          let there : get_or (take p shares) k d ≡ get_or shares k d = get_or-take p shares k d before in
          let stands = (stand p s h.0).values k d some (ap (λ (u : SecretShare). u.index) there ∙ index ∙ sym (h.1 s)) in
          ap (λ (u : SecretShare). u.values.items) (sym there) ∙ stands ∙ same
      | inr after ↦
          elim (cases_lt p k) as (λ _. HaveEqualValues (get_or shares k d) s) [
            | inl before ↦
                let some : p < length (take k shares) = omega (arith, before, m, fits, length-take-le k shares (let w : k ≤ length shares = omega (arith, m, fits) in w)) in
                let there : get_or (take k shares) p s ≡ get_or shares p s = get_or-take k shares p s before in
                let stands = (stand k d m).values p s some (ap (λ (u : SecretShare). u.index) there ∙ h.1 s ∙ sym index) in
                sym stands ∙ ap (λ (u : SecretShare). u.values.items) there ∙ same
            | inr not_before ↦
                let equal : k ≡ p = omega (arith, after, not_before) in
                let one : get_or shares k d ≡ get_or shares p s = ap (λ x. get_or shares x d) equal ∙ get_or_default shares p d s (omega (arith, h.0, fits)) in
                ap (λ (u : SecretShare). u.values.items) one ∙ same
          ]
    ] in
    ap (λ (u : SecretShare). u.values.items) at ∙ goal

-- a share with other values than the first of its index is contradicted
pub contradicted : (shares : List SecretShare) (n : ℕ) (s : SecretShare) (first : Option ℕ) → n ≤ length shares → IsPlaceOf shares n s.index first
    → IsSomeAnd first (λ p. HaveEqualValues (get_or shares p s) s → ⊥) → IsContradicted (take n shares) s
contradicted shares n s None fits h differ = absurd differ
contradicted shares n s (Some p) fits h differ =
    let u = get_or shares p s in
    let there : get_or (take n shares) p u ≡ u = get_or-take n shares p u h.0 ∙ get_or_default shares p u s (omega (arith, h.0, fits)) in
    (u, (p, omega (arith, h.0, length-take-le n shares fits), there), h.1 s, differ)

-- the fault of a share after shares that stand is why they do not
pub due-settling : (t : ℕ) (identity : F) (width : ℕ) (shares : List SecretShare) (k : ℕ) (s : SecretShare) (error : CombineError) → k < length shares → get_or shares k s ≡ s
    → StandBelow t identity width shares k → IsFault t identity width (take k shares) s k error → IsDueSettling t identity width shares error
due-settling t identity width shares k s (Memory m) l e stand h = tt
due-settling t identity width shares k s NoShare l e stand h = (k, s, l, e, stand, h)
due-settling t identity width shares k s (Unsound place) l e stand h = (k, s, l, e, stand, h)
due-settling t identity width shares k s (AnotherDeal place) l e stand h = (k, s, l, e, stand, h)
due-settling t identity width shares k s (AnotherThreshold place) l e stand h = (k, s, l, e, stand, h)
due-settling t identity width shares k s (AnotherLength place) l e stand h = (k, s, l, e, stand, h)
due-settling t identity width shares k s (Repeated place) l e stand h = (k, s, l, e, stand, h)
due-settling t identity width shares k s (TooFew count n) l e stand h = (k, s, l, e, stand, h)
due-settling t identity width shares k s TooManyWrong l e stand h = (k, s, l, e, stand, h)
due-settling t identity width shares k s Changed l e stand h = (k, s, l, e, stand, h)
