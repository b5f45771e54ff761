-- What is answered where lines of shares are combined.
use Rattle.std.specs.List.{list_any}
use Rattle.std.specs.Prelude.{◌≡◌, ◌⊎◌, ◌<◌, ◌≤◌, ◌==◌, ◌&&◌, ℕ, not, List, [], ◌∷◌, ◌++◌, Some, if◌then◌else◌, length, map, take, slice_get, slice_index_or, All}
use Rattle.secret_bytes.specs.declared.share.SecretShare.{SecretShare}
use Rattle.secret_bytes.specs.Combined.{AreCombined, IsDueCombining}
use Rattle.secret_bytes.specs.Texts.{AreReadAs, IsFirstNoLine}
use Rattle.secret_bytes.specs.declared.error.CombineError.{CombineError}
use Rattle.secret_bytes.specs.declared.error.CombineError.TheVariants as combine
use Rattle.secretshares_commands.specs.declared.fault.Fault.{Fault}
use Rattle.secretshares_commands.specs.declared.fault.Fault.TheVariants.{Combine, Line, Memory, Share, TooGreat}

-- the threshold and the index are at most 255, as in each share that the program deals
abbrev pub CanBeDealt : SecretShare → Type 0
CanBeDealt s = (s.threshold ≤ 255) × (s.index ≤ 255)

-- the bytes are what the shares of the text's lines combine to, each of which can be one that the program dealt
abbrev pub IsAnswerTo : List ℕ → List ℕ → Type 0
IsAnswerTo text bytes = (shares : List SecretShare) × (numbers : List ℕ) × (wrong : List ℕ) × AreReadAs text shares numbers × All CanBeDealt shares × AreCombined shares bytes wrong

-- the indices, and behind them this one where it is a wrong one and none of them
abbrev pub with_wrong : List ℕ → List ℕ → ℕ → List ℕ
with_wrong wrong out i = if list_any (λ k. k == i) wrong && not (list_any (λ k. k == i) out) then out ++ (i ∷ []) else out

-- these indices, and behind them each further one that is wrong, once, in the order in which they are given
abbrev pub in_order : List ℕ → List ℕ → List ℕ → List ℕ
in_order wrong out [] = out
in_order wrong out (i ∷ indices) = in_order wrong (with_wrong wrong out i) indices

-- the error means the share at this place
abbrev pub IsAt : CombineError → ℕ → Type 0
IsAt (combine.Unsound place) k = place ≡ k
IsAt (combine.AnotherDeal place) k = place ≡ k
IsAt (combine.AnotherThreshold place) k = place ≡ k
IsAt (combine.AnotherLength place) k = place ≡ k
IsAt (combine.Repeated place) k = place ≡ k
IsAt _ k = ⊥

-- the fault is the error alone, or with the number and the index that stand at the place which the error means
abbrev pub IsNamed : List ℕ → List ℕ → CombineError → Fault → Type 0
IsNamed numbers indices error (Share number index e) = (e ≡ error) × (k : ℕ) × IsAt error k × (slice_get numbers k ≡ Some number) × (slice_get indices k ≡ Some index)
IsNamed numbers indices error (Combine e) = e ≡ error
IsNamed numbers indices error _ = ⊥

-- the number is above 255, and it is the threshold of the share or its index
abbrev pub IsTooGreat : SecretShare → ℕ → Type 0
IsTooGreat s given = (255 < given) × ((given ≡ s.threshold) ⊎ (given ≡ s.index))

-- the fault names the first share that the program cannot have dealt, by the number of the line that it begins with, and its threshold or its index, which is above 255
abbrev pub IsFirstTooGreat : List ℕ → List SecretShare → Fault → Type 0
IsFirstTooGreat numbers shares (TooGreat number name given) =
    (k : ℕ) × (s : SecretShare) × (k < length shares) × (slice_index_or shares k s ≡ s) × (slice_index_or numbers k 0 ≡ number) × All CanBeDealt (take k shares) × IsTooGreat s given
IsFirstTooGreat numbers shares _ = ⊥

-- why the text's lines give no secret: the first line that is none, and why it is none; or the first share that the program cannot have dealt; or why their shares are not combined, with the number of the line and the index of the share that is meant
abbrev pub IsDueFor : List ℕ → Fault → Type 0
IsDueFor text (Memory e) = Unit {0}
IsDueFor text (Line number why) = IsFirstNoLine text number why
IsDueFor text (TooGreat number name given) = (shares : List SecretShare) × (numbers : List ℕ) × AreReadAs text shares numbers × IsFirstTooGreat numbers shares (TooGreat number name given)
IsDueFor text (Share number index error) =
    (shares : List SecretShare) × (numbers : List ℕ) × AreReadAs text shares numbers × IsDueCombining shares error
    × (k : ℕ) × IsAt error k × (slice_get numbers k ≡ Some number) × (slice_get (map (λ s. s.index) shares) k ≡ Some index)
IsDueFor text (Combine error) = (shares : List SecretShare) × (numbers : List ℕ) × AreReadAs text shares numbers × IsDueCombining shares error
IsDueFor text _ = ⊥
