-- Why a line was refused, and why no lines were written.
use Rattle.std.specs.List.{Contains}
use Rattle.std.specs.Prelude.{◌≡◌, ◌⊎◌, ◌<◌, ◌≤◌, ◌^◌, ℕ, List, length}
use Rattle.secret_bytes.specs.declared.line.LineError.{LineError}
use Rattle.secret_bytes.specs.declared.line.LineError.TheVariants.{Behind, Memory, Mistyped, NoShare}
use Rattle.secret_bytes.specs.declared.share.SecretShare.{SecretShare}
use Rattle.secret_bytes.specs.Lines.{with_check}

-- memory ran out
abbrev pub IsMemory : LineError → Type 0
IsMemory (Memory e) = Unit {0}
IsMemory NoShare = ⊥
IsMemory Mistyped = ⊥
IsMemory Behind = ⊥

-- the text ends with the check of what stands before it
abbrev pub HasCheck : List ℕ → Type 0
HasCheck text = (body : List ℕ) × (text ≡ with_check body)

-- why a text is no line: it has as many characters as a check and does not end with its check; or it has fewer, or ends with its check
abbrev pub IsDueRefusal : List ℕ → LineError → Type 0
IsDueRefusal text (Memory e) = Unit {0}
IsDueRefusal text NoShare = (length text < 20) ⊎ HasCheck text
IsDueRefusal text Mistyped = (20 ≤ length text) × ¬ (HasCheck text)
IsDueRefusal text Behind = ⊥

-- the share has at most 2^20 values, as many as a line may have
abbrev pub HasLine : SecretShare → Type 0
HasLine s = length s.values.items ≤ 2 ^ 20

-- why no lines of shares were written: memory ran out, or one of them has more values
abbrev pub IsDueWriting : List SecretShare → LineError → Type 0
IsDueWriting shares (Memory e) = Unit {0}
IsDueWriting shares NoShare = (s : SecretShare) × Contains shares s × ¬ (HasLine s)
IsDueWriting shares Mistyped = ⊥
IsDueWriting shares Behind = ⊥
