-- What is wrong with some bytes, and what a reader answers.
use Rattle.std.specs.Prelude.{◌≡◌, ℕ, List, length, Option, Some, None, IfSome, IfNone, IsNone, Result, Ok, Err, IfErr, ◌==◌, if◌then◌else◌}
use Rattle.math_codec.specs.declared.codec.error.Error.{Error}
use Rattle.math_codec.specs.declared.codec.error.Error.TheVariants as errors

-- what is wrong with some bytes: each error but that memory ran out
pub data Fault : Type 0 where
  EndOfBuffer : Fault
  InvalidVarint : Fault
  InvalidLength : (n : ℕ) → Fault
  Invalid : (kind text : List ℕ) → Fault
  ExtraData : (n : ℕ) → Fault

-- the fault that an error reports; none where memory ran out
abbrev pub fault_of : Error → Option Fault
fault_of (errors.Memory e) = None
fault_of errors.EndOfBuffer = Some EndOfBuffer
fault_of errors.InvalidVarint = Some InvalidVarint
fault_of (errors.InvalidLength n) = Some (InvalidLength n)
fault_of (errors.Invalid kind text) = Some (Invalid kind.now text.now)
fault_of (errors.ExtraData n) = Some (ExtraData n)

-- the error says that memory ran out
abbrev pub IsMemory : Error → Type 0
IsMemory e = IsNone (fault_of e)

-- where memory ran out, P holds
abbrev pub OnMemory : {X : Type 0} → Result X Error → Type 0 → Type 0
OnMemory result P = IfErr result (λ e. IfNone (fault_of e) P)

-- the error reports the expected fault, or memory ran out
abbrev pub Reports : {A : Type 0} → Error → Result A Fault → Type 0
Reports e expected = IfSome (fault_of e) (λ fault. expected ≡ Err fault)

-- the result, seen by view, is the expected one; or it reports the expected fault
abbrev pub Agrees : {X Y : Type 0} → (X → Y) → Result X Error → Result Y Fault → Type 0
Agrees view (Ok x) expected = expected ≡ Ok (view x)
Agrees view (Err e) expected = Reports e expected

-- a reader left the expected rest, or reports the expected fault
abbrev pub Reads : {X : Type 0} → Result X Error → List ℕ → Result (List ℕ) Fault → Type 0
Reads result rest expected = Agrees (λ _. rest) result expected

-- the step f, after a step that met no fault
infixl 10 ◌>>=◌
abbrev pub ◌>>=◌ : {A B : Type 0} → Result A Fault → (A → Result B Fault) → Result B Fault
(Ok x) >>= f = f x
(Err e) >>= f = Err e

-- a scan that has to leave nothing: bytes that are left are a fault, which has their number
unfoldable pub scan_exactly : (List ℕ → Result (List ℕ) Fault) → List ℕ → Result (Unit {0}) Fault
scan_exactly scan bytes = scan bytes >>= λ rest. if length rest == 0 then Ok tt else Err (ExtraData (length rest))
