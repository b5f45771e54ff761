-- A value that takes all of the bytes is read again.
use Rattle.std.proofs.Common.{◌≡◌, ℕ, List, [], ◌++◌, Option, Some, None, Result, Ok, Err, refl, sym, ap, ◌∙◌}
use Rattle.std.specs.Prelude.{IfOk, IfSome, IsNone, MatchResult}
use Rattle.std.proofs.lemmas.List.{append-nil}
use Rattle.math_codec.specs.declared.codec.error.Error.{Error}
use Rattle.math_codec.specs.Encodings.{ReadsAgain, SpellsApart}
use Rattle.math_codec.specs.Faults.{Fault, fault_of, Agrees, IsMemory, scan_exactly}

no_fault_reported : {A : Type 0} (reported : Option Fault) (x : A) (expected : Result A Fault) → expected ≡ Ok x → IfSome reported (λ fault. expected ≡ Err fault) → IsNone reported
no_fault_reported None x expected ok h = refl
no_fault_reported (Some fault) x expected ok h = absurd cc

pub decoded_again : {T : Type 0} (spelling : T → List ℕ) (admits : T → Type 0) (alike : T → T → Type 0) (scan : List ℕ → Result (List ℕ) Fault)
    → ReadsAgain spelling admits scan
    → SpellsApart spelling admits alike
    → (bytes : List ℕ) (r : Result T Error) → IfOk r (λ v. admits v × (bytes ≡ spelling v)) → Agrees (λ _. tt) r (scan_exactly scan bytes)
    → (v : T) → admits v → bytes ≡ spelling v → MatchResult r (λ w. alike w v) IsMemory
unfolding scan_exactly
decoded_again spelling admits alike scan again apart bytes (Ok w) taken exact v h e =
    (apart w v [] [] taken.0 h (ap (λ (t : List ℕ). t ++ []) (sym taken.1 ∙ e))).0
decoded_again spelling admits alike scan again apart bytes (Err f) taken exact v h e =
    let read : scan bytes ≡ Ok [] = ap scan (e ∙ sym (append-nil (spelling v))) ∙ again v [] h in
    no_fault_reported (fault_of f) tt (scan_exactly scan bytes) (rw read refl) exact
