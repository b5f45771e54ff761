-- Reading items one after the other, as a loop does.
use Rattle.std.proofs.Common.{◌≡◌, ℕ, suc, ◌-◌, ◌+◌, ◌≤◌, ◌<◌, List, [], ◌∷◌, ◌++◌, Result, Ok, refl, sym, ap, subst, ◌∙◌, append_assoc, arith}
use Rattle.std.specs.List.{AllByRecursion, flat_map}
use Rattle.std.proofs.lemmas.List.{append-nil}
use Rattle.std.proofs.lemmas.List.Concat.{flat_map-cons}
use Rattle.std.proofs.lemmas.Option.{IfSome_then}
use Rattle.std.proofs.lemmas.Grind.{flat_map-append}
use Rattle.math_codec.specs.declared.codec.error.Error.{Error}
use Rattle.math_codec.specs.Faults.{Fault, fault_of, Reports, ◌>>=◌}
use Rattle.math_codec.specs.Lists.{scan_items}

-- a fault of the first step is the fault of both
reports_bind : {A B : Type 0} (e : Error) (r : Result A Fault) (f : A → Result B Fault) → Reports e r → Reports e (r >>= f)
reports_bind e r f h = IfSome_then (fault_of e) h (λ fault p. rw p refl)

pub admitted_push : {X : Type 0} (P : X → Type 0) (xs : List X) (x : X) → AllByRecursion P xs → P x → AllByRecursion P (xs ++ x ∷ [])
admitted_push P [] x h p = (p, tt)
admitted_push P (y ∷ xs) x h p = (h.0, admitted_push P xs x h.1 p)

pub item_read : (scan : List ℕ → Result (List ℕ) Fault) (count i : ℕ) (bytes after : List ℕ) (total : Result (List ℕ) Fault) → i < count → scan bytes ≡ Ok after
    → scan_items scan (count - i) bytes ≡ total → scan_items scan (count - (i + 1)) after ≡ total
unfolding scan_items
item_read scan count i bytes after total lt h so_far =
    let k : count - i ≡ suc (count - (i + 1)) = omega arith in
    let one : scan_items scan (count - i) bytes ≡ scan_items scan (count - (i + 1)) after = rw (k, h) refl in
    sym one ∙ so_far

pub item_fails : (e : Error) (scan : List ℕ → Result (List ℕ) Fault) (count i : ℕ) (bytes : List ℕ) (total : Result (List ℕ) Fault) → i < count → Reports e (scan bytes)
    → scan_items scan (count - i) bytes ≡ total → Reports e total
unfolding scan_items
item_fails e scan count i bytes total lt h so_far =
    let k : count - i ≡ suc (count - (i + 1)) = omega arith in
    let one : scan_items scan (count - i) bytes ≡ (scan bytes >>= λ rest. scan_items scan (count - (i + 1)) rest) = rw k refl in
    subst (λ x. Reports e x) (sym one ∙ so_far) (reports_bind e (scan bytes) (λ rest. scan_items scan (count - (i + 1)) rest) h)

pub items_done : (scan : List ℕ → Result (List ℕ) Fault) (count i : ℕ) (bytes : List ℕ) (total : Result (List ℕ) Fault) → count ≤ i
    → scan_items scan (count - i) bytes ≡ total → total ≡ Ok bytes
unfolding scan_items
items_done scan count i bytes total le so_far =
    let k : count - i ≡ 0 = omega arith in
    let one : scan_items scan (count - i) bytes ≡ Ok bytes = rw k refl in
    sym so_far ∙ one

pub item_taken : {T : Type 0} (spelling : T → List ℕ) (vs : List T) (v : T) (bytes rest after : List ℕ) → bytes ≡ flat_map spelling vs ++ rest → rest ≡ spelling v ++ after
    → bytes ≡ flat_map spelling (vs ++ v ∷ []) ++ after
item_taken spelling vs v bytes rest after h e =
    let one : flat_map spelling (v ∷ []) ≡ spelling v = flat_map-cons spelling v [] ∙ append-nil (spelling v) in
    h ∙ ap (λ (x : List ℕ). flat_map spelling vs ++ x) e ∙ sym (append_assoc (flat_map spelling vs) (spelling v) after) ∙ sym (rw (flat_map-append spelling vs (v ∷ []), one) refl)
