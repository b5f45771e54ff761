-- A list that is spelled is read again, and no spelling begins another.
use Rattle.std.proofs.Common.{◌≡◌, ℕ, suc, List, [], ◌∷◌, ◌++◌, length, Result, Ok, refl, sym, ap, ◌∙◌, append_assoc, arith}
use Rattle.std.specs.List.{flat_map, AllByRecursion, AllZip}
use Rattle.std.proofs.lemmas.List.Concat.{flat_map-cons}
use Rattle.math_codec.specs.declared.codec.range.LengthRange.{LengthRange}
use Rattle.math_codec.specs.Encodings.{ReadsAgain, SpellsApart}
use Rattle.math_codec.specs.Faults.{Fault}
use Rattle.math_codec.specs.Lengths.{length_spelling}
use Rattle.math_codec.specs.LengthLaws.{length_again, lengths_apart}
use Rattle.math_codec.specs.Lists.{scan_items, scan_list, list_spelling, AdmitsList}

-- the first item stands before the others, and before what follows the list
first_item : {T : Type 0} (spelling : T → List ℕ) (v : T) (vs : List T) (rest : List ℕ) → flat_map spelling (v ∷ vs) ++ rest ≡ spelling v ++ (flat_map spelling vs ++ rest)
first_item spelling v vs rest = ap (λ (x : List ℕ). x ++ rest) (flat_map-cons spelling v vs) ∙ append_assoc (spelling v) (flat_map spelling vs) rest

items_again : {T : Type 0} (spelling : T → List ℕ) (admits : T → Type 0) (scan : List ℕ → Result (List ℕ) Fault)
    → ReadsAgain spelling admits scan
    → (vs : List T) (rest : List ℕ) → AllByRecursion admits vs → scan_items scan (length vs) (flat_map spelling vs ++ rest) ≡ Ok rest
unfolding scan_items
items_again spelling admits scan again [] rest h = refl
items_again spelling admits scan again (v ∷ vs) rest h =
    ap (scan_items scan (suc (length vs))) (first_item spelling v vs rest)
    ∙ rw (again v (flat_map spelling vs ++ rest) h.0) (items_again spelling admits scan again vs rest h.1)

pub list_again : {T : Type 0} (spelling : T → List ℕ) (admits : T → Type 0) (scan : List ℕ → Result (List ℕ) Fault)
    → ReadsAgain spelling admits scan
    → (range : LengthRange) → ReadsAgain (list_spelling spelling) (AdmitsList range admits) (scan_list range scan)
unfolding scan_list
list_again spelling admits scan again range vs rest h =
    let ranged = h.ranged in
    ap (scan_list range scan) (append_assoc (length_spelling (length vs)) (flat_map spelling vs) rest)
    ∙ rw (length_again (length vs) (flat_map spelling vs ++ rest) h.fits, ranged) (items_again spelling admits scan again vs rest h.each)

items_apart : {T : Type 0} (spelling : T → List ℕ) (admits : T → Type 0) (alike : T → T → Type 0)
    → SpellsApart spelling admits alike
    → (vs ws : List T) (x y : List ℕ) → length vs ≡ length ws → AllByRecursion admits vs → AllByRecursion admits ws
    → flat_map spelling vs ++ x ≡ flat_map spelling ws ++ y → AllZip alike vs ws × (x ≡ y)
items_apart spelling admits alike apart [] [] x y n h k e = (tt, e)
items_apart spelling admits alike apart [] (w ∷ ws) x y n h k e = absurd (omega (arith, n))
items_apart spelling admits alike apart (v ∷ vs) [] x y n h k e = absurd (omega (arith, n))
items_apart spelling admits alike apart (v ∷ vs) (w ∷ ws) x y n h k e =
    let first = apart v w (flat_map spelling vs ++ x) (flat_map spelling ws ++ y) h.0 k.0 (sym (first_item spelling v vs x) ∙ e ∙ first_item spelling w ws y) in
    let others = items_apart spelling admits alike apart vs ws x y (omega (arith, n)) h.1 k.1 first.1 in
    ((first.0, others.0), others.1)

pub list_apart : {T : Type 0} (spelling : T → List ℕ) (admits : T → Type 0) (alike : T → T → Type 0)
    → SpellsApart spelling admits alike
    → (range : LengthRange) → SpellsApart (list_spelling spelling) (AdmitsList range admits) (AllZip alike)
list_apart spelling admits alike apart range vs ws x y h k e =
    let a = lengths_apart (length vs) (length ws) (flat_map spelling vs ++ x) (flat_map spelling ws ++ y) h.fits k.fits
    (sym (append_assoc (length_spelling (length vs)) (flat_map spelling vs) x) ∙ e ∙ append_assoc (length_spelling (length ws)) (flat_map spelling ws) y) in
    items_apart spelling admits alike apart vs ws x y a.0 h.each k.each a.1
