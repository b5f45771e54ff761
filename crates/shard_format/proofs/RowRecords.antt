-- Records of rows as bytes.
use Rattle.std.proofs.Common.{◌≡◌, ℕ, ◌<◌, ◌^◌, List, ◌++◌, length, take, drop, Option, Some, None, Result, Ok, Err, refl, sym, ◌∙◌, ap, ap₂, arith, append_assoc}
use Rattle.std.specs.Prelude.{IfNone, IfSome}
use Rattle.std.specs.Int.{to_be_bytes, w64}
use Rattle.std.proofs.lemmas.List.{append_cancel_left, drop_at, take_at}
use Rattle.math_codec.specs.Faults.{Fault}
use Rattle.math_codec.specs.WordLaws.{word_apart}
use Rattle.math_fields.specs.declared.goldilocks.F.{F}
use Rattle.math_fields.specs.Elements.{number}
use Rattle.shard_fingerprints.specs.declared.pairs.Fingerprints.{Fingerprints}
use Rattle.shard_fingerprints.specs.Fingerprints.{fingerprint}
use Rattle.shard_format.specs.declared.header.Header.{Header}
use Rattle.shard_format.specs.Headers.{fingerprints_spelling}
use Rattle.shard_format.specs.Rows.{HaveWords, row_elements, row_record_spelling, row_spelling, row_words}

-- what is expected to be read is not refused, where memory is not
pub no_fault : (reported : Option Fault) (expected : Result (List ℕ) Fault) (after : List ℕ) → expected ≡ Ok after → IfSome reported (λ fault. expected ≡ Err fault) → IfNone reported ⊥ → ⊥
no_fault None expected after ok h m = m
no_fault (Some fault) expected after ok h m = absurd cc

-- numbers, a word, and a row of one length with what follows it make up bytes in one way
pub same_parts : (numbers row other marks stored : List ℕ) (mask another : ℕ) → mask < 2 ^ 32 → another < 2 ^ 32 → length row ≡ length other
    → numbers ++ (to_be_bytes w64 mask ++ (row ++ marks)) ≡ numbers ++ (to_be_bytes w64 another ++ (other ++ stored)) → (mask ≡ another) × (row ≡ other) × (marks ≡ stored)
same_parts numbers row other marks stored mask another a b l e =
    let words = append_cancel_left numbers (to_be_bytes w64 mask ++ (row ++ marks)) (to_be_bytes w64 another ++ (other ++ stored)) e in
    let apart = word_apart mask another (row ++ marks) (other ++ stored) (omega (arith, a)) (omega (arith, b)) words in
    let front = sym (take_at row marks (length other) l) ∙ ap (take (length other)) apart.1 ∙ take_at other stored (length other) refl in
    let back = sym (drop_at row marks (length other) l) ∙ ap (drop (length other)) apart.1 ∙ drop_at other stored (length other) refl in
    (apart.0, front, back)

-- what stands before the fingerprints, and they behind it
pub behind : (numbers word row marks : List ℕ) → numbers ++ (word ++ (row ++ marks)) ≡ (numbers ++ (word ++ row)) ++ marks
behind numbers word row marks = simp append_assoc

-- the words of fingerprints of the elements of a row are those that its record has
pub marks_spelled : (h : Header) (block mask width : ℕ) (row : List ℕ) (elements : List F) (stored : Fingerprints) → elements ≡ row_elements h mask width row
    → HaveWords h (row_words block h.index mask elements) stored
    → to_be_bytes w64 (number stored.first) ++ to_be_bytes w64 (number stored.second) ≡ fingerprints_spelling h.keys (row_words block h.index mask (row_elements h mask width row))
marks_spelled h block mask width row elements stored e have =
    let words = row_words block h.index mask (row_elements h mask width row) in
    let first : number stored.first ≡ number (fingerprint words h.keys.first) =
    have.first ∙ ap (λ (es : List F). number (fingerprint (row_words block h.index mask es) h.keys.first)) e in
    let second : number stored.second ≡ number (fingerprint words h.keys.second) =
    have.second ∙ ap (λ (es : List F). number (fingerprint (row_words block h.index mask es) h.keys.second)) e in
    ap₂ (λ (x y : ℕ). to_be_bytes w64 x ++ to_be_bytes w64 y) first second

-- and they are the same for the same mask, width and row
pub marks_same : (h : Header) (block mask another width other : ℕ) (row bytes : List ℕ) → mask ≡ another → width ≡ other → row ≡ bytes
    → fingerprints_spelling h.keys (row_words block h.index mask (row_elements h mask width row))
    ≡ fingerprints_spelling h.keys (row_words block h.index another (row_elements h another other bytes))
marks_same h block mask another width other row bytes e f g =
    ap (λ (m : ℕ). fingerprints_spelling h.keys (row_words block h.index m (row_elements h m width row))) e
    ∙ ap (λ (n : ℕ). fingerprints_spelling h.keys (row_words block h.index another (row_elements h another n row))) f
    ∙ ap (λ (b : List ℕ). fingerprints_spelling h.keys (row_words block h.index another (row_elements h another other b))) g

-- what stands before the fingerprints of the elements of a row, and these fingerprints, are its record
pub record_spelled : (h : Header) (block mask width : ℕ) (row bytes front marks : List ℕ) (elements : List F) (stored : Fingerprints)
    → front ≡ row_spelling h mask width row → elements ≡ row_elements h mask width row → HaveWords h (row_words block h.index mask elements) stored
    → marks ≡ to_be_bytes w64 (number stored.first) ++ to_be_bytes w64 (number stored.second) → bytes ≡ front ++ marks → bytes ≡ row_record_spelling h block mask width row
record_spelled h block mask width row bytes front marks elements stored f e have m b =
    b ∙ ap₂ (λ (s t : List ℕ). s ++ t) f (m ∙ marks_spelled h block mask width row elements stored e have)
