-- The elements of bytes: that there are some, and that they are the only ones.
use Rattle.std.proofs.Common.{◌≡◌, ◌∙◌, ℕ, zero, suc, ◌+◌, ◌<◌, ◌≤◌, ◌^◌, List, [], ◌∷◌, ◌++◌, length, take, drop, map, get_or, refl, sym, ap, ap₂, arith}
use Rattle.std.specs.List.{All}
use Rattle.std.proofs.lemmas.List.{length-append, length-take}
use Rattle.std.proofs.lemmas.List.Elements.{All-cons, All-drop, All-nil, All-take}
use Rattle.math_fields.specs.declared.goldilocks.F.{F}
use Rattle.math_fields.specs.Elements.{number, residue}
use Rattle.math_fields.proofs.ElementNumbers.{same_number}
use Rattle.math_fields.proofs.Packing.{map-number-residue}
use Rattle.secret_bytes.specs.KeyChecks.{check_at}
use Rattle.secret_bytes.specs.Packings.{AreBytes, ArePackedBytes, number_count, number_of_bytes, packed, sevens}
use Rattle.secret_bytes.proofs.PackedBytes.{number-below}
use Rattle.secret_bytes.proofs.UnpackedBytes.{packed-length}
use Rattle.secret_bytes.specs.Keyed.{AreKeyedBy}

-- elements with the same numbers are the same
same_numbers : (xs ys : List F) → map number xs ≡ map number ys → xs ≡ ys
same_numbers [] [] e = refl
same_numbers [] (y ∷ ys) e = let l : 0 ≡ suc (length (map number ys)) = ap length e in absurd (omega (arith, l))
same_numbers (x ∷ xs) [] e = let l : suc (length (map number xs)) ≡ 0 = ap length e in absurd (omega (arith, l))
same_numbers (x ∷ xs) (y ∷ ys) e = ap₂ (λ a rest. a ∷ rest) (same_number x y (ap (λ ns. get_or ns 0 0) e)) (same_numbers xs ys (ap (drop 1) e))

-- the elements of bytes are the only ones
pub packed-alone : (elements others : List F) (bytes : List ℕ) → ArePackedBytes elements bytes → ArePackedBytes others bytes → elements ≡ others
packed-alone elements others bytes h k = same_numbers elements others (h.1 ∙ sym k.1)

sevens-below : (k : ℕ) (bytes : List ℕ) → All (λ byte. byte < 256) bytes → All (λ n. n < 2 ^ 63) (sevens k bytes)
sevens-below zero bytes h = All-nil (λ n. n < 2 ^ 63)
sevens-below (suc k) bytes h =
    let short : length (take 7 bytes) ≤ 7 = omega (arith, length-take 7 bytes) in
    let below : number_of_bytes (take 7 bytes) < 256 ^ 7 = number-below 7 (take 7 bytes) (All-take (λ byte. byte < 256) 7 bytes h) short in
    All-cons (λ n. n < 2 ^ 63) (number_of_bytes (take 7 bytes)) (sevens k (drop 7 bytes)) (omega (arith, below)) (sevens-below k (drop 7 bytes) (All-drop (λ byte. byte < 256) 7 bytes h))

-- bytes have elements
pub packed-of : (bytes : List ℕ) → AreBytes bytes → ArePackedBytes (map residue (packed bytes)) bytes
packed-of bytes h =
    let count : length bytes < 2 ^ 63 = omega (arith, h.few) in
    let numbers = sevens (number_count (length bytes)) bytes in
    (h, map-number-residue (packed bytes) (All-cons (λ n. n < 2 ^ 63) (length bytes) numbers count (sevens-below (number_count (length bytes)) bytes h.each_byte)))

-- with a key and a check
pub keyed_elements : List ℕ → F → List F
keyed_elements bytes key = let elements = map residue (packed bytes) in elements ++ (key ∷ check_at elements key ∷ [])

pub keyed-of : (bytes : List ℕ) (key : F) → AreBytes bytes → AreKeyedBy key bytes (keyed_elements bytes key)
unfolding keyed_elements
keyed-of bytes key h = (record { elements = map residue (packed bytes); key = key; check = check_at (map residue (packed bytes)) key; packed = packed-of bytes h; fits = refl; parts = refl }, refl)

pub keyed-alone : (key : F) (bytes : List ℕ) (all others : List F) → AreKeyedBy key bytes all → AreKeyedBy key bytes others → others ≡ all
keyed-alone key bytes all others h i =
    let k = h.0 in
    let m = i.0 in
    let elements : m.elements ≡ k.elements = packed-alone m.elements k.elements bytes m.packed k.packed in
    let keys : m.key ≡ k.key = i.1 ∙ sym h.1 in
    let check : m.check ≡ k.check = same_number m.check k.check (m.fits ∙ ap₂ (λ es x. number (check_at es x)) elements keys ∙ sym k.fits) in
    m.parts ∙ ap₂ (λ es x. es ++ (x ∷ m.check ∷ [])) elements keys ∙ ap (λ c. k.elements ++ (k.key ∷ c ∷ [])) check ∙ sym k.parts

pub keyed-length : (key : F) (bytes : List ℕ) (all : List F) → AreKeyedBy key bytes all → length all ≡ number_count (length bytes) + 3
keyed-length key bytes all h =
    let k = h.0 in
    let parts : length all ≡ length k.elements + 2 = ap length k.parts ∙ length-append k.elements (k.key ∷ k.check ∷ []) in
    omega (arith, parts, packed-length k.elements bytes k.packed)
