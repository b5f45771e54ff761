-- What is read where bytes encode a polynomial over the Goldilocks field, and its value at a point.
use Rattle.std.proofs.Common.{◌≡◌, ℕ, ◌<◌, ◌%◌, leb, true, List, [], ◌∷◌, ◌++◌, length, Ok, refl, sym, ap, ap₂, subst, ◌∙◌, arith, inr}
use Rattle.std.specs.List.{flat_map, AllByRecursion, AllZip}
use Rattle.std.proofs.lemmas.List.Concat.{flat_map-cons}
use Rattle.std.specs.Int.{to_be_bytes, w64}
use Rattle.std.specs.Fmt.{decimal}
use Rattle.std.proofs.lemmas.Bool.{le-leb}
use Rattle.math_numbers.specs.Goldilocks.{P}
use Rattle.math_theory.specs.ModuleLaws.{ring_is_module}
use Rattle.math_theory.specs.Values.{value_over}
use Rattle.math_theory.proofs.polynomials.ValuesRespect.{value_over-respects}
use Rattle.math_codec.specs.declared.codec.range.LengthRange.{LengthRange}
use Rattle.math_codec.specs.Lengths.{length_at}
use Rattle.math_codec.specs.LengthLaws.{length_again}
use Rattle.math_codec.specs.Lists.{AdmitsList, ListGrows}
use Rattle.math_codec.specs.Ranges.{nonzero}
use Rattle.math_fields.specs.declared.goldilocks.F.{F}
use Rattle.math_fields.specs.Elements.{number, residue, same, sum, product}
use Rattle.math_fields.specs.ElementLaws.{equality, group, commutes, ring}
use Rattle.math_fields.specs.ElementEncoding.{scan_element}
use Rattle.math_fields.specs.ElementEncodingLaws.{element_again}
use Rattle.goldmath_commands.specs.Lines.{line_end}
use Rattle.goldmath_commands.specs.Evaluations.{IsEncodedPolynomial, any_length, eval_line}

pub all_below : (p : List F) → AllByRecursion (λ a. number a < P) p
all_below [] = tt
all_below (a ∷ p) = (a.below, all_below p)

all_same : (p : List F) → AllZip same p p
all_same [] = tt
all_same (a ∷ p) = (refl, all_same p)

encoded-admitted : (bytes : List ℕ) (p : List F) → IsEncodedPolynomial bytes p → AdmitsList any_length (λ a. number a < P) p
encoded-admitted bytes p h =
    let low : leb 1 (length p) ≡ true = le-leb 1 (length p) h.some in
    let high : leb (length p) 4294967295 ≡ true = le-leb (length p) 4294967295 (omega (arith, h.few)) in
    record { fits = h.few; ranged = rw (low, high) refl; each = all_below p }

-- the range that a reader of polynomials is given, without zero
pub any_length-is : (range : LengthRange) → range.low ≡ 0 → range.high ≡ 4294967295 → any_length ≡ nonzero range
any_length-is range e f = sym (ap₂ (λ (l h : ℕ). nonzero (record { low = l; high = h })) e f)

pub encoded-admitted_by : (range : LengthRange) → range.low ≡ 0 → range.high ≡ 4294967295 → (bytes : List ℕ) (p : List F)
    → IsEncodedPolynomial bytes p → AdmitsList (nonzero range) (λ a. number a < P) p
encoded-admitted_by range e f bytes p h = subst (λ (r : LengthRange). AdmitsList r (λ a. number a < P) p) (any_length-is range e f) (encoded-admitted bytes p h)

same_value : (p q : List F) (r s : F) → same r s → AllZip same p q
    → number (value_over (residue 0) sum product (residue 1) product r p) ≡ number (value_over (residue 0) sum product (residue 1) product s q)
same_value p q r s e h = value_over-respects equality group (ring_is_module equality group commutes ring) equality commutes r s e p q h

-- the line of a value at an element that is the point's remainder
pub eval_line-residue : (p : List F) (r v : F) (point n : ℕ) → number r ≡ point % P → same v (value_over (residue 0) sum product (residue 1) product r p)
    → n ≡ number v → decimal n ++ line_end ≡ eval_line p point
eval_line-residue p r v point n e h k = ap (λ m. decimal m ++ line_end) (k ∙ h ∙ same_value p p r (residue point) e (all_same p))

-- polynomials with the same coefficients have one value at a point
pub eval_line-same : (p q : List F) (point : ℕ) → AllZip same p q → eval_line p point ≡ eval_line q point
eval_line-same p q point h = ap (λ m. decimal m ++ line_end) (same_value p q (residue point) (residue point) refl h)

-- a polynomial that is read takes memory, since its first coefficient is stored
pub encoded-grows : (bytes : List ℕ) (p : List F) → IsEncodedPolynomial bytes p → ListGrows any_length scan_element (λ _. ⊥) bytes
encoded-grows bytes [] h = absurd (omega (arith, h.some))
encoded-grows bytes (a ∷ p) h =
    let spelling : F → List ℕ = λ b. to_be_bytes w64 (number b) in
    let after : List ℕ = flat_map spelling p in
    let fits : number a < P = a.below in
    let length_read : length_at bytes ≡ Ok (length (a ∷ p), flat_map spelling (a ∷ p)) = ap length_at h.spelled ∙ length_again (length (a ∷ p)) (flat_map spelling (a ∷ p)) h.few in
    let first_read : scan_element (flat_map spelling (a ∷ p)) ≡ Ok after = ap scan_element (flat_map-cons spelling a p) ∙ element_again (number a) after fits in
    (length (a ∷ p), flat_map spelling (a ∷ p), length_read, (encoded-admitted bytes (a ∷ p) h).ranged, inr (after, first_read))
