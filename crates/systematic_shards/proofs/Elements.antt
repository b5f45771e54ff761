-- Words of rows as elements, and these as words.
use Rattle.std.proofs.Common.{◌≡◌, ◌∙◌, inl, inr, ℕ, ◌%◌, ◌<◌, ◌≤◌, ◌^◌, List, length, get_or, sym, ap, subst, arith}
use Rattle.std.proofs.lemmas.Bool.{cases_lt}
use Rattle.std.proofs.lemmas.Bool.Decides.{nat_tests}
use Rattle.std.proofs.lemmas.List.{get_or-map}
use Rattle.math_numbers.specs.Goldilocks.{P}
use Rattle.math_fields.specs.declared.goldilocks.F.{F}
use Rattle.math_fields.specs.Elements.{number, residue, same}
use Rattle.math_restoring.specs.Restored.{item}
use Rattle.systematic_shards.specs.declared.rows.Row.{Row}
use Rattle.systematic_shards.specs.Masks.{masked_number}
use Rattle.systematic_shards.specs.Shards.{IsElementIn, column_of_rows, element_in, mask_of_row, word_in}
use Rattle.systematic_shards.proofs.Masks.{mask-nothing, masked-below, masked-twice, masked-word}

-- a data row is under the mask
pub mask-data : (least mask i : ℕ) → i < least → mask_of_row least mask i ≡ mask
mask-data least mask i l = grind (arith, nat_tests)

-- a parity row is not
pub mask-parity : (least mask i : ℕ) → least ≤ i → mask_of_row least mask i ≡ 0
mask-parity least mask i l = grind (arith, nat_tests)

pub mask-short : (least mask i : ℕ) → mask < 2 ^ 32 → mask_of_row least mask i < 2 ^ 32
mask-short least mask i short = elim (cases_lt i least) [
  | inl l ↦ omega (arith, mask-data least mask i l)
  | inr l ↦ omega (arith, mask-parity least mask i l)
]

-- a number below P is its own remainder
pub own_remainder : (n : ℕ) → n < P → n % P ≡ n
own_remainder n l = omega arith

-- the number of an element in a row is the word under the mask of the row
pub element-below : (least mask i word : ℕ) → mask < 2 ^ 32 → IsElementIn least mask i word → masked_number (mask_of_row least mask i) word < P
element-below least mask i word short are = elim (cases_lt i least) [
  | inl l ↦
      let b = masked-below word mask are.0 short (are.1 l) in
      subst (λ m. masked_number m word < P) (sym (mask-data least mask i l)) (omega (arith, b))
  | inr l ↦
      subst (λ m. masked_number m word < P) (sym (mask-parity least mask i l)) (subst (λ (n : ℕ). n < P) (sym (mask-nothing word)) (are.2 l))
]

-- the word of the element of a word is the word
pub word-element : (least mask i word : ℕ) → mask < 2 ^ 32 → IsElementIn least mask i word → word_in least mask i (element_in least mask i word) ≡ word
word-element least mask i word short are =
    ap (masked_number (mask_of_row least mask i)) (own_remainder (masked_number (mask_of_row least mask i) word) (element-below least mask i word short are))
    ∙ masked-twice (mask_of_row least mask i) word (mask-short least mask i short) are.0

-- the word of an element is a word
pub word-fits : (least mask i : ℕ) (x : F) → mask < 2 ^ 32 → word_in least mask i x < 2 ^ 64
word-fits least mask i x short = masked-word (mask_of_row least mask i) (number x) (mask-short least mask i short) (omega (arith, x.below))

-- the element of the word of an element is the element
pub element-word : (least mask i : ℕ) (x : F) → mask < 2 ^ 32 → same (element_in least mask i (word_in least mask i x)) x
element-word least mask i x short =
    ap (λ n. n % P) (masked-twice (mask_of_row least mask i) (number x) (mask-short least mask i short) (omega (arith, x.below)))
    ∙ own_remainder (number x) x.below

-- so a word of an element is that of x exactly where its element is x
pub same-from_word : (least mask i word : ℕ) (x : F) → mask < 2 ^ 32 → word ≡ word_in least mask i x → same (element_in least mask i word) x
same-from_word least mask i word x short e = ap (λ w. number (element_in least mask i w)) e ∙ element-word least mask i x short

pub word-from_same : (least mask i word : ℕ) (x : F) → mask < 2 ^ 32 → IsElementIn least mask i word → same (element_in least mask i word) x
    → word ≡ word_in least mask i x
word-from_same least mask i word x short are e =
    sym (word-element least mask i word short are) ∙ ap (masked_number (mask_of_row least mask i)) e

-- item t of a column
pub item-column : {M : Type 0} (word : List M → ℕ → ℕ) (least mask : ℕ) (rows : List (Row M)) (k t : ℕ) (d : Row M) → t < length rows
    → item (column_of_rows word least mask rows k) t ≡ element_in least mask (get_or rows t d).index (word (get_or rows t d).cells.now k)
item-column word least mask rows k t d l = get_or-map (λ row. element_in least mask row.index (word row.cells.now k)) rows t d (residue 0) l
