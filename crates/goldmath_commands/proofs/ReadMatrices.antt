-- What is read where bytes encode a matrix over the Goldilocks field.
use Rattle.std.proofs.Common.{◌≡◌, ℕ, ◌<◌, ◌≤◌, ◌^◌, List, ◌++◌, length, Ok, Err, Result, Option, Some, None, [], ◌∷◌, zero, suc, ◌+◌, ◌*◌, get_or, append-nil, refl, sym, ap, ◌∙◌, arith}
use Rattle.std.proofs.lemmas.Bool.{leb-true, le-leb, le-ltb, eq-eqb, and_parts, and_from}
use Rattle.std.specs.Prelude.{IfOk, IfSome, IsNone, MatchResult}
use Rattle.std.specs.List.{AllZip}
use Rattle.std.specs.Int.{to_be_bytes, w64}
use Rattle.math_numbers.specs.Goldilocks.{P}
use Rattle.math_codec.specs.declared.codec.error.Error.{Error}
use Rattle.math_codec.specs.Faults.{Fault, Agrees, IsMemory, fault_of, scan_exactly}
use Rattle.math_codec.specs.Lengths.{length_spelling}
use Rattle.math_codec.specs.Lists.{list_spelling}
use Rattle.math_fields.specs.declared.goldilocks.F.{F}
use Rattle.math_fields.specs.Elements.{number, residue, same}
use Rattle.math_fields.specs.ElementEncoding.{scan_element}
use Rattle.math_fields.specs.ElementEncodingLaws.{element_again, element_apart}
use Rattle.math_transforms.specs.Matrices.{MatrixOf, AreSameMatrices}
use Rattle.math_ntt.specs.MatrixEncoding.{AdmitsMatrix, scan_count, scan_matrix}
use Rattle.math_ntt.specs.MatrixEncodingLaws.{count_again, matrix_again, matrix_apart}
use Rattle.goldmath_commands.specs.Recoveries.{most_cells, spelling_of, IsEncodedMatrix, HasSize, IsRecovered, EncodesRecovered, scan_size, scan_rows}
use Rattle.goldmath_commands.proofs.EncodedPolynomials.{all_below}

-- what is wrong with a matrix that was read is what is wrong with its numbers of rows and of columns
pub scan_rows-read : (lg words : ℕ) (bytes : List ℕ) (m : MatrixOf F) → m.rows ≤ most_cells → m.cols ≤ most_cells → bytes ≡ spelling_of m
    → scan_exactly (scan_matrix most_cells scan_element) bytes ≡ Ok tt → scan_rows lg words bytes ≡ scan_size lg words m.rows m.cols
unfolding scan_rows
scan_rows-read lg words bytes m rows cols spelled read =
    let rest : List ℕ = list_spelling (λ a. to_be_bytes w64 (number a)) m.cells in
    let first : scan_count most_cells bytes ≡ Ok (m.rows, length_spelling m.cols ++ rest) =
    ap (scan_count most_cells) spelled ∙ count_again most_cells m.rows (length_spelling m.cols ++ rest) (omega arith) rows in
    let second : scan_count most_cells (length_spelling m.cols ++ rest) ≡ Ok (m.cols, rest) = count_again most_cells m.cols rest (omega arith) cols in
    rw (read, first, second) refl

-- a matrix that is admitted and spelled is encoded
pub encoded : (bytes : List ℕ) (m : MatrixOf F) → AdmitsMatrix most_cells (λ a. number a < P) m → bytes ≡ spelling_of m → IsEncodedMatrix bytes m
encoded bytes m h spelled = record { rows = h.rows_counted; cols = h.cols_counted; cells = leb-true _ _ (and_parts _ _ h.each.ranged).1; full = h.full; spelled = spelled }

-- and one that is encoded is admitted
admitted : (bytes : List ℕ) (m : MatrixOf F) → IsEncodedMatrix bytes m → AdmitsMatrix most_cells (λ a. number a < P) m
admitted bytes m h = record {
  rows_fit = omega (arith, h.rows);
  cols_fit = omega (arith, h.cols);
  rows_counted = h.rows;
  cols_counted = h.cols;
  full = h.full;
  each = record {
    fits = omega (arith, h.cells);
    ranged = and_from _ _ (le-leb 0 (length m.cells) (omega arith)) (le-leb (length m.cells) most_cells h.cells);
    each = all_below m.cells;
  };
}

read_again : (m : MatrixOf F) (rest : List ℕ) → AdmitsMatrix most_cells (λ a. number a < P) m → scan_matrix most_cells scan_element (spelling_of m ++ rest) ≡ Ok rest
read_again m rest h = matrix_again (λ a. to_be_bytes w64 (number a)) (λ a. number a < P) scan_element (λ a tail below. element_again (number a) tail below) most_cells m rest h

-- an encoded matrix that has the size meets no fault
pub scan_rows-encoded : (lg words : ℕ) (bytes : List ℕ) (m : MatrixOf F) → IsEncodedMatrix bytes m → HasSize lg words m → scan_rows lg words bytes ≡ Ok tt
unfolding scan_exactly
scan_rows-encoded lg words bytes m h size =
    scan_rows-read lg words bytes m h.rows h.cols h.spelled whole ∙ rw (eq-eqb m.rows words size.0, le-ltb most_cells (2 ^ lg * m.cols) size.1) refl
  where
    whole : scan_exactly (scan_matrix most_cells scan_element) bytes ≡ Ok tt
    whole =
        let read : scan_matrix most_cells scan_element bytes ≡ Ok [] =
        ap (scan_matrix most_cells scan_element) (h.spelled ∙ sym (append-nil (spelling_of m))) ∙ read_again m [] (admitted bytes m h) in
        rw read refl

-- bytes encode one matrix, up to the field's equality
one_encoded : (bytes : List ℕ) (m n : MatrixOf F) → IsEncodedMatrix bytes m → IsEncodedMatrix bytes n → AreSameMatrices same m n
one_encoded bytes m n h k =
    (matrix_apart (λ a. to_be_bytes w64 (number a)) (λ a. number a < P) same (λ a b x y l r e. element_apart (number a) (number b) x y l r e) most_cells m n [] []
    (admitted bytes m h) (admitted bytes n k) (ap (λ xs. xs ++ []) (sym h.spelled ∙ k.spelled))).0

same_at : (xs ys : List F) (i : ℕ) → AllZip same xs ys → same (get_or xs i (residue 0)) (get_or ys i (residue 0))
same_at [] [] i h = refl
same_at [] (y ∷ ys) i h = elim h [ ]
same_at (x ∷ xs) [] i h = elim h [ ]
same_at (x ∷ xs) (y ∷ ys) zero h = h.0
same_at (x ∷ xs) (y ∷ ys) (suc i) h = same_at xs ys i h.1

recovered_of_same : (lg : ℕ) (rows : List ℕ) (m n q : MatrixOf F) → AreSameMatrices same m n → IsRecovered lg rows m q → IsRecovered lg rows n q
recovered_of_same lg rows m n q e h = record {
  size = (h.size.0, h.size.1 ∙ e.1, h.size.2 ∙ ap (λ c. 2 ^ lg * c) e.1);
  agrees = λ i k l t. h.agrees i k l (omega (arith, e.1)) ∙ same_at m.cells n.cells (i * m.cols + k) e.2 ∙ ap (λ c. (get_or n.cells (i * c + k) (residue 0)).value) e.1;
  zero_from = λ i k l b t. h.zero_from i k l b (omega (arith, e.1));
}

back : (m n : MatrixOf F) → AreSameMatrices same m n → AreSameMatrices same n m
back m n e = (sym e.0, sym e.1, turned m.cells n.cells e.2)
  where
    turned : (xs ys : List F) → AllZip same xs ys → AllZip same ys xs
    turned [] [] h = tt
    turned [] (y ∷ ys) h = elim h [ ]
    turned (x ∷ xs) [] h = elim h [ ]
    turned (x ∷ xs) (y ∷ ys) h = (sym h.0, turned xs ys h.1)

abbrev no_fault : Result (Unit {0}) Fault
no_fault = Ok tt

-- where no fault was expected, memory ran out
only_memory : (fault : Option Fault) → IfSome fault (λ f. no_fault ≡ Err f) → IsNone fault
only_memory None h = refl
only_memory (Some f) h = absurd (cc h)

-- an answer for some matrix that the bytes encode, and no fault but the expected one, are an answer for each, memory aside
pub answered : {X : Type 0} (items : X → List ℕ) (lg : ℕ) (rows : List ℕ) (bytes : List ℕ) (result : Result X Error)
    → IfOk result (λ out. (m : MatrixOf F) × IsEncodedMatrix bytes m × EncodesRecovered lg rows m (items out)) → Agrees (λ _. tt) result (scan_rows lg (length rows) bytes)
    → (m : MatrixOf F) → IsEncodedMatrix bytes m → HasSize lg (length rows) m → MatchResult result (λ out. EncodesRecovered lg rows m (items out)) IsMemory
answered items lg rows bytes (Ok out) h exact m k size =
    let e : AreSameMatrices same h.0 m = one_encoded bytes h.0 m h.1 k in
    let answer = h.2 in
    (answer.0, recovered_of_same lg rows h.0 m answer.0 e answer.1, (λ p r. answer.2 p (recovered_of_same lg rows m h.0 p (back h.0 m e) r)), answer.3)
answered items lg rows bytes (Err e) h exact m k size = only_memory (fault_of e) (rw (scan_rows-encoded lg (length rows) bytes m k size) at exact)
