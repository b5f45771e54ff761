-- Rows of which the filled ones alone are read: what is recovered and corrected of them is what is of all.
use Rattle.std.proofs.Common.{◌≡◌, ◌∙◌, ℕ, ◌+◌, ◌*◌, ◌<◌, ◌≤◌, ◌==◌, List, ◌++◌, Bool, true, false, length, take, drop, get_or, All, sym, ap, subst, arith}
use Rattle.std.proofs.lemmas.Bool.{cases_lt, eqb-true}
use Rattle.std.proofs.lemmas.List.{get_or-append-add, get_or_append_left, get_or-drop, get_or-map, get_or-take, length-append, length-map}
use Rattle.std.proofs.lemmas.Nat.{mul-add-lt}
use Rattle.math_theory.specs.Powers.{power}
use Rattle.math_theory.specs.Recovery.{Fits, count_true}
use Rattle.math_fields.specs.declared.goldilocks.F.{F}
use Rattle.math_fields.specs.Elements.{residue, root_of}
use Rattle.math_transforms.specs.DomainValues.{matrix_of}
use Rattle.math_transforms.specs.Matrices.{MatrixOf, IsOfSize, cell_of, column_of}
use Rattle.math_ntt.specs.CorrectedRows.{AgreesAtRow, AreWithinRadius, IsCorrected}
use Rattle.math_ntt.specs.Evaluations.{EvaluationsOf}
use Rattle.math_ntt.specs.RecoveredRows.{AreRecovered, AreOnlyRecovered}
use Rattle.math_ntt.proofs.MarkedRows.{inside-true}
use Rattle.math_ntt.proofs.MatrixPlaces.{columns_are_full, columns_hold_cells}
use Rattle.c_calls.specs.WordElements.{elements, numbers, goldilocks}
use Rattle.c_calls.specs.WordRows.{AreElementsWhereFilled, AreFilledElements, AreRecoveredWords, HasRowsFor, truth, word_evaluations}
use Rattle.c_calls.proofs.WordMatrices.{recovered_words}

-- both have as many rows and columns, the same rows are filled, and these have the same cells
pub record AgreeWhereFilled (e f : EvaluationsOf F) : Type 0 where
  pub rows : e.matrix.rows ≡ f.matrix.rows
  pub cols : e.matrix.cols ≡ f.matrix.cols
  pub filled : e.filled ≡ f.filled
  pub cells : (i k : ℕ) → k < e.matrix.cols → get_or e.filled i false ≡ true → cell_of (residue 0) e.matrix i k ≡ cell_of (residue 0) f.matrix i k

pub agree_back : (e f : EvaluationsOf F) → AgreeWhereFilled e f → AgreeWhereFilled f e
agree_back e f h = grind arith

-- what fits the one in a column fits the other
fits_there : (e f : EvaluationsOf F) → AgreeWhereFilled e f → (w : F) (k : ℕ) (q : List F) → k < e.matrix.cols
    → Fits goldilocks.same goldilocks.zero goldilocks.sum goldilocks.product goldilocks.one w (column_of goldilocks.zero e.matrix k) e.filled q
    → Fits goldilocks.same goldilocks.zero goldilocks.sum goldilocks.product goldilocks.one w (column_of goldilocks.zero f.matrix k) f.filled q
fits_there e f h w k q l fits = grind (arith, columns_are_full, columns_hold_cells)

-- the columns of the words, as far as rows are filled
words_where_filled : (cols : ℕ) (cells bytes : List ℕ) (m : MatrixOf F) → IsOfSize m (length bytes) cols → length cells ≡ length bytes * cols
    → AreElementsWhereFilled cols cells bytes m.cells → AgreeWhereFilled (record { matrix = m; filled = truth bytes }) (word_evaluations cols cells bytes)
words_where_filled cols cells bytes m size count h = grind (arith, inside-true, length-map, eqb-true, get_or-map, mul-add-lt)

-- the rows with zeros in place of the words that are not read
pub read_where_filled : (cols : ℕ) (cells bytes : List ℕ) (items : List F) (e : EvaluationsOf F) → e.matrix ≡ matrix_of (length bytes) cols items → e.filled ≡ truth bytes
    → length cells ≡ length bytes * cols → length items ≡ length bytes * cols → AreElementsWhereFilled cols cells bytes items → AgreeWhereFilled e (word_evaluations cols cells bytes)
read_where_filled cols cells bytes items e matrix filled count full h = grind (arith, words_where_filled)

-- the numbers of the coefficients that are recovered from what is filled of the words
pub recovered_filled : (cols : ℕ) (old bytes new : List ℕ) (e : EvaluationsOf F) (q : MatrixOf F) → HasRowsFor (length old) cols (length bytes) → All (λ b. b ≤ 1) bytes
    → AreFilledElements cols old bytes → AgreeWhereFilled e (word_evaluations cols old bytes) → IsOfSize q e.matrix.rows e.matrix.cols → AreRecovered goldilocks root_of e q
    → AreOnlyRecovered goldilocks root_of e q → new ≡ numbers q.cells → AreRecoveredWords cols old bytes new
recovered_filled cols old bytes new e q shape marks below agree size fits only written =
    let f : EvaluationsOf F = word_evaluations cols old bytes in
    recovered_words cols old bytes new q shape marks below
    (size.0 ∙ agree.rows, size.1 ∙ agree.cols, size.2 ∙ ap (λ n. n * e.matrix.cols) agree.rows ∙ ap (λ n. f.matrix.rows * n) agree.cols)
    (λ lg k power l.
    let l_e : k < e.matrix.cols = subst (λ n. k < n) (sym agree.cols) l in
    fits_there e f agree (root_of lg) k (column_of (residue 0) q k) l_e (fits lg k (agree.rows ∙ power) l_e))
    (λ lg k power l p long fit i within.
    only lg k (agree.rows ∙ power) (subst (λ n. k < n) (sym agree.cols) l) p (long ∙ sym agree.rows)
    (fits_there f e (agree_back e f agree) (root_of lg) k p l fit) i (subst (λ n. i < n) (sym agree.rows) within))
    written

-- a value that agrees with a filled cell of the one agrees with that of the other
agrees_there : (e f : EvaluationsOf F) → AgreeWhereFilled e f → (w : F) (i k : ℕ) (p : List F) → k < e.matrix.cols → get_or e.filled i false ≡ true
    → AgreesAtRow goldilocks w e.matrix i k p → AgreesAtRow goldilocks w f.matrix i k p
agrees_there e f h w i k p l is a = grind arith

-- what is within the radius of the one is within that of the other
pub near_there : (e f : EvaluationsOf F) → AgreeWhereFilled e f → (w : F) (count : ℕ) (a : ℕ → List F) → AreWithinRadius goldilocks w e count a
    → AreWithinRadius goldilocks w f count a
near_there e f h w count a near = grind arith

-- what is corrected of the one is corrected of the other
pub corrected_there : (e f : EvaluationsOf F) → AgreeWhereFilled e f → (w : F) (count : ℕ) (v : MatrixOf F) (rows : List ℕ) → IsCorrected goldilocks w e count v rows
    → IsCorrected goldilocks w f count v rows
corrected_there e f h w count v rows found = record {
  size = (found.size.0 ∙ h.rows, found.size.1 ∙ h.cols, found.size.2 ∙ ap (λ n. n * e.matrix.cols) h.rows ∙ ap (λ n. f.matrix.rows * n) h.cols);
  zero_from = λ k i l m. found.zero_from k i (subst (λ n. k < n) (sym h.cols) l) m;
  rows = record {
    rising = found.rows.rising;
    filled = λ i d l. ap (λ bs. get_or bs (get_or rows i d) false) (sym h.filled) ∙ found.rows.filled i d l;
    differ = λ i d l.
        let row = get_or rows i d in
        let q = found.rows.differ i d l in
        let l_f : q.0 < f.matrix.cols = subst (λ n. q.0 < n) h.cols q.1 in
        let is_f : get_or f.filled row false ≡ true = ap (λ bs. get_or bs row false) (sym h.filled) ∙ found.rows.filled i d l in
        (q.0, l_f, λ a. q.2 (agrees_there f e (agree_back e f h) w row q.0 (column_of goldilocks.zero v q.0) l_f is_f a));
    agree = λ i k l is no.
        let l_e : k < e.matrix.cols = subst (λ n. k < n) (sym h.cols) l in
        let is_e : get_or e.filled i false ≡ true = ap (λ bs. get_or bs i false) h.filled ∙ is in
        agrees_there e f h w i k (column_of goldilocks.zero v k) l_e is_e (found.rows.agree i k l_e is_e no);
  };
  few = subst (λ (bs : List Bool). length rows + length rows + count ≤ count_true bs) h.filled found.few;
  only = λ a near k l. found.only a (near_there f e (agree_back e f h) w count a near) k (subst (λ n. k < n) (sym h.cols) l);
}

-- the rows before row i hold the elements of the words where they are filled
pub record HoldFilled (cols i : ℕ) (cells bytes : List ℕ) (items : List F) : Type 0 where
  pub count : length items ≡ i * cols
  pub hold : (j k : ℕ) → j < i → get_or bytes j 0 ≡ 1 → k < cols → get_or items (j * cols + k) (residue 0) ≡ residue (get_or cells (j * cols + k) 0)

-- one row more
pub hold_more : (cols i : ℕ) (cells bytes : List ℕ) (items part : List F) → length cells ≡ length bytes * cols → i < length bytes → length part ≡ cols
    → (get_or bytes i 0 ≡ 1 → part ≡ elements (take cols (drop (i * cols) cells))) → HoldFilled cols i cells bytes items → HoldFilled cols (i + 1) cells bytes (items ++ part)
hold_more cols i cells bytes items part count l long is h = grind (arith, length-append, cases_lt, mul-add-lt, get_or_append_left, get_or-append-add, get_or-map, length-map, get_or-take, get_or-drop)
