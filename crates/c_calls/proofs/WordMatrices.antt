-- Matrices of words: their domains, what is evaluated and interpolated, and what is recovered.
use Rattle.std.proofs.Common.{◌≡◌, ◌∙◌, ℕ, ◌*◌, ◌/◌, ◌<◌, ◌≤◌, ◌^◌, List, true, false, length, get_or, replicate, All, refl, sym, ap, subst, lit<, inl, inr, arith}
use Rattle.std.proofs.Math.Nat.{mul-div_cancel, pow-le-pow_right}
use Rattle.std.proofs.lemmas.Bool.{cases_lt}
use Rattle.std.proofs.lemmas.List.{get_or-replicate, length-map}
use Rattle.math_fields.specs.declared.goldilocks.F.{F}
use Rattle.math_fields.specs.Elements.{number, residue, root_of}
use Rattle.math_transforms.specs.Matrices.{MatrixOf, IsOfSize}
use Rattle.math_transforms.specs.DomainValues.{matrix_of, AreValuesOnDomain}
use Rattle.math_ntt.specs.Evaluations.{EvaluationsOf}
use Rattle.math_ntt.specs.RecoveredRows.{AreRecovered, AreOnlyRecovered}
use Rattle.math_ntt.proofs.MatrixPlaces.{columns_are_full, columns_hold_cells}
use Rattle.c_calls.specs.WordElements.{AreElements, elements, numbers, goldilocks}
use Rattle.c_calls.specs.WordRows.{AreWordValues, AreRecoveredWords, AreFilledElements, HasRowsFor, word_matrix, word_evaluations}
use Rattle.c_calls.proofs.WordElements.{elements_of_numbers, numbers_below}

-- a domain of at most 2^32 points is there
pub has_domain : (lg rows : ℕ) → lg ≤ 32 → rows ≡ 2 ^ lg → (l : ℕ) → rows ≡ 2 ^ l → l ≤ 32
has_domain lg rows small e l f = elim (cases_lt 32 l) [
  | inl great ↦
      let first : 33 ≤ l = omega (arith, great) in
      let less : 2 ^ lg ≤ 2 ^ 32 = pow-le-pow_right (lit< tt) small in
      let more : 2 ^ 33 ≤ 2 ^ l = pow-le-pow_right (lit< tt) first in
      absurd (omega arith)
  | inr good ↦ good
]

-- rows of one column or more are as many as the cells say
pub same_rows : (r s n cols : ℕ) → 0 < cols → n ≡ r * cols → n ≡ s * cols → r ≡ s
same_rows r s n cols some e f = sym (mul-div_cancel r some) ∙ ap (λ m. m / cols) (sym e ∙ f) ∙ mul-div_cancel s some

-- words that are the numbers of the cells of a matrix are that matrix
pub matrix_of_numbers : (m : MatrixOf F) (r c : ℕ) (words : List ℕ) → m.rows ≡ r → m.cols ≡ c → words ≡ numbers m.cells → m ≡ word_matrix r c words
matrix_of_numbers m r c words e f h =
    sym (ap (λ xs. matrix_of r c xs) (ap elements h ∙ elements_of_numbers m.cells) ∙ ap (λ n. matrix_of n c m.cells) (sym e) ∙ ap (λ n. matrix_of m.rows n m.cells) (sym f))

below_by : (m : MatrixOf F) (words : List ℕ) → words ≡ numbers m.cells → AreElements words
below_by m words h = subst AreElements (sym h) (numbers_below m.cells)

count_by : (m : MatrixOf F) (n : ℕ) (words : List ℕ) → length m.cells ≡ n → words ≡ numbers m.cells → length words ≡ n
count_by m n words e h = ap length h ∙ length-map m.cells number ∙ e

-- the numbers of the values of a matrix of words
pub values_of_words : (lg cols : ℕ) (old new : List ℕ) (p v : MatrixOf F) → lg ≤ 32 → length old ≡ 2 ^ lg * cols → AreElements old → p ≡ word_matrix (2 ^ lg) cols old
    → IsOfSize v p.rows p.cols → AreValuesOnDomain goldilocks root_of p v → new ≡ numbers v.cells → AreWordValues cols old new
values_of_words lg cols old new p v small count below e size values h = grind (arith, matrix_of_numbers, count_by, below_by)

-- where all rows are filled, what is recovered has the cells as its values
values_of_recovered : (e : EvaluationsOf F) (q : MatrixOf F) → e.filled ≡ replicate e.matrix.rows true → q.rows ≡ e.matrix.rows → q.cols ≡ e.matrix.cols
    → AreRecovered goldilocks root_of e q → AreValuesOnDomain goldilocks root_of q e.matrix
values_of_recovered e q filled rows columns fits lg power j k l t =
    let inside : j < e.matrix.rows = omega (arith, rows) in
    let within : k < e.matrix.cols = omega (arith, columns) in
    let marked : get_or e.filled j false ≡ true = ap (λ bs. get_or bs j false) filled ∙ get_or-replicate e.matrix.rows j true false inside in
    let found = (fits lg k (sym rows ∙ power) within).agrees j (omega (arith, columns_are_full e.matrix k (residue 0))) marked in
    sym (ap number (columns_hold_cells e.matrix j k (residue 0) (residue 0) inside within)) ∙ sym found

-- the numbers of the coefficients of what has a matrix of words as its values
pub coefficients_of_words : (lg cols : ℕ) (old new : List ℕ) (e : EvaluationsOf F) (q : MatrixOf F) → lg ≤ 32 → length old ≡ 2 ^ lg * cols → AreElements old
    → e.matrix ≡ word_matrix (2 ^ lg) cols old → e.filled ≡ replicate (2 ^ lg) true → IsOfSize q e.matrix.rows e.matrix.cols → AreRecovered goldilocks root_of e q → new ≡ numbers q.cells
    → AreWordValues cols new old
coefficients_of_words lg cols old new e q small count below m filled size fits h =
    let rows : e.matrix.rows ≡ 2 ^ lg = ap (λ x. x.rows) m in
    let values : AreValuesOnDomain goldilocks root_of q e.matrix = values_of_recovered e q (filled ∙ ap (λ n. replicate n true) (sym rows)) size.0 size.1 fits in
    let full : length q.cells ≡ 2 ^ lg * cols = size.2 ∙ ap (λ x. x.rows * x.cols) m in
    let whole : q ≡ word_matrix (2 ^ lg) cols new = matrix_of_numbers q (2 ^ lg) cols new (size.0 ∙ rows) (size.1 ∙ ap (λ x. x.cols) m) h in
    let there : AreValuesOnDomain goldilocks root_of (word_matrix (2 ^ lg) cols new) (word_matrix (2 ^ lg) cols old) =
    subst (λ x. AreValuesOnDomain goldilocks root_of (word_matrix (2 ^ lg) cols new) x) m (subst (λ x. AreValuesOnDomain goldilocks root_of x e.matrix) whole values) in
    record {
      lg = lg;
      small = small;
      count = count_by q (2 ^ lg * cols) new full h;
      value_count = count;
      coefficients_below = below_by q new h;
      values_below = below;
      at_powers = there lg refl;
    }

-- the numbers of the coefficients that are recovered from a matrix of words
pub recovered_words : (cols : ℕ) (old bytes new : List ℕ) (q : MatrixOf F) → HasRowsFor (length old) cols (length bytes) → All (λ b. b ≤ 1) bytes
    → AreFilledElements cols old bytes → IsOfSize q (length bytes) cols → AreRecovered goldilocks root_of (word_evaluations cols old bytes) q
    → AreOnlyRecovered goldilocks root_of (word_evaluations cols old bytes) q → new ≡ numbers q.cells → AreRecoveredWords cols old bytes new
recovered_words cols old bytes new q shape marks below size fits only h =
    let whole : q ≡ word_matrix (length bytes) cols new = matrix_of_numbers q (length bytes) cols new size.0 size.1 h in
    record {
      shape = shape;
      marks = marks;
      cells_below = below;
      count = count_by q (length bytes * cols) new size.2 h ∙ sym shape.count;
      coefficients_below = below_by q new h;
      fits = subst (λ x. AreRecovered goldilocks root_of (word_evaluations cols old bytes) x) whole fits;
      only = subst (λ x. AreOnlyRecovered goldilocks root_of (word_evaluations cols old bytes) x) whole only;
    }
