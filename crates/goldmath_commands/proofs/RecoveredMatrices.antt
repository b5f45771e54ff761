-- Matrices that are recovered from rows of values, by columns that fit.
use Rattle.std.proofs.Common.{◌≡◌, ℕ, zero, suc, ◌+◌, ◌*◌, ◌/◌, ◌%◌, ◌<◌, ◌^◌, List, [], ◌∷◌, length, get_or, All, sym, ◌∙◌, ap, ap₂, mul-zero, subst, inl, inr, arith}
use Rattle.std.proofs.lemmas.Bool.{cases_lt}
use Rattle.std.proofs.Math.Nat.{div-lt_iff_lt-mul, mul_comm}
use Rattle.std.proofs.lemmas.List.{get_or_past}
use Rattle.std.specs.List.{AllZip}
use Rattle.math_theory.specs.Recovery.{Fits}
use Rattle.math_fields.specs.declared.goldilocks.F.{F}
use Rattle.math_fields.specs.Elements.{residue, same, sum, product, root_of}
use Rattle.math_transforms.specs.Matrices.{MatrixOf, IsOfSize, AreSameMatrices, cell_of, column_of}
use Rattle.math_ntt.specs.Evaluations.{EvaluationsOf}
use Rattle.math_ntt.proofs.MatrixPlaces.{columns_are_full, columns_hold_cells}
use Rattle.goldmath_commands.specs.Recoveries.{HoldsRows, IsRecovered, EncodesRecovered, spelling_of, value_at}

abbrev nought : F
nought = residue 0

-- column k of q fits column k of v and its filled rows
abbrev FitsColumn : ℕ → EvaluationsOf F → ℕ → List F → Type 0
FitsColumn lg v k q = Fits same nought sum product (residue 1) (root_of lg) (column_of nought v.matrix k) v.filled q

-- items that are same place by place
same_by_places : (xs ys : List F) → length xs ≡ length ys → ((i : ℕ) → i < length xs → same (get_or xs i nought) (get_or ys i nought)) → AllZip same xs ys
same_by_places [] [] e h = tt
same_by_places [] (y ∷ ys) e h = absurd (omega (arith, e))
same_by_places (x ∷ xs) [] e h = absurd (omega (arith, e))
same_by_places (x ∷ xs) (y ∷ ys) e h = (h 0 (omega arith), same_by_places xs ys (omega (arith, e)) (λ i l. h (suc i) (omega arith)))

-- matrices of one size with the same cells by row and column
same_by_cells : (p q : MatrixOf F) (r c : ℕ) → IsOfSize p r c → IsOfSize q r c → ((i k : ℕ) → i < r → k < c → same (cell_of nought p i k) (cell_of nought q i k)) → AreSameMatrices same p q
same_by_cells p q r zero h k cells = (h.0 ∙ sym k.0, h.1 ∙ sym k.1, same_by_places p.cells q.cells (h.2 ∙ sym k.2) (λ n l. absurd (omega (arith, h.2, mul-zero r))))
same_by_cells p q r (suc c) h k cells = (h.0 ∙ sym k.0, h.1 ∙ sym k.1, same_by_places p.cells q.cells (h.2 ∙ sym k.2) at)
  where
    place : (n : ℕ) (m : MatrixOf F) → m.cols ≡ suc c → (n / suc c) * m.cols + n % suc c ≡ n
    place n m e = rw e (omega (arith, mul_comm (n / suc c) (suc c)))

    at : (n : ℕ) → n < length p.cells → same (get_or p.cells n nought) (get_or q.cells n nought)
    at n l =
        let positive : 0 < suc c = omega arith in
        let row : n / suc c < r = (div-lt_iff_lt-mul positive).1 (omega (arith, h.2)) in
        let column : n % suc c < suc c = omega arith in
        ap (λ i. (get_or p.cells i nought).value) (sym (place n p h.1)) ∙ cells (n / suc c) (n % suc c) row column ∙ ap (λ i. (get_or q.cells i nought).value) (place n q k.1)

-- the columns of a matrix that is recovered fit
columns_of_recovered : (lg : ℕ) (rows : List ℕ) (m : MatrixOf F) (v : EvaluationsOf F) (p : MatrixOf F) → HoldsRows lg rows m (length rows) v → IsRecovered lg rows m p
    → (k : ℕ) → k < m.cols → FitsColumn lg v k (column_of nought p k)
columns_of_recovered lg rows m v p h r k t = record {
  agrees = λ j l filled.
      let found = h.marks.only j filled in
      let there : get_or rows found.0 0 < 2 ^ lg = omega (arith, found.2, columns_are_full v.matrix k nought, h.size.0) in
      subst (λ row. same (value_at lg (column_of nought p k) row) (get_or (column_of nought v.matrix k) row nought)) found.2
      (r.agrees found.0 k found.1 t ∙ sym (h.cells found.0 k found.1 t)
      ∙ sym (ap (λ x. x.value) (columns_hold_cells v.matrix (get_or rows found.0 0) k nought nought (omega (arith, h.size.0)) (omega (arith, h.size.1)))));
  zero_from = λ i l. elim (cases_lt i (2 ^ lg)) [
    | inl b ↦ ap (λ x. x.value) (columns_hold_cells p i k nought nought (omega (arith, r.size.0)) (omega (arith, r.size.1))) ∙ r.zero_from i k (omega (arith, h.count)) b t
    | inr b ↦ ap (λ x. x.value) (get_or_past (column_of nought p k) i nought (omega (arith, columns_are_full p k nought, r.size.0)))
  ];
}

module _ (lg : ℕ) (rows : List ℕ) (m : MatrixOf F) (v : EvaluationsOf F) (q : MatrixOf F) (h : HoldsRows lg rows m (length rows) v) (size : IsOfSize q (2 ^ lg) m.cols) where
  -- where each column fits, the matrix is recovered
  recovered_by_columns : ((i : ℕ) → i < length rows → get_or rows i 0 < 2 ^ lg) → ((k : ℕ) → k < m.cols → FitsColumn lg v k (column_of nought q k)) → IsRecovered lg rows m q
  recovered_by_columns below fits = record {
    size = size;
    agrees = λ i k l t.
        let row : ℕ = get_or rows i 0 in
        let there : row < 2 ^ lg = below i l in
        (fits k t).agrees row (omega (arith, columns_are_full v.matrix k nought, h.size.0)) (h.marks.marked i l)
        ∙ ap (λ x. x.value) (columns_hold_cells v.matrix row k nought nought (omega (arith, h.size.0)) (omega (arith, h.size.1)))
        ∙ h.cells i k l t;
    zero_from = λ i k l b t.
        ap (λ x. x.value) (sym (columns_hold_cells q i k nought nought (omega (arith, size.0)) (omega (arith, size.1))))
        ∙ (fits k t).zero_from i (omega (arith, h.count));
  }

  -- where each column is the only one that fits, the matrix is the only one that is recovered
  only_by_columns : ((k : ℕ) → k < m.cols → (p : List F) → length p ≡ 2 ^ lg → FitsColumn lg v k p → (i : ℕ) → i < 2 ^ lg → same (get_or p i nought) (cell_of nought q i k))
      → (p : MatrixOf F) → IsRecovered lg rows m p → AreSameMatrices same p q
  only_by_columns only p r = same_by_cells p q (2 ^ lg) m.cols r.size size (λ i k l t.
      ap (λ x. x.value) (sym (columns_hold_cells p i k nought nought (omega (arith, r.size.0)) (omega (arith, r.size.1))))
      ∙ only k t (column_of nought p k) (columns_are_full p k nought ∙ r.size.0) (columns_of_recovered lg rows m v p h r k t) i l)

-- so the spelling of that matrix is the one answer
pub encodes : (lg : ℕ) (rows : List ℕ) (m : MatrixOf F) (v : EvaluationsOf F) (q : MatrixOf F) (bytes : List ℕ) → HoldsRows lg rows m (length rows) v → IsOfSize q v.matrix.rows v.matrix.cols
    → All (λ row. row < 2 ^ lg) rows → ((k : ℕ) → k < v.matrix.cols → FitsColumn lg v k (column_of nought q k))
    → ((k : ℕ) → k < v.matrix.cols → (p : List F) → length p ≡ v.matrix.rows → FitsColumn lg v k p → (i : ℕ) → i < v.matrix.rows → same (get_or p i nought) (cell_of nought q i k))
    → bytes ≡ spelling_of q → EncodesRecovered lg rows m bytes
encodes lg rows m v q bytes h size below fits only spelled =
    let whole : IsOfSize q (2 ^ lg) m.cols = (size.0 ∙ h.size.0, size.1 ∙ h.size.1, size.2 ∙ ap₂ (λ x y. x * y) h.size.0 h.size.1) in (
      q,
      recovered_by_columns lg rows m v q h whole (λ i l. below i 0 l) (λ k t. fits k (omega (arith, h.size.1))),
      only_by_columns lg rows m v q h whole (λ k t p e f i l. only k (omega (arith, h.size.1)) p (e ∙ sym h.size.0) f i (omega (arith, h.size.0))),
      spelled,
    )
