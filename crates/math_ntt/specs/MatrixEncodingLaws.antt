-- A matrix that is spelled is read again, and no spelling begins another.
use Rattle.std.proofs.Common.{◌≡◌, ℕ, ◌*◌, ◌^◌, ◌<◌, ◌≤◌, true, false, eqb, ltb, List, ◌++◌, length, Result, Ok, refl, sym, ap, ◌∙◌, append_assoc}
use Rattle.std.specs.List.{flat_map}
use Rattle.std.proofs.lemmas.Bool.{le-ltb, eq-eqb}
use Rattle.math_codec.specs.Encodings.{ReadsAgain, SpellsApart}
use Rattle.math_codec.specs.Faults.{Fault}
use Rattle.math_codec.specs.Lengths.{length_spelling, length_in_front}
use Rattle.math_codec.specs.LengthLaws.{length_again, lengths_apart}
use Rattle.math_codec.specs.Lists.{list_spelling}
use Rattle.math_codec.specs.ListLaws.{list_again, list_apart}
use Rattle.math_transforms.specs.Matrices.{MatrixOf, AreSameMatrices}
use Rattle.math_ntt.specs.MatrixEncoding.{matrix_spelling, at_most, AdmitsMatrix, scan_count, scan_matrix}

pub count_again : (most n : ℕ) (rest : List ℕ) → n < 2 ^ 32 → n ≤ most → scan_count most (length_spelling n ++ rest) ≡ Ok (n, rest)
unfolding scan_count
count_again most n rest h k =
    let low : ltb most n ≡ false = le-ltb most n k in
    rw (length_again n rest h, low) refl

-- the length of a list stands in front of it
list_counted : {A : Type 0} (spelling : A → List ℕ) (cells : List A) (rest : List ℕ) → length cells < 2 ^ 32 → length_in_front (list_spelling spelling cells ++ rest) ≡ length cells
unfolding length_in_front
list_counted spelling cells rest h =
    ap length_in_front (append_assoc (length_spelling (length cells)) (flat_map spelling cells) rest) ∙ rw (length_again (length cells) (flat_map spelling cells ++ rest) h) refl

module _ {A : Type 0} (spelling : A → List ℕ) where
  abbrev after_cols : MatrixOf A → List ℕ → List ℕ
  after_cols m rest = list_spelling spelling m.cells ++ rest

  abbrev after_rows : MatrixOf A → List ℕ → List ℕ
  after_rows m rest = length_spelling m.cols ++ after_cols m rest

  -- the three parts stand one after the other, and then what follows the matrix
  parts : (m : MatrixOf A) (rest : List ℕ) → matrix_spelling spelling m ++ rest ≡ length_spelling m.rows ++ after_rows m rest
  parts m rest =
      append_assoc (length_spelling m.rows) (length_spelling m.cols ++ list_spelling spelling m.cells) rest
      ∙ ap (λ (x : List ℕ). length_spelling m.rows ++ x) (append_assoc (length_spelling m.cols) (list_spelling spelling m.cells) rest)

  pub matrix_again : (admits : A → Type 0) (scan : List ℕ → Result (List ℕ) Fault) → ReadsAgain spelling admits scan
      → (most : ℕ) → ReadsAgain (matrix_spelling spelling) (AdmitsMatrix most admits) (scan_matrix most scan)
  unfolding scan_matrix
  matrix_again admits scan again most m rest h =
      let rows = count_again most m.rows (after_rows m rest) h.rows_fit h.rows_counted in
      let cols = count_again most m.cols (after_cols m rest) h.cols_fit h.cols_counted in
      let cells = list_again spelling admits scan again (at_most most) m.cells rest h.each in
      let full : eqb (length_in_front (after_cols m rest)) (m.rows * m.cols) ≡ true = eq-eqb _ _ (list_counted spelling m.cells rest h.each.fits ∙ h.full) in
      ap (scan_matrix most scan) (parts m rest) ∙ rw (rows, cols, cells, full) refl

  pub matrix_apart : (admits : A → Type 0) (alike : A → A → Type 0) → SpellsApart spelling admits alike
      → (most : ℕ) → SpellsApart (matrix_spelling spelling) (AdmitsMatrix most admits) (AreSameMatrices alike)
  matrix_apart admits alike apart most m n x y h k e =
      let rows = lengths_apart m.rows n.rows (after_rows m x) (after_rows n y) h.rows_fit k.rows_fit (sym (parts m x) ∙ e ∙ parts n y) in
      let cols = lengths_apart m.cols n.cols (after_cols m x) (after_cols n y) h.cols_fit k.cols_fit rows.1 in
      let cells = list_apart spelling admits alike apart (at_most most) m.cells n.cells x y h.each k.each cols.1 in
      ((rows.0, cols.0, cells.0), cells.1)
