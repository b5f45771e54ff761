-- From what is recovered of elements, with wrong rows, to the words that are written.
use Rattle.std.proofs.Common.{◌≡◌, ◌∙◌, ℕ, ◌+◌, ◌*◌, ◌≤◌, ◌^◌, ◌++◌, ◌==◌, List, length, drop, All, sym, ap, subst, arith}
use Rattle.std.proofs.lemmas.List.{length-map}
use Rattle.std.proofs.lemmas.List.Sums.{count_by-le-length}
use Rattle.math_theory.specs.Recovery.{count_true}
use Rattle.math_fields.specs.declared.goldilocks.F.{F}
use Rattle.math_fields.specs.Elements.{number, root_of}
use Rattle.math_transforms.specs.Matrices.{MatrixOf, IsOfSize}
use Rattle.math_ntt.specs.CorrectedRows.{IsCorrected}
use Rattle.c_calls.specs.WordCorrections.{AreCorrectedWords}
use Rattle.c_calls.specs.WordElements.{numbers, goldilocks}
use Rattle.c_calls.specs.WordRows.{AreFilledElements, HasRowsFor, truth, word_matrix, word_evaluations}
use Rattle.c_calls.proofs.WordElements.{numbers_below}
use Rattle.c_calls.proofs.WordMatrices.{matrix_of_numbers}

-- there is room for the wrong rows
pub room_for_rows : (bytes rows wrong : List ℕ) (count : ℕ) → length bytes ≤ 2 * length wrong + 1 → length rows + length rows + count ≤ count_true (truth bytes)
    → length rows ≤ length wrong
room_for_rows bytes rows wrong count room few = omega (arith, room, few, count_by-le-length (λ b. b) (truth bytes), length-map bytes (λ b. b == 1))

-- the numbers of the coefficients that are corrected of the words
pub corrected_words : (cols count lg : ℕ) (old bytes new wrong wrong' : List ℕ) (q : MatrixOf F) (rows : List ℕ) (n : ℕ) → HasRowsFor (length old) cols (length bytes)
    → All (λ b. b ≤ 1) bytes → AreFilledElements cols old bytes → length bytes ≡ 2 ^ lg → length bytes ≤ 2 * length wrong + 1 → new ≡ numbers q.cells → n ≡ length rows
    → wrong' ≡ rows ++ drop n wrong → ((l : ℕ) → length bytes ≡ 2 ^ l → IsCorrected goldilocks (root_of l) (word_evaluations cols old bytes) count q rows)
    → AreCorrectedWords cols count old bytes new wrong wrong' n
corrected_words cols count lg old bytes new wrong wrong' q rows n shape marks below power room h is stand found =
    let size : IsOfSize q (length bytes) cols = (found lg power).size in
    let whole : q ≡ word_matrix (length bytes) cols new = matrix_of_numbers q (length bytes) cols new size.0 size.1 h in
    record {
      shape = shape;
      marks = marks;
      cells_below = below;
      number = ap length h ∙ length-map q.cells number ∙ size.2 ∙ sym shape.count;
      coefficients_below = rw h (numbers_below q.cells);
      rows = rows;
      count_rows = is;
      stand = (room_for_rows bytes rows wrong count room (found lg power).few, rw is at stand);
      corrected = subst (λ (x : MatrixOf F). (l : ℕ) → length bytes ≡ 2 ^ l → IsCorrected goldilocks (root_of l) (word_evaluations cols old bytes) count x rows) whole found;
    }
