-- Cells that are corrected: they are those of the only codeword near the rows, and where there are none there is no such codeword.
use Rattle.std.proofs.Common.{◌≡◌, ◌⊎◌, ◌∙◌, inl, inr, ℕ, ◌+◌, ◌*◌, ◌<◌, ◌≤◌, ◌^◌, List, [], ◌∷◌, ◌++◌, Bool, length, take, get_or, refl, sym, ap, subst, arith}
use Rattle.std.specs.List.{All, Contains, filter}
use Rattle.std.proofs.lemmas.Bool.{cases_lt}
use Rattle.std.proofs.lemmas.List.{get_or-take, get_or_default, get_or_past, length-append, length-take}
use Rattle.std.proofs.lemmas.List.Elements.{All-filter, Contains-append_left, Contains-append_right, filter_passes}
use Rattle.std.proofs.lemmas.List.Kept.{IsStrictlyIncreasing-filter}
use Rattle.std.proofs.lemmas.Nat.{mul-le}
use Rattle.math_theory.specs.Coefficients.{HaveSameCoefficients}
use Rattle.math_theory.specs.Recovery.{count_true}
use Rattle.math_fields.specs.declared.goldilocks.F.{F}
use Rattle.math_fields.specs.Elements.{goldilocks, number, residue, root_of, same}
use Rattle.math_ntt.specs.CorrectedRows.{AreWithinRadius, IsCorrected}
use Rattle.math_ntt.specs.Evaluations.{EvaluationsOf}
use Rattle.math_transforms.proofs.PresentIndices.{lg-only}
use Rattle.math_transforms.specs.DomainValues.{AreValuesOnDomain}
use Rattle.math_transforms.specs.Matrices.{IsOfSize, MatrixOf, cell_of, column_of}
use Rattle.math_values.proofs.ElementValues.{same_values}
use Rattle.systematic_shards.specs.declared.Error.{Error}
use Rattle.systematic_shards.specs.declared.Error.TheVariants.{Memory, TooFew, Mismatch, Sizes, Index, Word, Conflict, Inconsistent}
use Rattle.systematic_shards.specs.declared.rows.Row.{Row}
use Rattle.systematic_shards.specs.declared.split.Split.{Split}
use Rattle.systematic_shards.specs.Codewords.{AreSameRows, IsPolynomialOf}
use Rattle.row_interpolation.specs.RowValues.{value_at_index}
use Rattle.systematic_shards.specs.Correcting.{AreSettledRows, HasCells, HaveOneCorrection, HaveSettled, HoldsNear, IsCorrectingDue, IsNear, IsSettled, IsSettledIndex, cells_at}
use Rattle.systematic_shards.specs.Errors.{IsMemory}
use Rattle.systematic_shards.specs.Refusals.{AreAsked, IsDue}
use Rattle.systematic_shards.specs.Shards.{IsCodewordOf, IsRowOf}
use Rattle.row_interpolation.proofs.IndexPoints.{domain_of, point}
use Rattle.systematic_shards.proofs.Codewords.{one_codeword}
use Rattle.systematic_shards.proofs.Elements.{same-from_word, word-from_same}
use Rattle.systematic_shards.proofs.Marked.{count-without, is_outside, length-without, outside-many, outside-missing, without, without-marked}
use Rattle.row_interpolation.proofs.RisingIndices.{rising-distinct}
use Rattle.systematic_shards.proofs.Settled.{settled-below, settled-few, settled-many}

abbrev nought : F
nought = residue 0

-- the first coefficients, where the others are zero, are as good as all
first_coefficients : (n : ℕ) (p : List F) → ((i : ℕ) → n ≤ i → same (get_or p i nought) nought) → HaveSameCoefficients same nought (take n p) p
first_coefficients n p zeros i = elim (cases_lt i n) as (λ _. same (get_or (take n p) i nought) (get_or p i nought)) [
  | inl before ↦ ap number (get_or-take n p i nought before)
  | inr after ↦ ap number (get_or_past (take n p) i nought (omega (arith, after, length-take n p))) ∙ sym (zeros i after)
]

module _ {M : Type 0} (word : List M → ℕ → ℕ) (split : Split) (mask : ℕ) (short : mask < 2 ^ 32) (rows : List (Row M)) where
  -- what is known of a settled index: one of the rows has it and is settled
  of_index : (P : Row M → Type 0) → All (λ row. IsSettled word split mask rows row → P row) rows → (i : ℕ) (s : IsSettledIndex word split mask rows i) → P s.1
  of_index P all i (k, row, l, at, of) = subst P at (all k row l (subst (IsSettled word split mask rows) (sym at) of.1))

  module _ (below : All (λ row. row.index < split.total) rows) (e : EvaluationsOf F) (r : AreSettledRows word split mask rows e) where
    -- the domain has at most 2^32 points
    pub domain-small : r.lg ≤ 32
    domain-small =
        let some : 1 ≤ split.total = omega (arith, split.some, split.within) in
        let (lg, next, small) = domain_of split.total some split.short in
        let one : r.lg ≡ lg = lg-only split.total r.lg lg (omega (arith, some)) r.next next in
        omega (arith, one, small)

    -- the cells of the matrix, whose width is known
    cell-at : (m : MatrixOf F) (i k : ℕ) → m.cols ≡ split.width → cell_of nought m i k ≡ cells_at split.width m.cells i k
    cell-at m i k wide = ap (λ c. get_or m.cells (i * c + k) nought) wide

    -- a codeword near the rows has polynomials within the radius
    pub within-radius : (a : ℕ → ℕ → F) → IsCodewordOf split a → IsNear word split mask rows a
        → (p : ℕ → List F) × AreWithinRadius goldilocks (root_of r.lg) e split.min p
    within-radius a of_code near =
        let pick : (k : ℕ) → (p : List F) × (k < split.width → IsPolynomialOf r.lg split.min split.total (λ i. a i k) p) =
        λ k. elim (cases_lt k split.width) as (λ _. (p : List F) × (k < split.width → IsPolynomialOf r.lg split.min split.total (λ i. a i k) p)) [
          | inl l ↦ let (p, of_p) = of_code r.lg k r.next l in (p, λ _. of_p)
          | inr past ↦ ([], λ l. absurd (omega (arith, l, past)))
        ] in
        let right : List Bool = without near.wrong e.filled in
        let enough : length near.wrong + length near.wrong + split.min ≤ count_true e.filled =
        settled-few word split mask rows (length near.wrong + length near.wrong + split.min) (2 ^ r.lg) e.filled r.marked near.enough in (
          λ k. (pick k).0,
          record {
            right = right;
            marks = length-without near.wrong e.filled;
            among = λ i t. (without-marked near.wrong e.filled i t).0;
            few = omega (arith, enough, count-without near.wrong e.filled);
            short = λ k l. ((pick k).1 (omega (arith, l, r.size.1))).few;
            agree = λ i k l t.
                let (marked, outside) = without-marked near.wrong e.filled i t in
                let s : IsSettledIndex word split mask rows i = (r.marked.exactly i).0 marked in
                let row : Row M = s.1 in
                let index : row.index ≡ i = s.4.0 in
                let m : k < split.width = omega (arith, l, r.size.1) in
                let of_row : IsRowOf split mask a row.index (word row.cells.now) =
                of_index (λ row. ¬ (Contains near.wrong row.index) → IsRowOf split mask a row.index (word row.cells.now)) near.right i s (subst (λ j. ¬ (Contains near.wrong j)) (sym index) outside) in
                let has : HasCells word split mask e.matrix.cells row = of_index (HasCells word split mask e.matrix.cells) r.cells i s in
                sym (((pick k).1 m).values i (settled-below word split mask rows below i s))
                ∙ ap (λ j. number (a j k)) (sym index)
                ∙ sym (same-from_word split.min mask row.index (word row.cells.now k) (a row.index k) short (of_row k m))
                ∙ sym (has k m)
                ∙ ap (λ j. number (cells_at split.width e.matrix.cells j k)) index
                ∙ sym (ap number (cell-at e.matrix i k r.size.1));
          },
        )

    -- the values of polynomials that are corrected are the cells of a codeword near the rows
    module _ (q v : MatrixOf F) (wrong : List ℕ) (h : IsCorrected goldilocks (root_of r.lg) e split.min q wrong) (size : IsOfSize v q.rows q.cols)
        (values : AreValuesOnDomain goldilocks root_of q v) where
      rows-domain : q.rows ≡ 2 ^ r.lg
      rows-domain = h.size.0 ∙ r.size.0

      wide : q.cols ≡ split.width
      wide = h.size.1 ∙ r.size.1

      -- a cell is the value of the polynomial in its column
      cell-value : (i k : ℕ) → i < split.total → k < split.width → same (cells_at split.width v.cells i k) (value_at_index r.lg (column_of nought q k) i)
      cell-value i k l m =
          sym (ap number (cell-at v i k (size.1 ∙ wide)))
          ∙ values r.lg rows-domain i k (omega (arith, l, rows-domain, r.next.1)) (omega (arith, m, wide))

      -- each column of the cells is that of a polynomial of few coefficients
      found-codeword : IsCodewordOf split (cells_at split.width v.cells)
      found-codeword lg k next m =
          let column : List F = column_of nought q k in
          let one : r.lg ≡ lg = lg-only split.total r.lg lg (omega (arith, split.some, split.within)) r.next next in
          let few : HaveSameCoefficients same nought (take split.min column) column =
          first_coefficients split.min column (λ i past. h.zero_from k i (omega (arith, m, r.size.1)) past) in (
            take split.min column,
            record {
              few = omega (arith, length-take split.min column);
              values = λ i l.
                  subst (λ n. same (cells_at split.width v.cells i k) (value_at_index n (take split.min column) i)) one
                  (cell-value i k l m ∙ sym (same_values (point r.lg i) (take split.min column) column few));
            },
          )

      -- the rows of settled indices but the wrong ones are its rows
      found-right : (row : Row M) → row.index < split.total → HasCells word split mask e.matrix.cells row → IsSettledIndex word split mask rows row.index → IsSettled word split mask rows row
          → ¬ (Contains wrong row.index) → IsRowOf split mask (cells_at split.width v.cells) row.index (word row.cells.now)
      found-right row l has there settled outside k m =
          word-from_same split.min mask row.index (word row.cells.now k) (cells_at split.width v.cells row.index k) short (settled.0 k m)
          (sym (has k m)
          ∙ sym (ap number (cell-at e.matrix row.index k r.size.1))
          ∙ sym (h.rows.agree row.index k (omega (arith, m, r.size.1)) ((r.marked.exactly row.index).1 there) outside)
          ∙ sym (cell-value row.index k l m))

      pub found-near : HoldsNear word split mask rows v.cells
      found-near =
          let up : split.total * split.width ≤ q.rows * q.cols =
          mul-le split.total split.width q.rows q.cols (omega (arith, rows-domain, r.next.1)) (omega (arith, wide)) in
          record {
            count = omega (arith, up, size.2);
            of_code = found-codeword;
            near = record {
              wrong = wrong;
              enough = settled-many word split mask rows (length wrong + length wrong + split.min) (2 ^ r.lg) e.filled below r.marked h.few;
              right = λ t d l settled outside.
                  let row : Row M = get_or rows t d in
                  let at : get_or rows t row ≡ row = get_or_default rows t row d l in
                  found-right row (below t d l) (r.cells t d l settled) (t, row, l, at, (refl, settled)) settled outside;
            };
          }

  -- codewords near the rows agree at the settled indices that are wrong for neither, so everywhere
  agree-everywhere : (a b : ℕ → ℕ → F) → IsCodewordOf split a → IsCodewordOf split b → (A : IsNear word split mask rows a) (B : IsNear word split mask rows b)
      → HaveSettled word split mask (length A.wrong + length B.wrong + split.min) rows → AreSameRows split.total split.width a b
  agree-everywhere a b of_a of_b A B h =
      let both : List ℕ = A.wrong ++ B.wrong in
      let kept : List ℕ = filter (is_outside both) h.indices in
      let rising = IsStrictlyIncreasing-filter (is_outside both) h.indices h.rising.0 in
      let lost : length h.indices ≤ length kept + length both = outside-many both h.indices (rising-distinct h.indices h.rising.0) in
      one_codeword split.min split.total split.width kept a b split.short
      (rising-distinct kept rising, All-filter (is_outside both) (λ i. i < split.total) h.indices h.rising.1)
      (omega (arith, lost, h.enough, length-append A.wrong B.wrong)) of_a of_b
      (λ t k l m.
      let i : ℕ = get_or kept t 0 in
      let s : IsSettledIndex word split mask rows i = All-filter (is_outside both) (IsSettledIndex word split mask rows) h.indices h.settled t 0 l in
      let outside : ¬ (Contains both i) = outside-missing both i (filter_passes (is_outside both) h.indices t 0 l) in
      let row : Row M = s.1 in
      let index : row.index ≡ i = s.4.0 in
      let in_a : IsRowOf split mask a row.index (word row.cells.now) =
      of_index (λ row. ¬ (Contains A.wrong row.index) → IsRowOf split mask a row.index (word row.cells.now)) A.right i s
      (subst (λ j. ¬ (Contains A.wrong j)) (sym index) (λ c. outside (Contains-append_left A.wrong B.wrong i c))) in
      let in_b : IsRowOf split mask b row.index (word row.cells.now) =
      of_index (λ row. ¬ (Contains B.wrong row.index) → IsRowOf split mask b row.index (word row.cells.now)) B.right i s
      (subst (λ j. ¬ (Contains B.wrong j)) (sym index) (λ c. outside (Contains-append_right A.wrong B.wrong i c))) in
      subst (λ j. same (a j k) (b j k)) index
      (sym (same-from_word split.min mask row.index (word row.cells.now k) (a row.index k) short (in_a k m))
      ∙ same-from_word split.min mask row.index (word row.cells.now k) (b row.index k) short (in_b k m)))

-- so many or fewer
fewer : {M : Type 0} (word : List M → ℕ → ℕ) (split : Split) (mask m n : ℕ) (rows : List (Row M)) → m ≤ n → HaveSettled word split mask n rows → HaveSettled word split mask m rows
fewer word split mask m n rows less h = record { indices = h.indices; rising = h.rising; settled = h.settled; enough = omega (arith, less, h.enough) }

pub one_correction : {M : Type 0} (word : List M → ℕ → ℕ) → HaveOneCorrection word
one_correction word split mask rows a b short of_a of_b A B =
    let n : ℕ = length A.wrong + length B.wrong + split.min in
    agree-everywhere word split mask short rows a b of_a of_b A B (elim (cases_lt (length A.wrong) (length B.wrong)) as (λ _. HaveSettled word split mask n rows) [
      | inl less ↦ fewer word split mask n (length B.wrong + length B.wrong + split.min) rows (omega (arith, less)) B.enough
      | inr more ↦ fewer word split mask n (length A.wrong + length A.wrong + split.min) rows (omega (arith, more)) A.enough
    ])

module _ {M : Type 0} (bytes : ℕ) (word : List M → ℕ → ℕ) (split : Split) (mask : ℕ) (rows : List (Row M)) (wanted : List ℕ) where
  -- `total` is no index that can be asked for
  never-asked : ¬ (AreAsked bytes split rows (split.total ∷ []))
  never-asked asked = let less : split.total < split.total = asked.2 0 0 (omega arith) in omega (arith, less)

  -- what is due whatever the mask is, and whatever is wanted
  pub checked-due : (e : Error) → ((m : ℕ) (indices : List ℕ) → IsDue bytes word split m rows indices e) → IsCorrectingDue bytes word split mask rows wanted e
  checked-due (Memory e) h = tt
  checked-due TooFew h = elim (h mask (split.total ∷ [])) as (λ _. IsCorrectingDue bytes word split mask rows wanted TooFew) [
    | inl none ↦ inl none
    | inr due ↦ absurd (never-asked due.0)
  ]
  checked-due Mismatch h = h mask wanted
  checked-due Sizes h = h mask wanted
  checked-due Index h = h mask wanted
  checked-due Word h = never-asked (h mask (split.total ∷ [])).0
  checked-due Conflict h = never-asked (h mask (split.total ∷ [])).0
  checked-due Inconsistent h = never-asked (h mask (split.total ∷ [])).0

  -- memory may run out at any time
  correcting-memory : (e : Error) → IsMemory e → IsCorrectingDue bytes word split mask rows wanted e
  correcting-memory (Memory e) h = tt
  correcting-memory TooFew h = absurd h
  correcting-memory Mismatch h = absurd h
  correcting-memory Sizes h = absurd h
  correcting-memory Index h = absurd h
  correcting-memory Word h = absurd h
  correcting-memory Conflict h = absurd h
  correcting-memory Inconsistent h = absurd h

  pub settled-due : (e : Error) → AreAsked bytes split rows wanted → IsMemory e ⊎ ((e ≡ TooFew) × ¬ (HaveSettled word split mask split.min rows))
      → IsCorrectingDue bytes word split mask rows wanted e
  settled-due e asked h = elim h as (λ _. IsCorrectingDue bytes word split mask rows wanted e) [
    | inl memory ↦ correcting-memory e memory
    | inr few ↦ subst (IsCorrectingDue bytes word split mask rows wanted) (sym few.0) (inr (asked, few.1))
  ]
