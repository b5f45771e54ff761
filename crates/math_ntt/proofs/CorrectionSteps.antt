-- Rows that are dropped because they are wrong for every answer, and what is recovered from the rows that are left.
use Rattle.std.proofs.Common.{◌≡◌, ◌∙◌, inl, inr, ℕ, ◌+◌, ◌*◌, ◌<◌, ◌≤◌, List, Bool, true, false, not, length, take, get_or, sym, subst, arith}
use Rattle.std.proofs.lemmas.Bool.{cases_Bool, cases_lt, not_from_false, not-true}
use Rattle.std.proofs.lemmas.List.{get_or_default, get_or_past, get_or-take, length-take}
use Rattle.std.proofs.lemmas.List.Elements.{All-filter, filter_passes}
use Rattle.std.proofs.lemmas.List.Kept.{IsStrictlyIncreasing-filter}
use Rattle.std.specs.List.{All, filter}
use Rattle.math_theory.specs.Coefficients.{HaveSameCoefficients, coefficient}
use Rattle.math_theory.specs.Interpolation.{AreApart}
use Rattle.math_theory.specs.Laws.{IsEquality, IsGroup, IsProduct, IsRing, IsField}
use Rattle.math_theory.specs.Powers.{power, powers}
use Rattle.math_theory.specs.Recovery.{Fits, count_true, filled_places}
use Rattle.math_theory.proofs.polynomials.AlikeCoefficients.{value-alike}
use Rattle.math_theory.proofs.recovery.CarriedRecovery.{fits_once-same}
use Rattle.math_base.specs.Members.{RingOf}
use Rattle.math_transforms.specs.Matrices.{MatrixOf, IsOfSize, column_of, cell_of}
use Rattle.math_transforms.proofs.MatrixRows.{length-column, cell-of_column}
use Rattle.math_transforms.proofs.PresentIndices.{length-places}
use Rattle.math_ntt.specs.Evaluations.{EvaluationsOf}
use Rattle.math_ntt.specs.CorrectedRows.{AgreesAtRow, AreWithinRadius, IsCorrected}
use Rattle.math_ntt.specs.NarrowedRows.{IsNear, IsNarrowed}
use Rattle.math_ntt.proofs.MarkedRows.{AreAmong, inside-true, count-among, among-back, contains-place, place-marked, rising-places, count-dropped, contains-filtered}
use Rattle.math_ntt.proofs.NarrowedColumns.{near-once}

-- the evaluations of which these rows are left
abbrev pub with_rows : {A : Type 0} → EvaluationsOf A → List Bool → EvaluationsOf A
with_rows e left = record { matrix = e.matrix; filled = left }

module _ {A : Type 0} (R : RingOf A) (w : A) (e : EvaluationsOf A) (count : ℕ) where
  -- of the filled rows these are left, and each other one is wrong, in one column, for all that are within the radius
  pub record AreDropped (left : List Bool) : Type 0 where
    pub marks : length left ≡ length e.filled
    pub among : AreAmong left e.filled
    pub dropped : (i : ℕ) → get_or e.filled i false ≡ true → get_or left i false ≡ false
        → (k : ℕ) × (k < e.matrix.cols) × ((a : ℕ → List A) → AreWithinRadius R w e count a → ¬ (AgreesAtRow R w e.matrix i k (a k)))

  pub dropped-begun : AreDropped e.filled
  dropped-begun = grind arith

  dropped-right : (left : List Bool) (a : ℕ → List A) → AreDropped left → (h : AreWithinRadius R w e count a) → AreAmong h.right left
  dropped-right left a d h i t = elim (cases_Bool (get_or left i false)) [
    | inl l ↦ l
    | inr f ↦ let (k, b, n) = d.dropped i (h.among i t) f in absurd (n a h (h.agree i k b t))
  ]

  -- the column of what is within the radius is near in the rows that are left
  pub near-left : (left : List Bool) (a : ℕ → List A) (k : ℕ) → AreDropped left → k < e.matrix.cols → AreWithinRadius R w e count a → IsNear R w (with_rows e left) k count (a k)
  near-left left a k d l h = record {
    right = h.right;
    marks = h.marks ∙ sym d.marks;
    among = dropped-right left a d h;
    few = omega (arith, h.few, count-among left e.filled d.among);
    short = h.short k l;
    agree = λ i t. h.agree i k l t;
  }

  -- where nothing is near in a column, nothing is within the radius
  pub none-near : (left : List Bool) (k : ℕ) → AreDropped left → k < e.matrix.cols → ((p : List A) → ¬ (IsNear R w (with_rows e left) k count p))
      → (a : ℕ → List A) → ¬ (AreWithinRadius R w e count a)
  none-near left k d l none a h = none (a k) (near-left left a k d l h)

  -- nor where too few rows are left
  pub none-few : (left : List Bool) → AreDropped left → count_true left + count_true left < count_true e.filled + count → (a : ℕ → List A) → ¬ (AreWithinRadius R w e count a)
  none-few left d f a h = omega (arith, f, h.few, count-among h.right left (dropped-right left a d h))

  module _ (E : IsEquality R.same) (G : IsGroup R.same R.zero R.sum R.negative) (P : IsProduct R.same R.product) (L : IsRing R.same R.sum R.product R.one) where
    agrees-same : (i k : ℕ) (p q : List A) → HaveSameCoefficients R.same R.zero p q → AgreesAtRow R w e.matrix i k q → AgreesAtRow R w e.matrix i k p
    agrees-same i k p q h s = E.transitive _ _ _ (value-alike E G P L (power R.one R.product w i) p q h) s

    -- the rows in which a column differs from what is decoded are dropped too
    pub dropped-narrowed : (left less : List Bool) (k : ℕ) → AreDropped left → k < e.matrix.cols → IsNarrowed R w (with_rows e left) k count less → AreDropped less
    dropped-narrowed left less k d l n = record {
      marks = n.marks ∙ d.marks;
      among = λ i t. d.among i (n.among i t);
      dropped = λ i t f. elim (cases_Bool (get_or left i false)) [
        | inr g ↦ d.dropped i t g
        | inl g ↦ (
          k,
          l,
          λ a h s. n.differ i g f (agrees-same i k n.polynomial (a k) (λ j. E.symmetric _ _ (n.only (a k) (near-left left a k d l h) j)) s),
        )
      ];
    }

    module _ {inverse : A → A} (F : IsField R.same R.zero R.product R.one inverse) (rows : ℕ) (full : length e.matrix.cells ≡ rows * e.matrix.cols) (many : e.matrix.rows ≡ rows)
        (long : length e.filled ≡ rows) (apart : AreApart R.same (powers R.one R.product w rows)) where
      -- v has as its columns polynomials that fit those of the cells in the rows that are left
      abbrev AreFitting : List Bool → MatrixOf A → Type 0
      AreFitting left v = (k : ℕ) → k < e.matrix.cols → Fits R.same R.zero R.sum R.product R.one w (column_of R.zero e.matrix k) left (column_of R.zero v k)

      cell-in : (k i : ℕ) → k < e.matrix.cols → get_or (column_of R.zero e.matrix k) i R.zero ≡ cell_of R.zero e.matrix i k
      cell-in k i l = cell-of_column R.zero e.matrix k i l (rw many full)

      column-long : (k : ℕ) → length (column_of R.zero e.matrix k) ≡ rows
      column-long k = length-column R.zero e.matrix k ∙ many

      agrees-fitting : (left : List Bool) (v : MatrixOf A) (i k : ℕ) → AreAmong left e.filled → AreFitting left v → k < e.matrix.cols → get_or left i false ≡ true
          → AgreesAtRow R w e.matrix i k (column_of R.zero v k)
      agrees-fitting left v i k among f l t =
          let inside : i < length (column_of R.zero e.matrix k) = omega (arith, inside-true e.filled i (among i t), long, column-long k) in
          rw (cell-in k i l) at ((f k l).agrees i inside t)

      -- where a column of what is recovered has a coefficient too many, fewer rows are left
      pub fewer-left : (left less : List Bool) (v : MatrixOf A) (k i : ℕ) → AreDropped left → k < e.matrix.cols → count ≤ count_true left → AreFitting left v
          → count ≤ i → ¬ (R.same (coefficient R.zero (column_of R.zero v k) i) R.zero) → IsNarrowed R w (with_rows e left) k count less → count_true less < count_true left
      fewer-left left less v k i d l enough f b nonzero n = elim (cases_lt (count_true less) (count_true left)) [
        | inl m ↦ m
        | inr m ↦
            let back = among-back less left n.among (omega (arith, m)) in
            let polynomial_fits : Fits R.same R.zero R.sum R.product R.one w (column_of R.zero e.matrix k) left n.polynomial = record {
              agrees = λ j s t. rw (cell-in k j l) (n.agree j (back j t));
              zero_from = λ j s. rw (get_or_past n.polynomial j R.zero (omega (arith, s, enough, n.number))) (E.reflexive R.zero);
            } in
            let once =
            fits_once-same E G P L F w (column_of R.zero e.matrix k) left (d.marks ∙ long ∙ sym (column-long k)) (rw (column-long k) apart)
            (column_of R.zero v k) n.polynomial (f k l) polynomial_fits in
            absurd (nonzero (rw (get_or_past n.polynomial i R.zero (omega (arith, b, n.number))) at (once i)))
      ]

      module _ (left : List Bool) (v : MatrixOf A) (d : AreDropped left) (size : IsOfSize v e.matrix.rows e.matrix.cols) (fits : AreFitting left v)
          (zeros : (k i : ℕ) → k < e.matrix.cols → count ≤ i → R.same (coefficient R.zero (column_of R.zero v k) i) R.zero)
          (few : count_true e.filled + count ≤ count_true left + count_true left) where
        abbrev column : ℕ → List A
        column k = column_of R.zero v k

        abbrev cut : ℕ → List A
        cut k = take count (column k)

        same-cut : (k : ℕ) → k < e.matrix.cols → HaveSameCoefficients R.same R.zero (cut k) (column k)
        same-cut k l i = grind (arith, cases_lt, get_or-take, get_or_past, length-take)

        within : AreWithinRadius R w e count cut
        within = record {
          right = left;
          marks = d.marks;
          among = d.among;
          few = few;
          short = λ k l. omega (arith, length-take count (column k));
          agree = λ i k l t. agrees-same i k (cut k) (column k) (same-cut k l) (agrees-fitting left v i k d.among fits l t);
        }

        abbrev wrong : List ℕ
        wrong = filter (λ i. not (get_or left i false)) (filled_places e.filled)

        enough : count ≤ count_true left
        enough = omega (arith, few, count-among left e.filled d.among)

        pub corrected : IsCorrected R w e count v (filter (λ i. not (get_or left i false)) (filled_places e.filled))
        corrected = record {
          size = size;
          zero_from = zeros;
          rows = record {
            rising = IsStrictlyIncreasing-filter (λ i. not (get_or left i false)) (filled_places e.filled) (rising-places e.filled);
            filled = All-filter (λ i. not (get_or left i false)) (λ i. get_or e.filled i false ≡ true) (filled_places e.filled) (filled-marked e.filled);
            differ = λ j b m.
                let i = get_or wrong j b in
                let f : get_or left i false ≡ false = not-true (get_or left i false) (filter_passes (λ i. not (get_or left i false)) (filled_places e.filled) j b m) in
                let t : get_or e.filled i false ≡ true = All-filter (λ i. not (get_or left i false)) (λ i. get_or e.filled i false ≡ true) (filled_places e.filled) (filled-marked e.filled) j b m in
                let (k, l, n) = d.dropped i t f in (k, l, λ s. n cut within (agrees-same i k (cut k) (column k) (same-cut k l) s));
            agree = λ i k l t n. elim (cases_Bool (get_or left i false)) [
              | inl s ↦ agrees-fitting left v i k d.among fits l s
              | inr f ↦ absurd (n (contains-filtered (λ i. not (get_or left i false)) (filled_places e.filled) i (contains-place e.filled i t) (not_from_false (get_or left i false) f)))
            ];
          };
          few = omega (arith, few, count-dropped left e.filled d.marks d.among);
          only = λ a h k l i.
              E.transitive _ _ _
              (near-once R E G P L w F (with_rows e left) k count rows (a k) (cut k) (d.marks ∙ long) apart enough (near-left left a k d l h) (near-left left cut k d l within) i)
              (same-cut k l i);
        }
          where
            filled-marked : (bs : List Bool) → All (λ i. get_or bs i false ≡ true) (filled_places bs)
            filled-marked bs j b m =
                let n : j < count_true bs = omega (arith, m, length-places bs) in
                subst (λ i. get_or bs i false ≡ true) (get_or_default (filled_places bs) j 0 b m) (place-marked bs j n)
