-- From what is decoded of the cells of a column in the filled rows to the rows in which the column agrees with it.
use Rattle.std.proofs.Common.{◌≡◌, ◌∙◌, ◌↔◌, inl, inr, ℕ, ◌+◌, ◌*◌, ◌<◌, ◌≤◌, List, Bool, true, false, not, length, map, get_or, sym, ap, subst, true≢false, arith}
use Rattle.std.proofs.lemmas.Bool.{cases_Bool}
use Rattle.std.proofs.lemmas.List.{length-map, get_or-map, get_or_default}
use Rattle.std.proofs.lemmas.List.Kept.{AllPairs-from_increasing}
use Rattle.std.proofs.lemmas.List.FromFn.{length-map-range_with_len, get_or-map-range_with_len}
use Rattle.std.specs.List.{All, Contains}
use Rattle.math_theory.specs.Coefficients.{HaveSameCoefficients}
use Rattle.math_theory.specs.Interpolation.{AreApart}
use Rattle.math_theory.specs.Laws.{IsEquality, IsGroup, IsProduct, IsRing, IsField}
use Rattle.math_theory.specs.Powers.{power, powers}
use Rattle.math_theory.specs.Recovery.{count_true, filled_items, filled_places}
use Rattle.math_theory.proofs.decoding.CarriedDecoding.{decoding_once-same}
use Rattle.math_theory.proofs.decoding.Decoding.{contained}
use Rattle.math_theory.proofs.polynomials.BuiltPolynomials.{value-at}
use Rattle.math_theory.proofs.recovery.FilledItems.{length-filled_items}
use Rattle.math_base.specs.Members.{RingOf}
use Rattle.math_base.specs.Polynomials.{value_in_ring}
use Rattle.math_decoding.specs.Decodings.{IsDecoded, IsWithinRadius}
use Rattle.math_transforms.specs.Matrices.{MatrixOf, cell_of}
use Rattle.math_transforms.proofs.PresentIndices.{length-places, places-below}
use Rattle.math_ntt.specs.Evaluations.{EvaluationsOf}
use Rattle.math_ntt.specs.CorrectedRows.{AgreesAtRow}
use Rattle.math_ntt.specs.NarrowedRows.{IsNear, IsNarrowed}
use Rattle.math_ntt.proofs.MarkedRows.{inside-true, count-not, count-marked_among, contains-place, place-marked, rising-places, items-at_places}

-- the filled rows are below the number of rows
pub rows-below : (filled : List Bool) (n : ℕ) (rows : List ℕ) → rows ≡ filled_places filled → length filled ≡ n → All (λ row. row < n) rows
rows-below filled n rows e long = rw (e, ← long) (places-below filled)

module _ {A : Type 0} (R : RingOf A) (E : IsEquality R.same) (G : IsGroup R.same R.zero R.sum R.negative) (P : IsProduct R.same R.product) (L : IsRing R.same R.sum R.product R.one) (w : A) where
  abbrev at : ℕ → A
  at i = power R.one R.product w i

  -- a filled row by its number among the filled ones
  abbrev pub row : EvaluationsOf A → ℕ → ℕ
  row e j = get_or (filled_places e.filled) j 0

  -- the points and the values that stand for column k in the filled rows
  pub record StandFor (e : EvaluationsOf A) (k : ℕ) (xs vs : List A) : Type 0 where
    pub points : length xs ≡ count_true e.filled
    pub values : length vs ≡ length xs
    pub point : (j : ℕ) → j < length xs → R.same (get_or xs j R.zero) (at (row e j))
    pub value : (j : ℕ) → j < length xs → R.same (get_or vs j R.zero) (cell_of R.zero e.matrix (row e j) k)

  -- what is copied from the powers and from the column, row by row of the list of filled rows, stands for them
  pub stands : (m : MatrixOf A) (filled : List Bool) (k n : ℕ) (cols : ℕ) (cells list xs vs : List A) (rows : List ℕ) → cols ≡ m.cols → cells ≡ m.cells
      → rows ≡ filled_places filled → length filled ≡ n
      → ((i : ℕ) → i < n → R.same (get_or list i R.zero) (at i)) → length xs ≡ length rows → length vs ≡ length rows
      → ((j : ℕ) (d : A) → j < length rows → R.same (get_or xs j d) (get_or list (get_or rows j 0 * 1 + 0) d))
      → ((j : ℕ) (d : A) → j < length rows → R.same (get_or vs j d) (get_or cells (get_or rows j 0 * cols + k) d))
      → StandFor (record { matrix = m; filled = filled }) k xs vs
  stands m filled k n cols cells list xs vs rows same_cols same_cells are long powered a b points values = record {
    points = a ∙ ap length are ∙ length-places filled;
    values = b ∙ sym a;
    point = λ j l.
        let r : get_or rows j 0 ≡ get_or (filled_places filled) j 0 = ap (λ rs. get_or rs j 0) are in
        let inside : j < length rows = omega (arith, l, a) in
        let plain : get_or rows j 0 * 1 + 0 ≡ get_or (filled_places filled) j 0 = omega (arith, r) in
        let marked = inside-true filled (get_or (filled_places filled) j 0) (place-marked filled j (omega (arith, inside, ap length are, length-places filled))) in
        E.transitive _ _ _ (points j R.zero inside) (rw plain (powered (get_or (filled_places filled) j 0) (omega (arith, marked, long))));
    value = λ j l. rw (ap (λ rs. get_or rs j 0) are, same_cols, same_cells) at (values j R.zero (omega (arith, l, a)));
  }

  module _ (e : EvaluationsOf A) (k : ℕ) (xs vs : List A) (stand : StandFor e k xs vs) where
    to-point : (j : ℕ) (p : List A) → j < length xs → AgreesAtRow R w e.matrix (row e j) k p → R.same (value_in_ring R p (get_or xs j R.zero)) (get_or vs j R.zero)
    to-point j p l h =
        E.transitive _ _ _ (value-at E G P L (get_or xs j R.zero) (at (row e j)) p (stand.point j l)) (E.transitive _ _ _ h (E.symmetric _ _ (stand.value j l)))

    from-point : (j : ℕ) (p : List A) → j < length xs → R.same (value_in_ring R p (get_or xs j R.zero)) (get_or vs j R.zero) → AgreesAtRow R w e.matrix (row e j) k p
    from-point j p l h =
        E.transitive _ _ _ (value-at E G P L (at (row e j)) (get_or xs j R.zero) p (E.symmetric _ _ (stand.point j l))) (E.transitive _ _ _ h (stand.value j l))

    pub distinct : (n : ℕ) → length e.filled ≡ n → AreApart R.same (powers R.one R.product w n) → AreApart R.same xs
    distinct n long apart i j d l m s =
        let inside = λ (j : ℕ) (l : j < length xs). let r : row e j < length e.filled = inside-true e.filled (row e j) (place-marked e.filled j (omega (arith, l, stand.points))) in r in
        let a : i < length xs = omega (arith, l, m) in
        let number : length (filled_places e.filled) ≡ count_true e.filled = length-places e.filled in
        let below : row e j < n = omega (arith, inside j m, long) in
        let rise : row e i < row e j = AllPairs-from_increasing (filled_places e.filled) (rising-places e.filled) i j 0 l (omega (arith, m, stand.points, number)) in
        let power_at = λ (r : ℕ) (b : r < n). get_or-map-range_with_len at 0 n r r R.zero b (omega arith) in
        apart (row e i) (row e j) R.zero rise (rw (length-map-range_with_len at 0 n) below)
        (rw (power_at (row e i) (omega (arith, rise, below)), power_at (row e j) below)
        (E.transitive _ _ _ (E.symmetric _ _ (stand.point i a))
        (E.transitive _ _ _ (rw (get_or_default xs i d R.zero a, get_or_default xs j d R.zero m) at s) (stand.point j m))))

    -- what is near in the filled rows is within the radius at those points
    pub near-within : (count : ℕ) (p : List A) → IsNear R w e k count p → IsWithinRadius R xs vs count p
    near-within count p h = (h.short, places, few, outside)
      where
        marks : List Bool
        marks = filled_items h.right e.filled

        places : List ℕ
        places = filled_places (map not marks)

        many : length marks ≡ length xs
        many = length-filled_items h.right e.filled (sym h.marks) ∙ sym stand.points

        number : length places + count_true h.right ≡ length xs
        number = omega (arith, length-places (map not marks), count-not marks, count-marked_among h.right e.filled h.marks h.among, many)

        few : length places + length places + count ≤ length xs
        few = omega (arith, number, h.few, stand.points)

        marked : (j : ℕ) → j < length xs → ¬ (Contains places j) → get_or marks j false ≡ true
        marked j l n = elim (cases_Bool (get_or marks j false)) [
          | inl t ↦ t
          | inr f ↦ absurd (n (contains-place (map not marks) j (get_or-map not marks j false false (omega (arith, l, many)) ∙ ap not f)))
        ]

        outside : (j : ℕ) → j < length xs → ¬ (Contains places j) → R.same (value_in_ring R p (get_or xs j R.zero)) (get_or vs j R.zero)
        outside j l n = to-point j p l (h.agree (row e j) (sym (items-at_places h.right e.filled j h.marks (omega (arith, l, stand.points))) ∙ marked j l n))

    -- the filled rows that do not stand at a wrong place
    abbrev AreOthers : List ℕ → List Bool → Type 0
    AreOthers wrong left = (i : ℕ) → (get_or left i false ≡ true) ↔ (j : ℕ) × (j < length (filled_places e.filled)) × (row e j ≡ i) × ¬ (Contains wrong j)

    pub narrowed-some : (count : ℕ) (p : List A) (wrong : List ℕ) (left : List Bool) → length left ≡ length e.filled → IsDecoded R xs vs count p wrong → AreOthers wrong left
        → IsNarrowed R w e k count left
    narrowed-some count p wrong left long d others = record {
      polynomial = p;
      number = d.number;
      marks = long;
      among = λ i t. let (j, l, s, n) = (others i).0 t in subst (λ r. get_or e.filled r false ≡ true) s (place-marked e.filled j (omega (arith, l, filled)));
      agree = λ i t. let (j, l, s, n) = (others i).0 t in subst (λ r. AgreesAtRow R w e.matrix r k p) s (from-point j p (omega (arith, l, many)) (d.places.agree j (omega (arith, l, many)) n));
      differ = λ i t f h. apart i (contains-place e.filled i t) f h;
      only = λ q h. d.only q (near-within count q h);
    }
      where
        filled : length (filled_places e.filled) ≡ count_true e.filled
        filled = length-places e.filled

        many : length xs ≡ length (filled_places e.filled)
        many = stand.points ∙ sym filled

        apart : (i : ℕ) → Contains (filled_places e.filled) i → get_or left i false ≡ false → AgreesAtRow R w e.matrix i k p → ⊥
        apart i (j, l, s) f h =
            let at_row : row e j ≡ i = get_or_default (filled_places e.filled) j 0 i l ∙ s in
            let inside : j < length xs = omega (arith, l, many) in
            elim (contained wrong j) [
              | inr n ↦ true≢false (sym ((others i).1 (j, l, at_row, n)) ∙ f)
              | inl (q, m, is) ↦
                  d.places.differ q 0 m
                  (rw (get_or_default wrong q 0 j m ∙ is) (to-point j p inside (subst (λ r. AgreesAtRow R w e.matrix r k p) (sym at_row) h)))
            ]

    pub narrowed-none : (count : ℕ) → ((p : List A) → ¬ (IsWithinRadius R xs vs count p)) → (p : List A) → ¬ (IsNear R w e k count p)
    narrowed-none count none p h = none p (near-within count p h)

  -- two that are near are the same
  pub near-once : {inverse : A → A} (F : IsField R.same R.zero R.product R.one inverse) (e : EvaluationsOf A) (k count n : ℕ) (p q : List A) → length e.filled ≡ n
      → AreApart R.same (powers R.one R.product w n) → count ≤ count_true e.filled → IsNear R w e k count p → IsNear R w e k count q → HaveSameCoefficients R.same R.zero p q
  near-once F e k count n p q long apart enough h h' =
      decoding_once-same E G P L F xs vs p q count (distinct e k xs vs stand n long apart) (omega (arith, enough, points)) (near-within e k xs vs stand count q h') (near-within e k xs vs stand count p h)
    where
      rows : List ℕ
      rows = filled_places e.filled

      xs : List A
      xs = map at rows

      vs : List A
      vs = map (λ i. cell_of R.zero e.matrix i k) rows

      points : length xs ≡ count_true e.filled
      points = length-map rows at ∙ length-places e.filled

      inside : (j : ℕ) → j < length xs → j < length rows
      inside j l = omega (arith, l, length-map rows at)

      stand : StandFor e k xs vs
      stand = record {
        points = points;
        values = length-map rows (λ i. cell_of R.zero e.matrix i k) ∙ sym (length-map rows at);
        point = λ j l. rw (get_or-map at rows j 0 R.zero (inside j l)) (E.reflexive _);
        value = λ j l. rw (get_or-map (λ i. cell_of R.zero e.matrix i k) rows j 0 R.zero (inside j l)) (E.reflexive _);
      }
