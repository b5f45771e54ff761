-- One row of each index.
use Rattle.std.proofs.Common.{◌≡◌, ◌≢◌, ◌∙◌, inl, inr, ℕ, ◌+◌, ◌-◌, ◌<◌, ◌≤◌, List, [], ◌∷◌, ◌++◌, length, map, get_or, refl, sym, ap, subst, arith}
use Rattle.std.specs.List.{All, Contains}
use Rattle.std.specs.List.Sorted.{IsNonDecreasingBy, IsPermutation, IsStrictlyIncreasing}
use Rattle.std.proofs.lemmas.Bool.{cases_lt}
use Rattle.std.proofs.lemmas.List.{get_or-append_right, get_or-map, get_or_append_left, get_or_default, length-map, length_push, map_push}
use Rattle.std.proofs.lemmas.List.Elements.{All-contains, Contains-get_or}
use Rattle.std.proofs.lemmas.List.Sorted.{Contains-permutation, IsPermutation-sym}
use Rattle.math_numbers.proofs.Pigeonhole.{pigeonhole}
use Rattle.math_fields.specs.declared.goldilocks.F.{F}
use Rattle.systematic_shards.specs.declared.rows.Row.{Row}
use Rattle.systematic_shards.specs.declared.split.Split.{Split}
use Rattle.systematic_shards.specs.Held.{AreCopies, AreKept, AreOneOfEach, IsKeptWith, IsUnlikeLast}
use Rattle.systematic_shards.specs.Refusals.{HaveConflict, HaveEnough}
use Rattle.systematic_shards.specs.Shards.{BelongTo, IsRowOf, word_in}
use Rattle.systematic_shards.proofs.Filled.{one-place}
use Rattle.row_interpolation.proofs.RisingIndices.{rising-distinct}
use Rattle.systematic_shards.proofs.OneCodeword.{some_item}

-- rising numbers with a greater one behind them
pub rising-more : (xs : List ℕ) (x : ℕ) → IsStrictlyIncreasing xs → (1 ≤ length xs → get_or xs (length xs - 1) 0 < x) → IsStrictlyIncreasing (xs ++ x ∷ [])
rising-more xs x h last k l = elim (cases_lt (k + 1) (length xs)) as (λ _. get_or (xs ++ x ∷ []) k 0 < get_or (xs ++ x ∷ []) (k + 1) 0) [
  | inl before ↦
      let less : get_or xs k 0 < get_or xs (k + 1) 0 = h k before in
      omega (arith, less, get_or_append_left xs (x ∷ []) 0 k (omega (arith, before)), get_or_append_left xs (x ∷ []) 0 (k + 1) before)
  | inr after ↦
      let end : k + 1 ≡ length xs = omega (arith, after, l, length_push xs x) in
      let at : length xs - 1 ≡ k = omega (arith, end) in
      let less : get_or xs (length xs - 1) 0 < x = last (omega (arith, end)) in
      let is : get_or (xs ++ x ∷ []) (k + 1) 0 ≡ get_or (x ∷ []) (k + 1 - length xs) 0 = get_or-append_right xs (x ∷ []) (length xs) (k + 1) 0 refl after in
      let none : k + 1 - length xs ≡ 0 = omega (arith, end) in
      omega (arith, less, ap (λ n. get_or xs n 0) at, get_or_append_left xs (x ∷ []) 0 k (omega (arith, end)), is, ap (λ n. get_or (x ∷ []) n 0) none)
]

module _ {M : Type 0} (word : List M → ℕ → ℕ) (width : ℕ) where
  -- one row more, of rows by rising index
  pub kept-more : (rows old new : List (Row M)) (n : ℕ) (row : Row M) → IsNonDecreasingBy (λ row. row.index) rows → n < length rows → ((d : Row M) → row ≡ get_or rows n d)
      → IsKeptWith word width row old new → AreKept word width rows n old → AreKept word width rows (n + 1) new
  kept-more rows old new n row sorted l is kept h = elim kept as (λ _. AreKept word width rows (n + 1) new) [
    | inl (like, same) ↦
        subst (λ xs. AreKept word width rows (n + 1) xs) (sym same) (record {
          rise = h.rise;
          from = λ p d b. let (i, c, e) = h.from p d b in (i, omega (arith, c), e);
          each = λ i d b. elim (cases_lt i n) as (λ _. (p : ℕ) × (p < length old) × AreCopies word width (get_or old p d) (get_or rows i d)) [
            | inl before ↦ h.each i d before
            | inr after ↦
                let at : n ≡ i = omega (arith, after, b) in
                (length old - 1, omega (arith, like.some), subst (λ r. AreCopies word width (get_or old (length old - 1) d) r) (is d ∙ ap (λ m. get_or rows m d) at) (like.like d))
          ];
        })
    | inr (other, pushed) ↦
        subst (λ xs. AreKept word width rows (n + 1) xs) (sym pushed) (record {
          rise =
              subst IsStrictlyIncreasing (sym (map_push (λ row. row.index) old row))
              (rising-more (map (λ row. row.index) old) row.index h.rise
              (λ some.
              let m : 1 ≤ length old = omega (arith, some, length-map old (λ row. row.index)) in
              let d : Row M = row in
              let b : length old - 1 < length old = omega (arith, m) in
              let (i, c, e) = h.from (length old - 1) d b in
              let up : (get_or rows i d).index ≤ (get_or rows n d).index = sorted i n d (omega (arith, c)) l in
              let last : get_or (map (λ row. row.index) old) (length (map (λ row. row.index) old) - 1) 0 ≡ (get_or old (length old - 1) d).index =
              ap (λ m. get_or (map (λ row. row.index) old) (m - 1) 0) (length-map old (λ row. row.index)) ∙ get_or-map (λ row. row.index) old (length old - 1) d 0 b in
              let apart : (get_or old (length old - 1) d).index ≢ row.index = other d m in
              omega (arith, last, apart, up, ap (λ r. r.index) e, ap (λ r. r.index) (is d))));
          from = λ p d b. elim (cases_lt p (length old)) as (λ _. (i : ℕ) × (i < n + 1) × (get_or (old ++ row ∷ []) p d ≡ get_or rows i d)) [
            | inl before ↦ let (i, c, e) = h.from p d before in (i, omega (arith, c), get_or_append_left old (row ∷ []) d p before ∙ e)
            | inr after ↦
                let none : p - length old ≡ 0 = omega (arith, after, b, length_push old row) in
                (n, omega arith, get_or-append_right old (row ∷ []) (length old) p d refl after ∙ ap (λ m. get_or (row ∷ []) m d) none ∙ is d)
          ];
          each = λ i d b. elim (cases_lt i n) as (λ _. (p : ℕ) × (p < length (old ++ row ∷ [])) × AreCopies word width (get_or (old ++ row ∷ []) p d) (get_or rows i d)) [
            | inl before ↦
                let (p, c, copies) = h.each i d before in
                (p, omega (arith, c, length_push old row), subst (λ r. AreCopies word width r (get_or rows i d)) (sym (get_or_append_left old (row ∷ []) d p c)) copies)
            | inr after ↦
                let at : n ≡ i = omega (arith, after, b) in
                let here : get_or (old ++ row ∷ []) (length old) d ≡ get_or rows i d =
                get_or-append_right old (row ∷ []) (length old) (length old) d refl (omega arith)
                ∙ ap (λ m. get_or (row ∷ []) m d) (let e : length old - length old ≡ 0 = omega arith in e)
                ∙ is d ∙ ap (λ m. get_or rows m d) at in (
                  length old,
                  omega (arith, length_push old row),
                  record { index = ap (λ r. r.index) here; words = λ k c. ap (λ r. word r.cells.now k) here },
                )
          ];
        })
  ]

  -- a row that differs from the last of its index
  pub conflict-at : (split : Split) (rows sorted kept : List (Row M)) (n : ℕ) (row : Row M) → split.width ≡ width → IsPermutation rows sorted → n < length sorted
      → ((d : Row M) → row ≡ get_or sorted n d) → AreKept word width sorted n kept → IsUnlikeLast word width row kept → HaveConflict word split rows
  conflict-at split rows sorted kept n row same all l is h unlike =
      let last : Row M = get_or kept (length kept - 1) row in
      let b : length kept - 1 < length kept = omega (arith, unlike.some) in
      let (i, c, e) = h.from (length kept - 1) row b in
      let back : IsPermutation sorted rows = IsPermutation-sym rows sorted all in
      record {
        one = last;
        other = row;
        one_there = Contains-permutation sorted rows last back (subst (Contains sorted) (sym e) (Contains-get_or sorted i row (omega (arith, c, l))));
        other_there = Contains-permutation sorted rows row back (subst (Contains sorted) (sym (is row)) (Contains-get_or sorted n row l));
        index = unlike.index row;
        place = unlike.place;
        inside = omega (arith, unlike.inside, same);
        differ = unlike.differ row;
      }

  -- when all are kept
  pub kept-all : (rows sorted kept : List (Row M)) (n : ℕ) → IsPermutation rows sorted → length sorted ≤ n → AreKept word width sorted n kept → (n ≤ length sorted) → AreOneOfEach word width rows kept
  kept-all rows sorted kept n all past h within = record {
    rise = h.rise;
    from = λ p d l.
        let (i, c, e) = h.from p d l in
        subst (Contains rows) (sym e) (Contains-permutation sorted rows (get_or sorted i d) (IsPermutation-sym rows sorted all) (Contains-get_or sorted i d (omega (arith, c, within))));
    each = λ t d l.
        let row : Row M = get_or rows t d in
        let (i, b, e) = Contains-permutation rows sorted row all (Contains-get_or rows t d l) in
        let (p, c, copies) = h.each i row (omega (arith, b, past)) in
        (get_or kept p row, Contains-get_or kept p row c, subst (λ r. AreCopies word width (get_or kept p row) r) e copies);
  }

  module _ (rows kept : List (Row M)) (h : AreOneOfEach word width rows kept) where
    -- what holds of all rows holds of those that are kept
    pub all-kept : (P : Row M → Type 0) → All P rows → All P kept
    all-kept P all p d l = All-contains P rows (get_or kept p d) all (h.from p d l)

    -- distinct indices, as many as are kept
    pub enough-kept : (least : ℕ) → least ≤ length kept → HaveEnough least rows
    enough-kept least enough = (
      map (λ row. row.index) kept,
      record {
        distinct = rising-distinct (map (λ row. row.index) kept) h.rise;
        among = λ p d l.
            let b : p < length kept = omega (arith, l, length-map kept (λ row. row.index)) in
            let e : Row M = some_item kept p b in
            let (i, c, is) = h.from p e b in
            let at : get_or (map (λ row. row.index) kept) p d ≡ (get_or kept p e).index = get_or-map (λ row. row.index) kept p e d b in (
              i,
              omega (arith, c, length-map rows (λ row. row.index)),
              get_or-map (λ row. row.index) rows i (get_or kept p e) (get_or (map (λ row. row.index) kept) p d) c ∙ ap (λ r. r.index) is ∙ sym at,
            );
      },
      omega (arith, enough, length-map kept (λ row. row.index)),
    )

    -- and no more
    pub few-kept : (least : ℕ) → length kept < least → ¬ (HaveEnough least rows)
    few-kept least few (indices, among, enough) =
        let m : ℕ = length indices in
        let held : List ℕ = map (λ row. row.index) kept in
        let pick : (j : ℕ) → (p : ℕ) × (j < m → (p < length kept) × (get_or held p 0 ≡ get_or indices j 0)) =
        λ j. elim (cases_lt j m) as (λ _. (p : ℕ) × (j < m → (p < length kept) × (get_or held p 0 ≡ get_or indices j 0))) [
          | inl l ↦
              let (t, b, e) = among.among j 0 l in
              let c : t < length rows = omega (arith, b, length-map rows (λ row. row.index)) in
              let d : Row M = some_item rows t c in
              let (other, there, copies) = h.each t d c in
              let (p, inside, is) = there in
              let at : get_or held p 0 ≡ other.index = get_or-map (λ row. row.index) kept p other 0 inside ∙ ap (λ r. r.index) is in
              let index : (get_or rows t d).index ≡ get_or indices j 0 = sym (get_or-map (λ row. row.index) rows t d (get_or indices j 0) c) ∙ e in
              (p, λ _. (inside, at ∙ copies.index ∙ index))
          | inr l ↦ (0, λ b. absurd (omega (arith, b, l)))
        ] in
        pigeonhole m (length kept) (λ j. (pick j).0) (omega (arith, few, enough)) (λ j l. ((pick j).1 l).0)
        (λ i j before l same.
        among.distinct i j before l (sym ((pick i).1 (omega (arith, before, l))).1 ∙ ap (λ p. get_or held p 0) same ∙ ((pick j).1 l).1))

    -- rows of one index do not differ
    pub no-conflict : (split : Split) → split.width ≡ width → ¬ (HaveConflict word split rows)
    no-conflict split same c =
        let (t, l, e) = c.one_there in
        let (u, m, f) = c.other_there in
        let (first, there, copies) = h.each t c.one l in
        let (second, there', copies') = h.each u c.other m in
        let (p, a, is) = there in
        let (q, b, is') = there' in
        let index : (get_or kept p first).index ≡ (get_or kept q second).index =
        ap (λ r. r.index) is ∙ copies.index ∙ ap (λ r. r.index) e ∙ c.index ∙ sym (ap (λ r. r.index) f) ∙ sym copies'.index ∙ sym (ap (λ r. r.index) is') in
        let one : p ≡ q =
        one-place (map (λ row. row.index) kept) p q h.rise (omega (arith, a, length-map kept (λ row. row.index))) (omega (arith, b, length-map kept (λ row. row.index)))
        (get_or-map (λ row. row.index) kept p first 0 a ∙ index ∙ sym (get_or-map (λ row. row.index) kept q second 0 b)) in
        let k : ℕ = c.place in
        let n : k < width = omega (arith, c.inside, same) in
        let both : first ≡ second = sym is ∙ ap (λ m. get_or kept m first) one ∙ other-default q first second b ∙ is' in
        c.differ (ap (λ r. word r.cells.now k) (sym e) ∙ sym (copies.words k n) ∙ ap (λ r. word r.cells.now k) both ∙ copies'.words k n ∙ ap (λ r. word r.cells.now k) f)
      where
        other-default : (q : ℕ) (d e : Row M) → q < length kept → get_or kept q d ≡ get_or kept q e
        other-default q d e l = get_or_default kept q d e l

    -- a codeword to which those that are kept belong is that of all rows
    pub belong-all : (split : Split) (mask : ℕ) (a : ℕ → ℕ → F) → split.width ≡ width → BelongTo word split mask kept a → BelongTo word split mask rows a
    belong-all split mask a same belong t d l k m =
        let row : Row M = get_or rows t d in
        let (other, there, copies) = h.each t d l in
        let of_other : IsRowOf split mask a other.index (word other.cells.now) = All-contains (λ row. IsRowOf split mask a row.index (word row.cells.now)) kept other belong there in
        sym (copies.words k (omega (arith, m, same))) ∙ of_other k m ∙ ap (λ i. word_in split.min mask i (a i k)) copies.index
