-- Settled rows: points that are marked and cells that are written row after row, and how many indices are settled.
use Rattle.std.proofs.Common.{◌≡◌, ◌⊎◌, ◌↔◌, ◌∙◌, inl, inr, ℕ, ◌+◌, ◌*◌, ◌<◌, ◌≤◌, List, Bool, true, false, length, replicate, get_or, sym, ap, ap₂, subst, true≢false, arith}
use Rattle.std.proofs.Math.ListN.{set}
use Rattle.std.specs.List.{All}
use Rattle.std.proofs.lemmas.Bool.{cases_eq, cases_lt}
use Rattle.std.proofs.lemmas.List.{get_or-replicate, get_or-set_other, get_or-set_same, get_or_default, get_or_past, length-replicate, length-set}
use Rattle.std.proofs.lemmas.Nat.{same_from_place}
use Rattle.math_theory.specs.Recovery.{count_true, filled_places}
use Rattle.math_fields.specs.declared.goldilocks.F.{F}
use Rattle.math_fields.specs.Elements.{number, same}
use Rattle.math_ntt.proofs.MarkedRows.{contains-place, place-marked, rising-places}
use Rattle.math_restoring.specs.Restored.{item}
use Rattle.math_transforms.proofs.PresentIndices.{length-places}
use Rattle.systematic_shards.specs.declared.rows.Row.{Row}
use Rattle.systematic_shards.specs.declared.split.Split.{Split}
use Rattle.systematic_shards.specs.Correcting.{Agrees, AreMarked, HasCells, HasElements, HaveSettled, IsSettled, IsSettledIndex, cells_at}
use Rattle.systematic_shards.specs.Shards.{element_in}
use Rattle.row_interpolation.specs.Written.{AreWritten}
use Rattle.systematic_shards.proofs.Marked.{distinct-among}
use Rattle.row_interpolation.proofs.RisingIndices.{rising-distinct}

-- one of the first n rows has the index, and is settled
abbrev pub IsSettledBefore : {M : Type 0} → (List M → ℕ → ℕ) → Split → ℕ → List (Row M) → ℕ → ℕ → Type 0
IsSettledBefore {M} word split mask rows n i =
    (k : ℕ) × (row : Row M) × (k < n) × (get_or rows k row ≡ row) × ((row.index ≡ i) × IsSettled word split mask rows row)

-- the points of the indices of the first n rows that are settled are marked
pub record AreMarkedBefore {M : Type 0} (word : List M → ℕ → ℕ) (split : Split) (mask : ℕ) (rows : List (Row M)) (n size : ℕ) (points : List Bool) : Type 0 where
  pub many : length points ≡ size
  pub exactly : (i : ℕ) → (get_or points i false ≡ true) ↔ IsSettledBefore word split mask rows n i

-- the first n rows that are settled have their elements in the cells
pub record AreWrittenBefore {M : Type 0} (word : List M → ℕ → ℕ) (split : Split) (mask : ℕ) (rows : List (Row M)) (n size : ℕ) (cells : List F) : Type 0 where
  pub many : length cells ≡ size
  pub held : (t : ℕ) (d : Row M) → t < n → IsSettled word split mask rows (get_or rows t d) → HasCells word split mask cells (get_or rows t d)

module _ {M : Type 0} (word : List M → ℕ → ℕ) (split : Split) (mask : ℕ) (rows : List (Row M)) where
  -- what a row before n + 1 is: one before n, or row n
  earlier : (n k : ℕ) (row other : Row M) → n < length rows → row ≡ get_or rows n row → k < n + 1 → get_or rows k other ≡ other → (k < n) ⊎ (other ≡ row)
  earlier n k row other l is b at = elim (cases_lt k n) as (λ _. (k < n) ⊎ (other ≡ row)) [
    | inl before ↦ inl before
    | inr after ↦ let here : k ≡ n = omega (arith, after, b) in inr (sym at ∙ ap (λ m. get_or rows m other) here ∙ get_or_default rows n other row l ∙ sym is)
  ]

  -- no row so far
  pub marked-none : (size : ℕ) (points : List Bool) → points ≡ replicate size false → AreMarkedBefore word split mask rows 0 size points
  marked-none size points are = record {
    many = ap length are ∙ length-replicate size false;
    exactly = λ i. (
      λ t. absurd (true≢false (sym t ∙ ap (λ bs. get_or bs i false) are ∙ none i)),
      λ s. absurd (omega (arith, s.2)),
    );
  }
    where
      none : (i : ℕ) → get_or (replicate size false) i false ≡ false
      none i = elim (cases_lt i size) as (λ _. get_or (replicate size false) i false ≡ false) [
        | inl l ↦ get_or-replicate size i false false l
        | inr past ↦ get_or_past (replicate size false) i false (omega (arith, past, length-replicate size false))
      ]

  -- one that is not settled
  pub marked-passed : (n size : ℕ) (row : Row M) (points : List Bool) → n < length rows → row ≡ get_or rows n row → ¬ (IsSettled word split mask rows row)
      → AreMarkedBefore word split mask rows n size points → AreMarkedBefore word split mask rows (n + 1) size points
  marked-passed n size row points l is open_there h = record {
    many = h.many;
    exactly = λ i. (
      λ t. let (k, other, b, at, of) = (h.exactly i).0 t in (k, other, omega (arith, b), at, of),
      λ (k, other, b, at, of). elim (earlier n k row other l is b at) as (λ _. get_or points i false ≡ true) [
        | inl before ↦ (h.exactly i).1 (k, other, before, at, of)
        | inr same_row ↦ absurd (open_there (subst (IsSettled word split mask rows) same_row of.1))
      ],
    );
  }

  -- one that is settled
  pub marked-set : (n size : ℕ) (row : Row M) (points : List Bool) → n < length rows → row ≡ get_or rows n row → row.index < size → IsSettled word split mask rows row
      → AreMarkedBefore word split mask rows n size points → AreMarkedBefore word split mask rows (n + 1) size (set points row.index true)
  marked-set n size row points l is inside settled h = record {
    many = length-set points row.index true ∙ h.many;
    exactly = λ i. elim (cases_eq i row.index) as (λ _. (get_or (set points row.index true) i false ≡ true) ↔ IsSettledBefore word split mask rows (n + 1) i) [
      | inl here ↦ (
        λ t. (n, row, omega arith, sym is, (sym here, settled)),
        λ s. ap (λ k. get_or (set points row.index true) k false) here ∙ get_or-set_same points row.index true false (omega (arith, inside, h.many)),
      )
      | inr other ↦
          let same_mark : get_or (set points row.index true) i false ≡ get_or points i false = get_or-set_other points row.index i true false other in (
            λ t. let (k, found, b, at, of) = (h.exactly i).0 (sym same_mark ∙ t) in (k, found, omega (arith, b), at, of),
            λ (k, found, b, at, of). same_mark ∙ elim (earlier n k row found l is b at) as (λ _. get_or points i false ≡ true) [
              | inl before ↦ (h.exactly i).1 (k, found, before, at, of)
              | inr same_row ↦ absurd (other (sym of.0 ∙ ap (λ r. r.index) same_row))
            ],
          )
    ];
  }

  pub marked-all : (n size : ℕ) (points : List Bool) → n ≡ length rows → AreMarkedBefore word split mask rows n size points → AreMarked word split mask rows size points
  marked-all n size points all h = record {
    size = h.many;
    exactly = λ i. subst (λ m. (get_or points i false ≡ true) ↔ IsSettledBefore word split mask rows m i) all (h.exactly i);
  }

  -- no cells so far
  pub written-none : (size : ℕ) (cells : List F) → length cells ≡ size → AreWrittenBefore word split mask rows 0 size cells
  written-none size cells many = record { many = many; held = λ t d l. absurd (omega (arith, l)) }

  -- a row without words of elements
  pub written-passed : (n size : ℕ) (row : Row M) (cells : List F) → n < length rows → row ≡ get_or rows n row → ¬ (HasElements word split mask row)
      → AreWrittenBefore word split mask rows n size cells → AreWrittenBefore word split mask rows (n + 1) size cells
  written-passed n size row cells l is wrong h = record {
    many = h.many;
    held = λ t d b settled. elim (cases_lt t n) as (λ _. HasCells word split mask cells (get_or rows t d)) [
      | inl before ↦ h.held t d before settled
      | inr after ↦
          let here : t ≡ n = omega (arith, after, b) in
          let at : get_or rows t d ≡ row = ap (λ m. get_or rows m d) here ∙ get_or_default rows n d row l ∙ sym is in
          absurd (wrong (subst (HasElements word split mask) at settled.0))
    ];
  }

  -- a row whose elements are written
  pub written-more : (n size : ℕ) (row : Row M) (old new : List F) → n < length rows → row ≡ get_or rows n row → HasElements word split mask row → length new ≡ length old
      → AreWritten (λ k. row.index * split.width + k) (λ k. element_in split.min mask row.index (word row.cells.now k)) split.width (item old) (item new)
      → AreWrittenBefore word split mask rows n size old → AreWrittenBefore word split mask rows (n + 1) size new
  written-more n size row old new l is right count filled h = record {
    many = count ∙ h.many;
    held = λ t d b settled k m.
        let other : Row M = get_or rows t d in
        elim (cases_eq other.index row.index) as (λ _. same (cells_at split.width new other.index k) (element_in split.min mask other.index (word other.cells.now k))) [
          | inl e ↦
              let agrees : Agrees word split mask other row = subst (Agrees word split mask other) (sym is) (settled.1 n row l) in
              ap (λ i. number (item new (i * split.width + k))) e ∙ ap number (filled.written k m)
              ∙ ap₂ (λ i w. number (element_in split.min mask i w)) (sym e) (agrees (sym e) right k m)
          | inr apart ↦ elim (cases_lt t n) as (λ _. same (cells_at split.width new other.index k) (element_in split.min mask other.index (word other.cells.now k))) [
            | inl before ↦
                ap number (filled.others (other.index * split.width + k) (λ j c f. apart (same_from_place other.index k row.index j split.width m c f).0)) ∙ h.held t d before settled k m
            | inr after ↦
                let here : t ≡ n = omega (arith, after, b) in
                absurd (apart (ap (λ r. r.index) (ap (λ m. get_or rows m d) here ∙ get_or_default rows n d row l ∙ sym is)))
          ]
        ];
  }

  -- a settled index is below `total`
  pub settled-below : All (λ row. row.index < split.total) rows → (i : ℕ) → IsSettledIndex word split mask rows i → i < split.total
  settled-below below i (k, row, l, at, of) = omega (arith, below k row l, ap (λ r. r.index) at, of.0)

  -- no more indices are settled than points are marked
  pub settled-few : (least n : ℕ) (points : List Bool) → AreMarked word split mask rows n points → HaveSettled word split mask least rows → least ≤ count_true points
  settled-few least n points marked h =
      let many : length h.indices ≤ length (filled_places points) =
      distinct-among h.indices (filled_places points) (rising-distinct h.indices h.rising.0)
      (λ k d l. contains-place points (get_or h.indices k d) ((marked.exactly (get_or h.indices k d)).1 (h.settled k d l))) in
      omega (arith, h.enough, many, length-places points)

  -- and no fewer
  pub settled-many : (least n : ℕ) (points : List Bool) → All (λ row. row.index < split.total) rows → AreMarked word split mask rows n points → least ≤ count_true points
      → HaveSettled word split mask least rows
  settled-many least n points below marked enough =
      let each : All (IsSettledIndex word split mask rows) (filled_places points) =
      λ k d l. let b : k < count_true points = omega (arith, l, length-places points) in
      (marked.exactly (get_or (filled_places points) k d)).0 (ap (λ i. get_or points i false) (get_or_default (filled_places points) k d 0 l) ∙ place-marked points k b) in
      record {
        indices = filled_places points;
        rising = (rising-places points, λ k d l. settled-below below (get_or (filled_places points) k d) (each k d l));
        settled = each;
        enough = omega (arith, enough, length-places points);
      }
