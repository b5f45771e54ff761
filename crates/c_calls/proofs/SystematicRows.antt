-- Rows of systematic shards as bytes.
use Rattle.std.proofs.Common.{◌≡◌, ◌≢◌, ◌∙◌, inl, inr, ℕ, ◌+◌, ◌-◌, ◌*◌, ◌<◌, ◌≤◌, ◌^◌, List, [], ◌∷◌, ◌++◌, length, take, drop, get_or, ap, sym, subst, arith, length-drop, length-take}
use Rattle.std.proofs.lemmas.Bool.{cases_lt}
use Rattle.std.proofs.lemmas.List.{get_or-append_right, get_or_append_left, length_push}
use Rattle.std.proofs.lemmas.Nat.{mul-le}
use Rattle.systematic_shards.specs.declared.Error.{Error}
use Rattle.systematic_shards.specs.declared.Error.TheVariants.{Memory, TooFew, Mismatch, Sizes, Index, Word, Conflict, Inconsistent}
use Rattle.systematic_shards.specs.declared.rows.Row.{Row}
use Rattle.systematic_shards.specs.declared.split.Code.{Code}
use Rattle.systematic_shards.specs.declared.split.Split.{Split}
use Rattle.systematic_shards.specs.Correcting.{IsCorrectingDue}
use Rattle.systematic_shards.specs.Errors.{IsMemory, IsSplitDue}
use Rattle.systematic_shards.specs.Refusals.{HasLength}
use Rattle.systematic_shards.proofs.OneCodeword.{some_item}
use Rattle.c_calls.specs.declared.systematic.in_hand.RowsInHand.{RowsInHand}
use Rattle.c_calls.specs.Statuses.{status_of_rows}
use Rattle.c_calls.specs.SystematicRows.{AreInHand, AreRowsIn, AreRowsOf, GivenRows, HaveRoom, HaveRowsFor, IsDecodeDueTo, IsDueTo, IsMemoryOrDue, IsSplitOf, IsStatusWhere, TellsOfRows, width_of, word_of_bytes}
use Rattle.systematic_shards.specs.Splits.{IsSplit}

-- a split of these numbers is that of so many bytes
pub split-of : (size least total : ℕ) (split : Split) → split.min ≡ least → split.total ≡ total → split.size ≡ size → IsSplitOf size least total split
split-of size least total split few all bytes = grind arith

-- and none is refused for another reason than that there is no room
pub no-room : (size least total : ℕ) (e : Error) → IsSplit least total → IsSplitDue least total size e → ¬ (HaveRoom least total (width_of size least))
no-room size least total (Memory e) is due = absurd due
no-room size least total TooFew is due = absurd due
no-room size least total Mismatch is due = absurd (due is)
no-room size least total Sizes is due = due.1
no-room size least total Index is due = absurd due
no-room size least total Word is due = absurd due
no-room size least total Conflict is due = absurd due
no-room size least total Inconsistent is due = absurd due

pub rows-of : (size least total count n : ℕ) (split : Split) → IsSplitOf size least total split → HaveRowsFor size least total count n → n ≡ count * (8 * split.width)
rows-of size least total count n split is h = h.1 ∙ ap (λ (w : ℕ). count * (8 * w)) (sym is.words)

-- one row more
pub rows-more : (row : ℕ) (indices bytes : List ℕ) (n : ℕ) (rows : List (Row ℕ)) (next : Row ℕ) → next.index ≡ get_or indices n 0 → next.cells.now ≡ take row (drop (n * row) bytes)
    → AreRowsIn row indices bytes n rows → AreRowsIn row indices bytes (n + 1) (rows ++ next ∷ [])
rows-more row indices bytes n rows next index cells h = grind (arith, get_or_append_left, get_or-append_right, length_push, cases_lt)

-- a row in hand has as many bytes as a row of the split
pub row-length : (held : RowsInHand) (rows : List (Row ℕ)) → AreRowsOf held rows → (t : ℕ) (d : Row ℕ) → t < length rows → HasLength 1 held.code.split (get_or rows t d)
row-length held rows lie t d l =
    let row = 8 * held.code.split.width in
    let n = length held.indices.now in
    let bytes = held.bytes.now in
    let b : t < n = omega (arith, l, lie.count) in
    let up : (t + 1) * row ≤ n * row = mul-le (t + 1) row n row (omega (arith, b)) (omega arith) in
    let whole : length bytes ≡ n * row = held.whole in
    let one : length (take row (drop (t * row) bytes)) ≡ row = grind (arith, length-take row (drop (t * row) bytes), length-drop (t * row) bytes, up, whole) in
    (let e : 1 * length (get_or rows t d).cells.now ≡ length (get_or rows t d).cells.now = omega arith in e) ∙ ap length (lie.cells t d b) ∙ one

-- rows in hand are refused neither by their length nor by their sizes
pub not-of-sizes : (held : RowsInHand) (rows : List (Row ℕ)) (wanted : List ℕ) (e : Error) → AreRowsOf held rows → IsDueTo held.code wanted rows e → (e ≢ Mismatch) × (e ≢ Sizes)
not-of-sizes held rows wanted e lie due = (
  λ is.
      let h = subst (IsDueTo held.code wanted rows) is due in
      let d = some_item rows h.place h.inside in
      h.fault d (row-length held rows lie h.place d h.inside),
  λ is. subst (IsDueTo held.code wanted rows) is due,
)

pub not-of-decoded : (held : RowsInHand) (rows : List (Row ℕ)) (e : Error) → AreRowsOf held rows → IsDecodeDueTo held.code rows e → (e ≢ Mismatch) × (e ≢ Sizes)
not-of-decoded held rows e lie (inl due) = not-of-sizes held rows [] e lie due
not-of-decoded held rows e lie (inr due) = other e due.0
  where
    other : (f : Error) → f ≡ Inconsistent → (f ≢ Mismatch) × (f ≢ Sizes)
    other f is = grind (arith, is)

-- nor are they where some may be wrong
pub not-of-corrected : (held : RowsInHand) (rows : List (Row ℕ)) (wanted : List ℕ) (e : Error) → AreRowsOf held rows
    → IsCorrectingDue 1 word_of_bytes held.code.split held.code.mask rows wanted e → (e ≢ Mismatch) × (e ≢ Sizes)
not-of-corrected held rows wanted e lie due = (
  λ is.
      let h = subst (IsCorrectingDue 1 word_of_bytes held.code.split held.code.mask rows wanted) is due in
      let d = some_item rows h.place h.inside in
      h.fault d (row-length held rows lie h.place d h.inside),
  λ is. subst (IsCorrectingDue 1 word_of_bytes held.code.split held.code.mask rows wanted) is due,
)

-- what a call was given are the rows in hand, so what holds of these holds of it
pub given-with : (size least total mask : ℕ) (indices bytes : List ℕ) (held : RowsInHand) (rows : List (Row ℕ)) (P : Code → List (Row ℕ) → Type 0)
    → AreInHand size least total mask indices bytes held → AreRowsOf held rows → P held.code rows → (it : GivenRows size least total mask indices bytes) × P it.code it.rows
given-with size least total mask indices bytes held rows P is lie holds = (
  record {
    code = held.code;
    split = is.split;
    masked = is.masked;
    rows = rows;
    lie =
        subst (λ xs. AreRowsIn (8 * held.code.split.width) xs bytes (length xs) rows) is.indices_are
        (subst (λ bs. AreRowsIn (8 * held.code.split.width) held.indices.now bs (length held.indices.now) rows) is.bytes_are lie);
  },
  holds,
)

-- memory is no status of rows
pub memory-tells : (e : Error) → IsMemory e → ¬ (TellsOfRows (status_of_rows e))
memory-tells (Memory e) m tells = grind (arith, tells)
memory-tells TooFew m tells = absurd m
memory-tells Mismatch m tells = absurd m
memory-tells Sizes m tells = absurd m
memory-tells Index m tells = absurd m
memory-tells Word m tells = absurd m
memory-tells Conflict m tells = absurd m
memory-tells Inconsistent m tells = absurd m

-- a status of rows is that of a refusal that is due to them
pub refused-with : (size least total mask : ℕ) (indices bytes : List ℕ) (held : RowsInHand) (P : Code → List (Row ℕ) → Error → Type 0) (e : Error) (status : ℕ)
    → AreInHand size least total mask indices bytes held → status ≡ status_of_rows e → IsMemoryOrDue (P held.code) held e → TellsOfRows status
    → (it : GivenRows size least total mask indices bytes) × IsStatusWhere (P it.code it.rows) status
refused-with size least total mask indices bytes held P e status is told (inl memory) tells = absurd (memory-tells e memory (subst TellsOfRows told tells))
refused-with size least total mask indices bytes held P e status is told (inr due) tells =
    given-with size least total mask indices bytes held due.0 (λ code rows. IsStatusWhere (P code rows) status) is due.1 (e, told, due.2)
