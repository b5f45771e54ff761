-- Elements that are made are those of each codeword to which the rows belong.
use Rattle.std.proofs.Common.{◌≡◌, ◌∙◌, ℕ, ◌+◌, ◌*◌, ◌<◌, ◌≤◌, ◌^◌, List, length, map, take, drop, get_or, sym, ap, ap₂, subst, arith}
use Rattle.std.specs.List.{All}
use Rattle.std.proofs.lemmas.List.{get_or-map, length-map}
use Rattle.math_fields.specs.declared.goldilocks.F.{F}
use Rattle.math_fields.specs.Elements.{number, residue}
use Rattle.math_restoring.specs.Restored.{item}
use Rattle.math_transforms.proofs.WrittenRows.{part-read}
use Rattle.math_transforms.specs.RootWeights.{AreRising}
use Rattle.row_interpolation.specs.RowValues.{AreMade}
use Rattle.row_interpolation.proofs.IndexPoints.{domain_of}
use Rattle.row_interpolation.proofs.WeightedSums.{length-part}
pub use Rattle.row_interpolation.proofs.WeightedSums.{turn}
use Rattle.systematic_shards.specs.declared.rows.Row.{Row}
use Rattle.systematic_shards.specs.declared.split.Split.{Split}
use Rattle.systematic_shards.specs.Filled.{AreFilled, AreRunsFilled, AreRunsWithin, AreWithinRoom, made_word, row_word}
use Rattle.systematic_shards.specs.Made.{AreCellsOf, IsCodewordThrough}
use Rattle.systematic_shards.specs.Masks.{masked_number}
use Rattle.systematic_shards.specs.Refusals.{AreElements}
use Rattle.systematic_shards.specs.Shards.{BelongTo, column_of_rows, mask_of_row, word_in}
use Rattle.systematic_shards.specs.Codewords.{IsCodeword}
use Rattle.systematic_shards.specs.Strips.{HaveElements}
use Rattle.systematic_shards.specs.declared.making.Strip.{Strip}
use Rattle.systematic_shards.specs.Words.{IsWithin}
use Rattle.systematic_shards.proofs.Codewords.{value-cell}
use Rattle.systematic_shards.proofs.Elements.{same-from_word, word-from_same}
use Rattle.systematic_shards.proofs.Filled.{filled-more}
use Rattle.systematic_shards.proofs.OneCodeword.{items-cells}

-- what is made of the rows in hand are the cells of each codeword to which they belong
pub made-cells : {M : Type 0} (word : List M → ℕ → ℕ) (split : Split) (mask : ℕ) (rows : List (Row M)) (total : ℕ) (indices targets : List ℕ) (from cols : ℕ) (made : List F) → mask < 2 ^ 32
    → total ≡ split.total → indices ≡ map (λ row. row.index) rows → AreRising total indices → split.min ≤ length rows → All (λ i. i < total) targets → from + cols ≤ split.width
    → AreMade (λ t k. item (column_of_rows word split.min mask rows k) t) total indices targets from cols made
    → (a : ℕ → ℕ → F) → IsCodewordThrough word split mask rows a → AreCellsOf a targets from cols made
made-cells word split mask rows total indices targets from cols made short of_total are rising enough below within are_made a through j c l m =
    let (lg, next, small) = domain_of total (omega (arith, of_total, split.some, split.within)) (omega (arith, of_total, split.short)) in
    let b : from + c < split.width = omega (arith, m, within) in
    let many : length indices ≡ length rows = ap length are ∙ length-map rows (λ row. row.index) in
    value-cell lg split.min total split.width (get_or targets j 0) (from + c) indices (λ t. item (column_of_rows word split.min mask rows (from + c)) t) (item made (j * cols + c)) a next (below j 0 l)
    rising.1 (omega (arith, enough, many)) b (subst (λ n. IsCodeword split.min n split.width a) (sym of_total) through.0)
    (λ t n. items-cells word split mask short rows indices a are through.1 t (from + c) (omega (arith, n, many)) b) (are_made lg next j c l m)

module _ (split : Split) (mask : ℕ) (targets : List ℕ) (a : ℕ → ℕ → F) (from cols : ℕ) (within : from + cols ≤ split.width) (made : List F) (cells : AreCellsOf a targets from cols made) where
  -- the word of what is made is that of the cell
  pub made-is : (j c : ℕ) → j < length targets → c < cols → made_word split mask targets cols made j c ≡ row_word split mask a targets j (from + c)
  made-is j c l m = ap (masked_number (mask_of_row split.min mask (get_or targets j 0))) (cells j c l m)

  module _ (places : List ℕ) (count : length places ≡ length targets) where
    -- so there is room for the words where there is room for those of a, and the other way round
    pub made-within : (size : ℕ) → AreWithinRoom size split.width places (row_word split mask a targets) → AreRunsWithin size split.width from cols places (made_word split mask targets cols made) (length places)
    made-within size room j c l m =
        subst (IsWithin size (get_or places j 0 * split.width + (from + c))) (sym (made-is j c (omega (arith, l, count)) m)) (room j (from + c) l (omega (arith, m, within)))

    pub within-made : (size : ℕ) → AreRunsWithin size split.width from cols places (made_word split mask targets cols made) (length places) → (j c : ℕ) → j < length places → c < cols
        → IsWithin size (get_or places j 0 * split.width + (from + c)) (row_word split mask a targets j (from + c))
    within-made size room j c l m = subst (IsWithin size (get_or places j 0 * split.width + (from + c))) (made-is j c (omega (arith, l, count)) m) (room j c l m)

    -- and the words that are written are those of a
    pub made-filled : (old now new : ℕ → ℕ) → AreRunsFilled split.width from cols places (made_word split mask targets cols made) (length places) now new
        → AreFilled split.width places (row_word split mask a targets) from old now → AreFilled split.width places (row_word split mask a targets) (from + cols) old new
    made-filled old now new put h =
        filled-more split.width from cols places (made_word split mask targets cols made) (row_word split mask a targets) old now new within (λ j c l m. made-is j c (omega (arith, l, count)) m) put h

-- rows of elements that are made have the words of a, and the other way round
module _ {M : Type 0} (word : List M → ℕ → ℕ) (s : Strip) (short : s.code.mask < 2 ^ 32) (further : List (Row M)) (are : s.targets.now ≡ map (λ row. row.index) further) (a : ℕ → ℕ → F)
    (cells : AreCellsOf a s.targets.now s.from s.cols s.elements.now) where
  index-at : (j : ℕ) (d : Row M) → j < length further → get_or s.targets.now j 0 ≡ (get_or further j d).index
  index-at j d l = ap (λ xs. get_or xs j 0) are ∙ get_or-map (λ row. row.index) further j d 0 l

  many : length s.targets.now ≡ length further
  many = ap length are ∙ length-map further (λ row. row.index)

  pub strip-words : AreElements word s.code.split s.code.mask further → HaveElements word further s (length further)
      → (c j : ℕ) (d : Row M) → c < s.cols → j < length further
      → word (get_or further j d).cells.now (s.from + c) ≡ word_in s.code.split.min s.code.mask (get_or further j d).index (a (get_or further j d).index (s.from + c))
  strip-words elements have c j d m l =
      let row : Row M = get_or further j d in
      word-from_same s.code.split.min s.code.mask row.index (word row.cells.now (s.from + c)) (a row.index (s.from + c)) short (elements j d l (s.from + c) (omega (arith, m, s.within)))
      (have j c d l m ∙ cells j c (omega (arith, l, many)) m ∙ ap (λ i. number (a i (s.from + c))) (index-at j d l))

  pub words-strip : BelongTo word s.code.split s.code.mask further a → HaveElements word further s (length further)
  words-strip belong j c d l m =
      let row : Row M = get_or further j d in
      same-from_word s.code.split.min s.code.mask row.index (word row.cells.now (s.from + c)) (a row.index (s.from + c)) short (belong j d l (s.from + c) (omega (arith, m, s.within)))
      ∙ sym (cells j c (omega (arith, l, many)) m ∙ ap (λ i. number (a i (s.from + c))) (index-at j d l))

-- the words of the elements of one row
pub made-run : (split : Split) (mask m : ℕ) (targets : List ℕ) (cols j q : ℕ) (made : List F) → q ≡ cols → m ≡ mask_of_row split.min mask (get_or targets j 0) → (c : ℕ) → c < cols
    → masked_number m (number (item (take q (drop (j * cols) made)) c)) ≡ made_word split mask targets cols made j c
made-run split mask m targets cols j q made e is c l =
    ap₂ (λ x y. masked_number x (number y)) is (part-read (residue 0) made (j * cols) q c (omega (arith, l, e)))

-- there are as many as columns
pub length-run : (cols j q count : ℕ) (made : List F) → q ≡ cols → j < count → count * cols ≤ length made → length (take q (drop (j * cols) made)) ≡ cols
length-run cols j q count made e l room = ap (λ n. length (take n (drop (j * cols) made))) e ∙ length-part cols j count made l room
