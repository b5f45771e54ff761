-- Shards that are the same words join to the same data.
use Rattle.std.proofs.Common.{◌≡◌, ◌∙◌, ℕ, ◌+◌, ◌<◌, ◌≤◌, ◌*◌, ◌/◌, ◌==◌, ◌||◌, ◌&&◌, ◌⊎◌, inl, inr, Bool, not, zero, suc, cond, List, [], ◌∷◌, ◌++◌, length, map, take, drop, get_or, refl, sym, ap, ap₂, subst, arith}
use Rattle.std.specs.List.{All, AllZip, Contains, filter, flat_map, range_with_len, count_by}
use Rattle.std.specs.List.Sorted.{IsStrictlyIncreasing}
use Rattle.std.proofs.Math.Nat.{mul-div_cancel}
use Rattle.std.proofs.Math.Seq.{take-append_seam, drop-append_seam}
use Rattle.std.proofs.lemmas.List.{length-map}
use Rattle.std.proofs.lemmas.Bool.{cases_Bool}
use Rattle.std.proofs.lemmas.List.Sums.{sum_by-cons}
use Rattle.std.proofs.lemmas.List.Elements.{All-cons, All-head, All-tail}
use Rattle.math_fields.specs.Elements.{number}
use Rattle.math_splitting.specs.declared.shards.Shard.{Shard}
use Rattle.math_splitting.specs.Shards.{IsShardOf, JoinTo, distinct_indices, has_index}
use Rattle.math_shards.specs.declared.shards.Error.{Error}
use Rattle.math_shards.specs.declared.shards.Error.TheVariants.{Memory, TooFew, Mismatch, Index, Conflict, Inconsistent}
use Rattle.math_shards.specs.Correcting.{AreCorrected, CorrectTo, HasNumbersOf, are_same, is_settled, settled, settled_indices}
use Rattle.math_shards.specs.Joining.{HaveConflict, IsMemory}
use Rattle.math_shards.proofs.JoinedShards.{joined_some}
use Rattle.math_shards.proofs.CorrectedShards.{corrected_beside, corrected_of_some, one_correction}
use Rattle.math_shards.proofs.DueErrors.{joined_beside, joined_of_some, not_due}
use Rattle.math_shards.proofs.SettledShards.{agrees}
use Rattle.math_shards.proofs.OnlyData.{only_data}
use Rattle.c_calls.specs.Statuses.{out_of_memory, status_of_shards}
use Rattle.c_calls.specs.WordElements.{AreElements, elements}
use Rattle.c_calls.specs.WordShards.{AreRefused, AreRefusedCorrecting, AreRowsOf, AreWordShards, DoCorrectTo, DoJoinTo}
use Rattle.c_calls.proofs.WordElements.{elements_of_numbers, numbers_below}
use Rattle.c_calls.proofs.WordShards.{cells_of, word_row, numbers_of_all}

-- the shards have the same numbers and cells
record AreAlike (s t : Shard) : Type 0 where
  index : s.index ≡ t.index
  least : s.min ≡ t.min
  most : s.total ≡ t.total
  cells : s.cells.items ≡ t.cells.items

shard_alike : (words : List ℕ) (min total : ℕ) (s t : Shard) → AreAlike s t → IsShardOf words min total s → IsShardOf words min total t
shard_alike words min total s t a h = grind arith

each_alike : (words : List ℕ) (min total : ℕ) (xs ys : List Shard) → AllZip AreAlike xs ys → All (IsShardOf words min total) xs → All (IsShardOf words min total) ys
each_alike words min total [] [] a h = h
each_alike words min total [] (y ∷ ys) a h = absurd a
each_alike words min total (x ∷ xs) [] a h = absurd a
each_alike words min total (x ∷ xs) (y ∷ ys) a h =
    All-cons (IsShardOf words min total) y ys (shard_alike words min total x y a.0 (All-head (IsShardOf words min total) x xs h))
    (each_alike words min total xs ys a.1 (All-tail (IsShardOf words min total) x xs h))

index_alike : (xs ys : List Shard) (i : ℕ) → AllZip AreAlike xs ys → has_index xs i ≡ has_index ys i
index_alike [] [] i a = refl
index_alike [] (y ∷ ys) i a = absurd a
index_alike (x ∷ xs) [] i a = absurd a
index_alike (x ∷ xs) (y ∷ ys) i a = ap₂ (λ j b. (j == i) || b) a.0.index (index_alike xs ys i a.1)

same_counts : (p q : ℕ → Bool) (ns : List ℕ) → ((i : ℕ) → p i ≡ q i) → count_by p ns ≡ count_by q ns
same_counts p q [] h = refl
same_counts p q (n ∷ ns) h =
    sum_by-cons (λ i. cond (p i) 1 0) n ns ∙ ap₂ (λ b m. cond b 1 0 + m) (h n) (same_counts p q ns h) ∙ sym (sum_by-cons (λ i. cond (q i) 1 0) n ns)

join_alike : (words : List ℕ) (xs ys : List Shard) → AllZip AreAlike xs ys → JoinTo words xs → JoinTo words ys
join_alike words xs ys a h = record {
  min = h.min;
  total = h.total;
  some = h.some;
  within = h.within;
  short = h.short;
  each_word = h.each_word;
  few = h.few;
  enough = subst (λ n. h.min ≤ n) (same_counts (has_index xs) (has_index ys) (range_with_len 0 h.total) (λ i. index_alike xs ys i a)) h.enough;
  each = each_alike words h.min h.total xs ys a h.each;
}

-- what the shards of rows of words are: their indices, numbers and rows
record AreRows (min total w : ℕ) (indices cells : List ℕ) (shards : List Shard) : Type 0 where
  keys : map (λ s. s.index) shards ≡ indices
  least : All (λ s. s.min ≡ min) shards
  most : All (λ s. s.total ≡ total) shards
  count : All (λ s. length s.cells.items ≡ w) shards
  rows : flat_map word_row shards ≡ cells

same_fronts : (xs ys us vs : List ℕ) → length xs ≡ length ys → xs ++ us ≡ ys ++ vs → (xs ≡ ys) × (us ≡ vs)
same_fronts xs ys us vs l e = (
  sym (take-append_seam xs us) ∙ ap (take (length xs)) e ∙ ap (λ n. take n (ys ++ vs)) l ∙ take-append_seam ys vs,
  sym (drop-append_seam xs us) ∙ ap (drop (length xs)) e ∙ ap (λ n. drop n (ys ++ vs)) l ∙ drop-append_seam ys vs,
)

alike_rows : (min total w : ℕ) (indices cells : List ℕ) (xs ys : List Shard) → AreRows min total w indices cells xs → AreRows min total w indices cells ys → AllZip AreAlike xs ys
alike_rows min total w indices cells [] [] h k = tt
alike_rows min total w indices cells [] (y ∷ ys) h k = let e : 0 ≡ length (y ∷ ys) = ap length (h.keys ∙ sym k.keys) ∙ length-map (y ∷ ys) (λ (s : Shard). s.index) in absurd (omega (arith, e))
alike_rows min total w indices cells (x ∷ xs) [] h k = let e : 0 ≡ length (x ∷ xs) = ap length (k.keys ∙ sym h.keys) ∙ length-map (x ∷ xs) (λ (s : Shard). s.index) in absurd (omega (arith, e))
alike_rows min total w indices cells (x ∷ xs) (y ∷ ys) h k =
    let keys = h.keys ∙ sym k.keys in
    let wide = All-head (λ (s : Shard). length s.cells.items ≡ w) x xs h.count ∙ sym (All-head (λ (s : Shard). length s.cells.items ≡ w) y ys k.count) in
    let long : length (word_row x) ≡ length (word_row y) = length-map x.cells.items number ∙ wide ∙ sym (length-map y.cells.items number) in
    let parts = same_fronts (word_row x) (word_row y) (flat_map word_row xs) (flat_map word_row ys) long (h.rows ∙ sym k.rows) in (
      record {
        index = ap (λ is. get_or is 0 0) keys;
        least = All-head (λ (s : Shard). s.min ≡ min) x xs h.least ∙ sym (All-head (λ (s : Shard). s.min ≡ min) y ys k.least);
        most = All-head (λ (s : Shard). s.total ≡ total) x xs h.most ∙ sym (All-head (λ (s : Shard). s.total ≡ total) y ys k.most);
        cells = sym (elements_of_numbers x.cells.items) ∙ ap elements parts.0 ∙ elements_of_numbers y.cells.items;
      },
      alike_rows min total w (map (λ (s : Shard). s.index) ys) (flat_map word_row ys) xs ys
          (rest x xs (drop_one x xs (y ∷ ys) keys) parts.1 h)
          (rest y ys refl refl k),
    )
  where
    drop_one : (s : Shard) (ss ts : List Shard) → map (λ (t : Shard). t.index) (s ∷ ss) ≡ map (λ (t : Shard). t.index) ts → map (λ (t : Shard). t.index) ss ≡ drop 1 (map (λ (t : Shard). t.index) ts)
    drop_one s ss ts e = ap (drop 1) e

    rest : (s : Shard) (ss : List Shard) → {js ds : List ℕ} → map (λ (t : Shard). t.index) ss ≡ js → flat_map word_row ss ≡ ds
        → AreRows min total w indices cells (s ∷ ss) → AreRows min total w js ds ss
    rest s ss e f r = record {
      keys = e;
      least = All-tail (λ (t : Shard). t.min ≡ min) s ss r.least;
      most = All-tail (λ (t : Shard). t.total ≡ total) s ss r.most;
      count = All-tail (λ (t : Shard). length t.cells.items ≡ w) s ss r.count;
      rows = f;
    }

rows_of : (min total : ℕ) (indices cells : List ℕ) (shards : List Shard) → AreWordShards min total indices cells shards → AreRows min total (length cells / length indices) indices cells shards
rows_of min total indices cells shards h = grind (arith, length-map, mul-div_cancel)

-- shards with the same words are alike
alike_shards : (min total : ℕ) (indices cells : List ℕ) (xs ys : List Shard) → AreWordShards min total indices cells xs → AreWordShards min total indices cells ys → AllZip AreAlike xs ys
alike_shards min total indices cells xs ys h k =
    alike_rows min total (length cells / length indices) indices cells xs ys (rows_of min total indices cells xs h) (rows_of min total indices cells ys k)

-- whichever shards are these words, they join to the data
pub join_given : (words : List ℕ) (min total : ℕ) (indices cells : List ℕ) (shards : List Shard) → DoJoinTo words min total indices cells → AreWordShards min total indices cells shards
    → JoinTo words shards
join_given words min total indices cells shards h k =
    join_alike words h.0 shards (alike_shards min total indices cells h.0 shards h.1 k) h.2

-- shards that are alike are settled alike
agrees_alike : (s t u v : Shard) → AreAlike s u → AreAlike t v → agrees s t ≡ agrees u v
agrees_alike s t u v a b = ap₂ (λ x y. not x || y) (ap₂ (λ i j. i == j) b.index a.index) (ap₂ are_same b.cells a.cells)

settled_alike : (xs ys : List Shard) (s t : Shard) → AllZip AreAlike xs ys → AreAlike s t → is_settled xs s ≡ is_settled ys t
settled_alike [] [] s t a h = refl
settled_alike [] (y ∷ ys) s t a h = absurd a
settled_alike (x ∷ xs) [] s t a h = absurd a
settled_alike (x ∷ xs) (y ∷ ys) s t a h = ap₂ (λ b c. b && c) (agrees_alike s x t y h a.0) (settled_alike xs ys s t a.1 h)

filter_alike : (p q : Shard → Bool) (xs ys : List Shard) → ((s t : Shard) → AreAlike s t → p s ≡ q t) → AllZip AreAlike xs ys → AllZip AreAlike (filter p xs) (filter q ys)
filter_alike p q [] [] h a = tt
filter_alike p q [] (y ∷ ys) h a = absurd a
filter_alike p q (x ∷ xs) [] h a = absurd a
filter_alike p q (x ∷ xs) (y ∷ ys) h a =
    let rest = filter_alike p q xs ys h a.1 in
    let same_test : p x ≡ q y = h x y a.0 in
    elim (cases_Bool (q y)) as (λ _. AllZip AreAlike (filter p (x ∷ xs)) (filter q (y ∷ ys))) [
      | inl passes ↦ rw (same_test, passes) (a.0, rest)
      | inr fails ↦ rw (same_test, fails) rest
    ]

numbers_alike : (words : List ℕ) (min total : ℕ) (xs ys : List Shard) → AllZip AreAlike xs ys → All (HasNumbersOf words min total) xs → All (HasNumbersOf words min total) ys
numbers_alike words min total [] [] a h = h
numbers_alike words min total [] (y ∷ ys) a h = absurd a
numbers_alike words min total (x ∷ xs) [] a h = absurd a
numbers_alike words min total (x ∷ xs) (y ∷ ys) a h =
    let n = All-head (HasNumbersOf words min total) x xs h in
    All-cons (HasNumbersOf words min total) y ys
    (record {
      index = subst (λ i. i < total) a.0.index n.index;
      least = sym a.0.least ∙ n.least;
      most = sym a.0.most ∙ n.most;
      count = ap length (sym a.0.cells) ∙ n.count;
    })
    (numbers_alike words min total xs ys a.1 (All-tail (HasNumbersOf words min total) x xs h))

right_alike : (words wrong : List ℕ) (min total : ℕ) (xs ys : List Shard) → AllZip AreAlike xs ys → All (λ s. ¬ (Contains wrong s.index) → IsShardOf words min total s) xs
    → All (λ s. ¬ (Contains wrong s.index) → IsShardOf words min total s) ys
right_alike words wrong min total [] [] a h = h
right_alike words wrong min total [] (y ∷ ys) a h = absurd a
right_alike words wrong min total (x ∷ xs) [] a h = absurd a
right_alike words wrong min total (x ∷ xs) (y ∷ ys) a h =
    let P : Shard → Type 0 = λ s. ¬ (Contains wrong s.index) → IsShardOf words min total s in
    All-cons P y ys (λ n. shard_alike words min total x y a.0 (All-head P x xs h (subst (λ i. ¬ (Contains wrong i)) (sym a.0.index) n)))
    (right_alike words wrong min total xs ys a.1 (All-tail P x xs h))

-- and have the same data, however some are wrong
correct_alike : (words : List ℕ) (xs ys : List Shard) → AllZip AreAlike xs ys → CorrectTo words xs → CorrectTo words ys
correct_alike words xs ys a h =
    let both : AllZip AreAlike (settled xs) (settled ys) = filter_alike (is_settled xs) (is_settled ys) xs ys (λ s t b. settled_alike xs ys s t a b) a in
    record {
      min = h.min;
      total = h.total;
      some = h.some;
      within = h.within;
      short = h.short;
      each_word = h.each_word;
      few = h.few;
      numbers = numbers_alike words h.min h.total xs ys a h.numbers;
      wrong = h.wrong;
      enough = subst (λ n. length h.wrong + length h.wrong + h.min ≤ n)
          (same_counts (has_index (settled xs)) (has_index (settled ys)) (range_with_len 0 h.total) (λ i. index_alike (settled xs) (settled ys) i both)) h.enough;
      right = right_alike words h.wrong h.min h.total (settled xs) (settled ys) both h.right;
    }

-- shards that words are, are rows of words below P
rows_of_shards : (min total : ℕ) (indices cells : List ℕ) (shards : List Shard) → AreWordShards min total indices cells shards → 0 < length shards → AreRowsOf (length cells) (length indices)
rows_of_shards min total indices cells [] are some = absurd (omega (arith, some))
rows_of_shards min total indices cells (s ∷ ss) are some =
    let many : length (s ∷ ss) ≡ length indices = sym (length-map (s ∷ ss) (λ (t : Shard). t.index)) ∙ ap length are.keys in
    (length s.cells.items, are.count 0 s some ∙ ap (λ n. n * length s.cells.items) many)

pub below_of_shards : (min total : ℕ) (indices cells : List ℕ) (shards : List Shard) → AreWordShards min total indices cells shards → AreElements cells
below_of_shards min total indices cells shards are = subst AreElements (numbers_of_all shards ∙ are.rows) (numbers_below (flat_map cells_of shards))

-- words that join to data are such
pub rows_there : (words : List ℕ) (min total : ℕ) (indices cells : List ℕ) → DoJoinTo words min total indices cells → AreRowsOf (length cells) (length indices)
rows_there words min total indices cells (shards, are, join) = rows_of_shards min total indices cells shards are (joined_some words shards join)

pub below_there : (words : List ℕ) (min total : ℕ) (indices cells : List ℕ) → DoJoinTo words min total indices cells → AreElements cells
below_there words min total indices cells h = below_of_shards min total indices cells h.0 h.1

-- they join to no other data
pub one_data : (words others : List ℕ) (min total : ℕ) (indices cells : List ℕ) → DoJoinTo words min total indices cells → DoJoinTo others min total indices cells → words ≡ others
one_data words others min total indices cells h k = only_data words others k.0 (join_given words min total indices cells k.0 h k.1) k.2

pub memory_status : (e : Error) → IsMemory e → status_of_shards e ≡ out_of_memory
memory_status (Memory a) h = refl
memory_status TooFew h = absurd h
memory_status Mismatch h = absurd h
memory_status Index h = absurd h
memory_status Conflict h = absurd h
memory_status Inconsistent h = absurd h

-- and nothing but memory can be wanting
pub only_memory : (words : List ℕ) (min total : ℕ) (indices cells : List ℕ) (e : Error) → DoJoinTo words min total indices cells
    → IsMemory e ⊎ AreRefused e min total indices cells → status_of_shards e ≡ out_of_memory
only_memory words min total indices cells e h (inl m) = memory_status e m
only_memory words min total indices cells e h (inr r) = memory_status e (not_due HaveConflict distinct_indices JoinTo joined_of_some joined_beside words r.0 (join_given words min total indices cells r.0 h r.1) e r.2)

-- so it is of words that are corrected
some_corrected : (words : List ℕ) (shards : List Shard) → CorrectTo words shards → 0 < length shards
some_corrected words [] h = absurd (corrected_of_some words h)
some_corrected words (s ∷ ss) h = omega arith

pub correct_given : (words positions : List ℕ) (min total : ℕ) (indices cells : List ℕ) (shards : List Shard) → DoCorrectTo words positions min total indices cells
    → AreWordShards min total indices cells shards → CorrectTo words shards
correct_given words positions min total indices cells shards h k = correct_alike words h.0 shards (alike_shards min total indices cells h.0 shards h.1 k) h.2.0

pub rows_corrected : (words positions : List ℕ) (min total : ℕ) (indices cells : List ℕ) → DoCorrectTo words positions min total indices cells → AreRowsOf (length cells) (length indices)
rows_corrected words positions min total indices cells h = rows_of_shards min total indices cells h.0 h.1 (some_corrected words h.0 h.2.0)

pub below_corrected : (words positions : List ℕ) (min total : ℕ) (indices cells : List ℕ) → DoCorrectTo words positions min total indices cells → AreElements cells
below_corrected words positions min total indices cells h = below_of_shards min total indices cells h.0 h.1

pub one_corrected : (words others positions places : List ℕ) (min total : ℕ) (indices cells : List ℕ) → DoCorrectTo words positions min total indices cells
    → DoCorrectTo others places min total indices cells → words ≡ others
one_corrected words others positions places min total indices cells h k =
    one_correction words others k.0 (correct_given words positions min total indices cells k.0 h k.1) k.2.0

pub only_memory_correcting : (words positions : List ℕ) (min total : ℕ) (indices cells : List ℕ) (e : Error) → DoCorrectTo words positions min total indices cells
    → IsMemory e ⊎ AreRefusedCorrecting e min total indices cells → status_of_shards e ≡ out_of_memory
only_memory_correcting words positions min total indices cells e h (inl m) = memory_status e m
only_memory_correcting words positions min total indices cells e h (inr r) =
    memory_status e
    (not_due (λ _. ⊥) settled_indices CorrectTo corrected_of_some corrected_beside words r.0 (correct_given words positions min total indices cells r.0 h r.1) e r.2)

-- rising numbers below n are at most n
rising_above : (xs : List ℕ) → IsStrictlyIncreasing xs → (k : ℕ) → k < length xs → k ≤ get_or xs k 0
rising_above xs h zero l = omega arith
rising_above xs h (suc k) l =
    let next : k + 1 ≡ suc k = omega arith in
    let step : get_or xs k 0 < get_or xs (suc k) 0 = subst (λ m. get_or xs k 0 < get_or xs m 0) next (h k (omega (arith, l))) in
    omega (arith, rising_above xs h k (omega (arith, l)), step)

pub rising_few : (xs : List ℕ) (n : ℕ) → IsStrictlyIncreasing xs → All (λ i. i < n) xs → length xs ≤ n
rising_few [] n h b = omega arith
rising_few (x ∷ xs) n h b =
    let last = length xs in
    omega (arith, rising_above (x ∷ xs) h last (omega arith), b last 0 (omega arith))

-- so there is room for the positions where there is for all shards
pub room_for_positions : (words positions : List ℕ) (min total : ℕ) (indices cells : List ℕ) (shards : List Shard) → AreWordShards min total indices cells shards
    → AreCorrected words positions shards → length positions ≤ length indices
room_for_positions words positions min total indices cells shards are h = grind (arith, length-map, rising_few)
