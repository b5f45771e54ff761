-- Bytes as the words of shards, and the shards that they are.
use Rattle.std.proofs.Common.{◌≡◌, ◌↔◌, ◌∙◌, ℕ, ◌*◌, ◌/◌, ◌<◌, ◌^◌, ◌⊎◌, inl, inr, Err, List, [], ◌∷◌, length, map, get_or, replicate, refl, sym, ap, ap₂, subst, arith}
use Rattle.std.specs.Int.{from_be_bytes, to_be_bytes, w64}
use Rattle.std.specs.List.{All}
use Rattle.std.specs.Simd.{first_chunks}
use Rattle.std.proofs.Math.ListN.{get_or-map}
use Rattle.std.proofs.lemmas.List.{length-map, length-replicate}
use Rattle.std.proofs.lemmas.List.Concat.{flat_map-cons}
use Rattle.std.proofs.lemmas.List.Elements.{All-head, All-map, All-tail}
use Rattle.math_numbers.specs.Goldilocks.{P}
use Rattle.math_codec.specs.WordLaws.{word_apart}
use Rattle.math_shards.specs.declared.shards.Error.{Error}
use Rattle.math_shards.specs.declared.shards.Error.TheVariants.{Memory, TooFew, Mismatch, Index, Conflict, Inconsistent}
use Rattle.math_splitting.specs.declared.shards.Shard.{Shard}
use Rattle.math_splitting.specs.DataWords.{spelled_words}
use Rattle.math_shards.specs.Correcting.{CorrectTo, settled_indices}
use Rattle.math_shards.specs.Joining.{HaveConflict, IsMemory, RefusesWhereDue}
use Rattle.math_splitting.specs.Shards.{JoinTo, distinct_indices, width_for}
use Rattle.math_shards.proofs.DueErrors.{joined_beside, joined_of_some, not_due}
use Rattle.math_shards.proofs.CorrectedShards.{corrected_beside, corrected_of_some, one_correction}
use Rattle.math_shards.proofs.JoinedCorrection.{joined_corrected}
use Rattle.math_shards.proofs.OnlyData.{only_data}
use Rattle.math_splitting.proofs.SpelledWords.{bytes-spelled, spelled-words}
use Rattle.shard_blocks.specs.BlockWords.{words_of_bytes}
use Rattle.shard_blocks.specs.Blocks.{JoinToBlock}
use Rattle.shard_blocks.specs.Correcting.{CorrectToBlock, IsBlockDueCorrecting}
use Rattle.shard_blocks.proofs.BlockErrors.{block_beside, block_of_some, block_once}
use Rattle.c_calls.specs.ShardBytes.{AreBlockRefused, AreBlockRefusedCorrecting, AreByteRowsOf, DoCorrectToBlock, DoJoinToBlock, HaveShardBytes, SpellElements, word_bytes}
use Rattle.c_calls.specs.WordElements.{AreElements}
use Rattle.c_calls.specs.WordShards.{AreWordShards}
use Rattle.c_calls.specs.Statuses.{out_of_memory, status_of_shards}
use Rattle.c_calls.proofs.AlikeShards.{below_corrected, below_of_shards, below_there, correct_given, join_given, memory_status, rows_corrected, rows_there}
use Rattle.c_calls.proofs.WrittenWords.{length-bytes}

-- bytes are those of one list of words
pub one_spelling : (xs ys : List ℕ) → All (λ w. w < 2 ^ 64) xs → All (λ w. w < 2 ^ 64) ys → word_bytes xs ≡ word_bytes ys → xs ≡ ys
one_spelling [] [] h k e = refl
one_spelling [] (y ∷ ys) h k e = absurd (omega (arith, ap length e, length-bytes (y ∷ ys)))
one_spelling (x ∷ xs) [] h k e = absurd (omega (arith, ap length e, length-bytes (x ∷ xs)))
one_spelling (x ∷ xs) (y ∷ ys) h k e =
    let parts = word_apart x y (word_bytes xs) (word_bytes ys) (All-head (λ w. w < 2 ^ 64) x xs h) (All-head (λ w. w < 2 ^ 64) y ys k)
    (sym (flat_map-cons (to_be_bytes w64) x xs) ∙ e ∙ flat_map-cons (to_be_bytes w64) y ys) in
    ap₂ (λ w ws. w ∷ ws) parts.0 (one_spelling xs ys (All-tail (λ w. w < 2 ^ 64) x xs h) (All-tail (λ w. w < 2 ^ 64) y ys k) parts.1)

-- words below P are below 2^64
pub fit_in_words : (words : List ℕ) → AreElements words → All (λ w. w < 2 ^ 64) words
fit_in_words words h = λ i d l. omega (arith, h i d l)

-- the size of a shard is the one by the number of its cells
pub size_by_cells : (bytes min total cells : ℕ) → ((block : List ℕ) → length block ≡ bytes → width_for min (words_of_bytes block) ≡ cells) → cells * (8 * total) < 2 ^ 60
    → HaveShardBytes bytes min total (8 * cells)
size_by_cells bytes min total cells h l = record { count = λ block e. ap (λ n. 8 * n) (sym (h block e)); room = omega (arith, l) }

-- and no other
pub only_shard_size : (bytes min total cells n : ℕ) → ((block : List ℕ) → length block ≡ bytes → width_for min (words_of_bytes block) ≡ cells) → HaveShardBytes bytes min total n
    → n ≡ 8 * cells
only_shard_size bytes min total cells n h k =
    let e : length (replicate bytes 0) ≡ bytes = length-replicate bytes 0 in
    k.count (replicate bytes 0) e ∙ ap (λ m. 8 * m) (h (replicate bytes 0) e)

pub same_sizes : (bytes min total m n : ℕ) → HaveShardBytes bytes min total m → HaveShardBytes bytes min total n → m ≡ n
same_sizes bytes min total m n h k =
    let e : length (replicate bytes 0) ≡ bytes = length-replicate bytes 0 in
    h.count (replicate bytes 0) e ∙ sym (k.count (replicate bytes 0) e)

-- bytes that join to a block are rows of words below P
pub byte_rows_there : (block : List ℕ) (min total : ℕ) (indices bytes : List ℕ) → DoJoinToBlock block min total indices bytes → AreByteRowsOf (length bytes) (length indices)
byte_rows_there block min total indices bytes (cells, e, shards, are, join) =
    let rows = rows_there (words_of_bytes block) min total indices cells (shards, are, join.1) in
    (rows.0, ap length e ∙ length-bytes cells ∙ ap (λ n. 8 * n) rows.1)

pub spell_there : (block : List ℕ) (min total : ℕ) (indices bytes : List ℕ) → DoJoinToBlock block min total indices bytes → SpellElements bytes
spell_there block min total indices bytes (cells, e, shards, are, join) = (cells, below_there (words_of_bytes block) min total indices cells (shards, are, join.1), e)

-- whichever shards are these words, they join to the block
pub block_given : (block : List ℕ) (min total : ℕ) (indices cells : List ℕ) (shards : List Shard) → AreElements cells → DoJoinToBlock block min total indices (word_bytes cells)
    → AreWordShards min total indices cells shards → JoinToBlock block shards
block_given block min total indices cells shards below (others, e, there, are, join) k =
    let words = words_of_bytes block in
    let others_below = below_there words min total indices others (there, are, join.1) in
    let one : others ≡ cells = one_spelling others cells (fit_in_words others others_below) (fit_in_words cells below) (sym e) in
    (join.0, join_given words min total indices cells shards (there, subst (λ ws. AreWordShards min total indices ws there) one are, join.1) k)

-- bytes that are words below P are those of the words that they spell
pub cells_of_spelled : (bytes : List ℕ) → SpellElements bytes → AreElements (spelled_words bytes) × (bytes ≡ word_bytes (spelled_words bytes))
cells_of_spelled bytes (words, below, e) =
    let one : spelled_words bytes ≡ words = ap spelled_words e ∙ spelled-words words (fit_in_words words below) in
    (subst AreElements (sym one) below, e ∙ ap word_bytes (sym one))

-- bytes are words below P where each eight of them are
pub elements_of_chunks : (bytes : List ℕ) (chunks : List (List ℕ)) → (count : ℕ) × (length bytes ≡ 8 * count) → ((i : ℕ) → get_or bytes i 0 < 256) → chunks ≡ first_chunks 8 (length bytes / 8) bytes
    → All (λ word. from_be_bytes w64 word < P) chunks ↔ SpellElements bytes
elements_of_chunks bytes chunks (n, size) each e =
    let words : map (from_be_bytes w64) chunks ≡ spelled_words bytes = ap (map (from_be_bytes w64)) e in (
      λ below. (spelled_words bytes, subst AreElements words (All-map (λ w. w < P) (from_be_bytes w64) chunks below), bytes-spelled n bytes size each),
      λ spell k d l.
          let below : AreElements (map (from_be_bytes w64) chunks) = subst AreElements (sym words) (cells_of_spelled bytes spell).0 in
          subst (λ w. w < P) (get_or-map (from_be_bytes w64) chunks k d) (below k (from_be_bytes w64 d) (omega (arith, l, length-map chunks (from_be_bytes w64)))),
    )

-- an error of an answer that is each of them exactly where it is due is due, or memory ran out
pub due_of_refusals : {X : Type 0} (due : Error → Type 0) (e : Error) → RefusesWhereDue {X = X} (Err e) due TooFew → RefusesWhereDue {X = X} (Err e) due Mismatch
    → RefusesWhereDue {X = X} (Err e) due Index → RefusesWhereDue {X = X} (Err e) due Conflict → RefusesWhereDue {X = X} (Err e) due Inconsistent → IsMemory e ⊎ due e
due_of_refusals due (Memory m) a b c d f = inl tt
due_of_refusals due TooFew a b c d f = inr (a.0 refl)
due_of_refusals due Mismatch a b c d f = inr (b.0 refl)
due_of_refusals due Index a b c d f = inr (c.0 refl)
due_of_refusals due Conflict a b c d f = inr (d.0 refl)
due_of_refusals due Inconsistent a b c d f = inr (f.0 refl)

-- the block that shards join to is the one that they are corrected to, and none is wrong
pub sound_block : (block : List ℕ) (min total : ℕ) (indices bytes : List ℕ) → DoJoinToBlock block min total indices bytes → DoCorrectToBlock block [] min total indices bytes
sound_block block min total indices bytes (cells, e, shards, are, join) = (cells, e, shards, are, (join.0, joined_corrected (words_of_bytes block) shards join.1))

-- bytes join to one block at most
pub one_block : (block other : List ℕ) (min total : ℕ) (indices bytes : List ℕ) → DoJoinToBlock block min total indices bytes → DoJoinToBlock other min total indices bytes
    → block ≡ other
one_block block other min total indices bytes h (cells, e, shards, are, join) =
    let below = below_of_shards min total indices cells shards are in
    let again = block_given block min total indices cells shards below (subst (λ bs. DoJoinToBlock block min total indices bs) e h) are in
    block_once HaveConflict distinct_indices JoinTo joined_of_some joined_beside only_data block other shards again join

-- and nothing but memory can be wanting
pub only_memory_block : (block : List ℕ) (min total : ℕ) (indices bytes : List ℕ) (e : Error) → DoJoinToBlock block min total indices bytes
    → IsMemory e ⊎ AreBlockRefused e min total indices bytes → status_of_shards e ≡ out_of_memory
only_memory_block block min total indices bytes e h (inl memory) = memory_status e memory
only_memory_block block min total indices bytes e h (inr (cells, is, shards, are, due)) =
    let below = below_of_shards min total indices cells shards are in
    let join = block_given block min total indices cells shards below (subst (λ bs. DoJoinToBlock block min total indices bs) is h) are in
    memory_status e
    (not_due HaveConflict distinct_indices JoinToBlock (block_of_some HaveConflict distinct_indices JoinTo joined_of_some joined_beside only_data)
    (block_beside HaveConflict distinct_indices JoinTo joined_of_some joined_beside only_data) block shards join e due)

-- Rows of bytes that are the words that they spell.
module _ (min total : ℕ) (indices bytes : List ℕ) (spelled : bytes ≡ word_bytes (spelled_words bytes)) where
  pub refused_of_corrected : (shards : List Shard) (e : Error) → AreWordShards min total indices (spelled_words bytes) shards → IsMemory e ⊎ IsBlockDueCorrecting shards e
      → IsMemory e ⊎ AreBlockRefusedCorrecting e min total indices bytes
  refused_of_corrected shards e are (inl memory) = inl memory
  refused_of_corrected shards e are (inr due) = inr (spelled_words bytes, spelled, shards, are, due)

-- so it is of bytes that are corrected
pub byte_rows_corrected : (block positions : List ℕ) (min total : ℕ) (indices bytes : List ℕ) → DoCorrectToBlock block positions min total indices bytes
    → AreByteRowsOf (length bytes) (length indices)
byte_rows_corrected block positions min total indices bytes (cells, e, shards, are, correct) =
    let rows = rows_corrected (words_of_bytes block) positions min total indices cells (shards, are, correct.1) in
    (rows.0, ap length e ∙ length-bytes cells ∙ ap (λ n. 8 * n) rows.1)

pub spell_corrected : (block positions : List ℕ) (min total : ℕ) (indices bytes : List ℕ) → DoCorrectToBlock block positions min total indices bytes → SpellElements bytes
spell_corrected block positions min total indices bytes (cells, e, shards, are, correct) =
    (cells, below_corrected (words_of_bytes block) positions min total indices cells (shards, are, correct.1), e)

pub corrected_given : (block positions : List ℕ) (min total : ℕ) (indices cells : List ℕ) (shards : List Shard) → AreElements cells
    → DoCorrectToBlock block positions min total indices (word_bytes cells) → AreWordShards min total indices cells shards → CorrectToBlock block shards
corrected_given block positions min total indices cells shards below (others, e, there, are, correct) k =
    let words = words_of_bytes block in
    let others_below = below_corrected words positions min total indices others (there, are, correct.1) in
    let one : others ≡ cells = one_spelling others cells (fit_in_words others others_below) (fit_in_words cells below) (sym e) in
    (correct.0, correct_given words positions min total indices cells shards (there, subst (λ ws. AreWordShards min total indices ws there) one are, correct.1) k)

-- bytes have one block at most, however some shards are wrong
pub one_corrected_block : (block other positions places : List ℕ) (min total : ℕ) (indices bytes : List ℕ) → DoCorrectToBlock block positions min total indices bytes
    → DoCorrectToBlock other places min total indices bytes → block ≡ other
one_corrected_block block other positions places min total indices bytes h (cells, e, shards, are, correct) =
    let below = below_of_shards min total indices cells shards are in
    let again = corrected_given block positions min total indices cells shards below (subst (λ bs. DoCorrectToBlock block positions min total indices bs) e h) are in
    block_once (λ _. ⊥) settled_indices CorrectTo corrected_of_some corrected_beside one_correction block other shards again (correct.0, correct.1.0)

pub only_memory_correcting_block : (block positions : List ℕ) (min total : ℕ) (indices bytes : List ℕ) (e : Error) → DoCorrectToBlock block positions min total indices bytes
    → IsMemory e ⊎ AreBlockRefusedCorrecting e min total indices bytes → status_of_shards e ≡ out_of_memory
only_memory_correcting_block block positions min total indices bytes e h (inl memory) = memory_status e memory
only_memory_correcting_block block positions min total indices bytes e h (inr (cells, is, shards, are, due)) =
    let below = below_of_shards min total indices cells shards are in
    let correct = corrected_given block positions min total indices cells shards below (subst (λ bs. DoCorrectToBlock block positions min total indices bs) is h) are in
    memory_status e
    (not_due (λ _. ⊥) settled_indices CorrectToBlock (block_of_some (λ _. ⊥) settled_indices CorrectTo corrected_of_some corrected_beside one_correction)
    (block_beside (λ _. ⊥) settled_indices CorrectTo corrected_of_some corrected_beside one_correction) block shards correct e due)
