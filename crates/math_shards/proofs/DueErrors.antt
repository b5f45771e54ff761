-- What is wrong with shards: one error at most, and none but want of memory where they have data.
use Rattle.std.proofs.Common.{◌≡◌, ℕ, ◌<◌, ◌≤◌, ◌⊎◌, inl, inr, List, [], ◌∷◌, ◌++◌, length, drop, get_or, Result, Ok, Err, refl, sym, ◌∙◌, ap, subst, arith}
use Rattle.std.specs.List.{All}
use Rattle.std.specs.Result.{IfErr, IfOk, MatchResult}
use Rattle.std.proofs.lemmas.List.Elements.{All-head, All-tail}
use Rattle.math_shards.specs.declared.shards.Error.{Error}
use Rattle.math_shards.specs.declared.shards.Error.TheVariants.{Memory, TooFew, Mismatch, Index, Conflict, Inconsistent}
use Rattle.math_splitting.specs.declared.shards.Shard.{Shard}
use Rattle.math_shards.specs.Joining.{HasUnsound, HaveConflict, IsDueBeside, IsDueFor, IsDueOfRows, IsMemory, IsSound, Matches, RefusesWhereDue}
use Rattle.math_splitting.specs.Shards.{JoinTo, distinct_indices}
use Rattle.math_shards.proofs.JoinedRows.{distinct_of_shards, fit_of_join, items_in, key_of}
use Rattle.math_shards.proofs.JoinedShards.{joined_first, joined_no_conflict, joined_some, joined_sound}

-- what has not the numbers of the first is not sound
mismatched : (first s : Shard) → ¬ (Matches first s) → ¬ (IsSound first s)
mismatched first s apart sound = apart sound.0

-- nor is what has an index out of range
out_of_range : (first s : Shard) → Matches first s × (s.total ≤ s.index) → ¬ (IsSound first s)
out_of_range first s fault sound = omega (arith, fault.1, sound.1)

-- each shard is sound, where all are
sound_within : (first : Shard) (before : List Shard) (s : Shard) (after : List Shard) → All (IsSound first) (before ++ s ∷ after) → IsSound first s
sound_within first [] s after h = All-head (IsSound first) s after h
sound_within first (b ∷ before) s after h = sound_within first before s after (All-tail (IsSound first) b (before ++ s ∷ after) h)

all_sound : (first : Shard) (P : Shard → Type 0) (shards : List Shard) → ((s : Shard) → P s → ¬ (IsSound first s)) → HasUnsound first P shards → ¬ (All (IsSound first) shards)
all_sound first P shards fault h sound = fault h.found h.fault (sound_within first h.before h.found h.after (subst (All (IsSound first)) h.parts sound))

-- there is one first shard that is not sound
first_unsound : (first : Shard) (before : List Shard) (s : Shard) (after others : List Shard) (t : Shard) (rest : List Shard) → before ++ s ∷ after ≡ others ++ t ∷ rest
    → All (IsSound first) before → All (IsSound first) others → ¬ (IsSound first s) → ¬ (IsSound first t) → s ≡ t
first_unsound first [] s after [] t rest e h k p q = ap (λ xs. get_or xs 0 s) e
first_unsound first [] s after (o ∷ others) t rest e h k p q =
    absurd (p (subst (IsSound first) (sym (ap (λ xs. get_or xs 0 s) e)) (All-head (IsSound first) o others k)))
first_unsound first (b ∷ before) s after [] t rest e h k p q = absurd (q (subst (IsSound first) (ap (λ xs. get_or xs 0 s) e) (All-head (IsSound first) b before h)))
first_unsound first (b ∷ before) s after (o ∷ others) t rest e h k p q =
    first_unsound first before s after others t rest (ap (drop 1) e) (All-tail (IsSound first) b before h) (All-tail (IsSound first) o others k) p q

-- it has other numbers, or an index out of range, and not both
one_fault : (first : Shard) (shards : List Shard) → HasUnsound first (λ s. ¬ (Matches first s)) shards → ¬ (HasUnsound first (λ s. Matches first s × (s.total ≤ s.index)) shards)
one_fault first shards h k = grind (arith, first_unsound, out_of_range)

-- what a conflict is, how many indices below a number count, and which words are data of shards
module _ (conflict : List Shard → Type 0) (indices : ℕ → List Shard → ℕ) (data_of : List ℕ → List Shard → Type 0) where
  abbrev Due : List Shard → Error → Type 0
  Due = IsDueFor conflict indices data_of

  abbrev DueBeside : Shard → List Shard → Error → Type 0
  DueBeside first shards = IsDueBeside (conflict shards) (indices first.total shards) (λ words. data_of words shards) first shards

  -- want of memory always is
  pub memory_due : (first : Shard) (shards : List Shard) (e : Error) → IsMemory e → DueBeside first shards e
  memory_due first shards (Memory a) h = tt
  memory_due first shards TooFew h = absurd h
  memory_due first shards Mismatch h = absurd h
  memory_due first shards Index h = absurd h
  memory_due first shards Conflict h = absurd h
  memory_due first shards Inconsistent h = absurd h

  -- what is wrong with the shards is said beside the first of them
  pub due_beside : (first : Shard) (shards : List Shard) (e : Error) → 0 < length shards → get_or shards 0 first ≡ first → DueBeside first shards e → Due shards e
  due_beside first [] e some is due = absurd (omega (arith, some))
  due_beside first (s ∷ rest) e some is due = subst (λ t. DueBeside t (s ∷ rest) e) (sym is) due

  -- besides want of memory one error at most is due
  pub one_due : (shards : List Shard) (e f : Error) → ¬ (IsMemory e) → Due shards e → Due shards f → (f ≡ e) ⊎ IsMemory f
  one_due shards (Memory a) f other d k = absurd (other tt)
  one_due [] TooFew (Memory a) other d k = inr tt
  one_due [] TooFew TooFew other d k = inl refl
  one_due [] TooFew Mismatch other d k = absurd k
  one_due [] TooFew Index other d k = absurd k
  one_due [] TooFew Conflict other d k = absurd k
  one_due [] TooFew Inconsistent other d k = absurd k
  one_due [] Mismatch f other d k = absurd d
  one_due [] Index f other d k = absurd d
  one_due [] Conflict f other d k = absurd d
  one_due [] Inconsistent f other d k = absurd d
  one_due (first ∷ rest) Mismatch (Memory a) other d k = inr tt
  one_due (first ∷ rest) Mismatch Mismatch other d k = inl refl
  one_due (first ∷ rest) Mismatch Index other d k = absurd (one_fault first (first ∷ rest) d k)
  one_due (first ∷ rest) Mismatch Conflict other d k = absurd (all_sound first _ (first ∷ rest) (mismatched first) d k.0)
  one_due (first ∷ rest) Mismatch TooFew other d k = absurd (all_sound first _ (first ∷ rest) (mismatched first) d k.0.0)
  one_due (first ∷ rest) Mismatch Inconsistent other d k = absurd (all_sound first _ (first ∷ rest) (mismatched first) d k.0.0)
  one_due (first ∷ rest) Index (Memory a) other d k = inr tt
  one_due (first ∷ rest) Index Mismatch other d k = absurd (one_fault first (first ∷ rest) k d)
  one_due (first ∷ rest) Index Index other d k = inl refl
  one_due (first ∷ rest) Index Conflict other d k = absurd (all_sound first _ (first ∷ rest) (out_of_range first) d k.0)
  one_due (first ∷ rest) Index TooFew other d k = absurd (all_sound first _ (first ∷ rest) (out_of_range first) d k.0.0)
  one_due (first ∷ rest) Index Inconsistent other d k = absurd (all_sound first _ (first ∷ rest) (out_of_range first) d k.0.0)
  one_due (first ∷ rest) Conflict (Memory a) other d k = inr tt
  one_due (first ∷ rest) Conflict Mismatch other d k = absurd (all_sound first _ (first ∷ rest) (mismatched first) k d.0)
  one_due (first ∷ rest) Conflict Index other d k = absurd (all_sound first _ (first ∷ rest) (out_of_range first) k d.0)
  one_due (first ∷ rest) Conflict Conflict other d k = inl refl
  one_due (first ∷ rest) Conflict TooFew other d k = absurd (k.0.1 d.1)
  one_due (first ∷ rest) Conflict Inconsistent other d k = absurd (k.0.1 d.1)
  one_due (first ∷ rest) TooFew (Memory a) other d k = inr tt
  one_due (first ∷ rest) TooFew Mismatch other d k = absurd (all_sound first _ (first ∷ rest) (mismatched first) k d.0.0)
  one_due (first ∷ rest) TooFew Index other d k = absurd (all_sound first _ (first ∷ rest) (out_of_range first) k d.0.0)
  one_due (first ∷ rest) TooFew Conflict other d k = absurd (d.0.1 k.1)
  one_due (first ∷ rest) TooFew TooFew other d k = inl refl
  one_due (first ∷ rest) TooFew Inconsistent other d k = absurd (omega (arith, d.1, k.1))
  one_due (first ∷ rest) Inconsistent (Memory a) other d k = inr tt
  one_due (first ∷ rest) Inconsistent Mismatch other d k = absurd (all_sound first _ (first ∷ rest) (mismatched first) k d.0.0)
  one_due (first ∷ rest) Inconsistent Index other d k = absurd (all_sound first _ (first ∷ rest) (out_of_range first) k d.0.0)
  one_due (first ∷ rest) Inconsistent Conflict other d k = absurd (d.0.1 k.1)
  one_due (first ∷ rest) Inconsistent TooFew other d k = absurd (omega (arith, k.1, d.1))
  one_due (first ∷ rest) Inconsistent Inconsistent other d k = inl refl

  -- data are those of shards that are sound and not in conflict, and of which enough indices count
  module _ (of_some : (words : List ℕ) → ¬ (data_of words []))
      (beside : (words : List ℕ) (first : Shard) (rest : List Shard) → data_of words (first ∷ rest)
      → (All (IsSound first) (first ∷ rest) × ¬ (conflict (first ∷ rest))) × (first.min ≤ indices first.total (first ∷ rest))) where
    -- where shards have data, only memory can be wanting
    pub not_due : (words : List ℕ) (shards : List Shard) → data_of words shards → (e : Error) → Due shards e → IsMemory e
    not_due words [] j e due = absurd (of_some words j)
    not_due words (first ∷ rest) j (Memory a) due = tt
    not_due words (first ∷ rest) j Mismatch due = all_sound first (λ s. ¬ (Matches first s)) (first ∷ rest) (mismatched first) due (beside words first rest j).0.0
    not_due words (first ∷ rest) j Index due = all_sound first (λ s. Matches first s × (s.total ≤ s.index)) (first ∷ rest) (out_of_range first) due (beside words first rest j).0.0
    not_due words (first ∷ rest) j Conflict due = (beside words first rest j).0.1 due.1
    not_due words (first ∷ rest) j TooFew due = omega (arith, (beside words first rest j).1, due.1)
    not_due words (first ∷ rest) j Inconsistent due = due.2 words j

    module _ {X : Type 0} (items : X → List ℕ) (fine : X → Type 0) (shards : List Shard) (fits : (v : X) → fine v → data_of (items v) shards) where
      -- so an answer with data of the shards, or an error that is due, is each error exactly where that is due
      pub refuses : (e : Error) → ¬ (IsMemory e) → (result : Result X Error) → IfOk result fine → IfErr result (Due shards) → RefusesWhereDue result (Due shards) e
      refuses e other (Ok v) ok err = (λ q. subst (λ r. IfErr r (Due shards)) q err, λ due. other (not_due (items v) shards (fits v ok) e due))
      refuses e other (Err f) ok err = (λ q. subst (λ r. IfErr r (Due shards)) q err, λ due. one_due shards e f other due err)

      -- and is the data of the shards where these are the only ones, or memory ran out
      pub answers : ((words others : List ℕ) → data_of words shards → data_of others shards → words ≡ others) → (result : Result X Error) → IfOk result fine
          → IfErr result (Due shards) → (words : List ℕ) → data_of words shards → MatchResult result (λ v. items v ≡ words) IsMemory
      answers once (Ok v) ok err words j = once (items v) words (fits v ok) j
      answers once (Err f) ok err words j = not_due words shards j f err

-- shards that join to data are not none
pub joined_of_some : (words : List ℕ) → ¬ (JoinTo words [])
joined_of_some words j = omega (arith, joined_some words [] j)

-- and are sound, without conflict, and enough
pub joined_beside : (words : List ℕ) (first : Shard) (rest : List Shard) → JoinTo words (first ∷ rest)
    → (All (IsSound first) (first ∷ rest) × ¬ (HaveConflict (first ∷ rest))) × (first.min ≤ distinct_indices first.total (first ∷ rest))
joined_beside words first rest j =
    let f = joined_first words first rest j in
    let enough : first.min ≤ distinct_indices first.total (first ∷ rest) = rw (f.least, f.most) j.enough in
    ((joined_sound words (first ∷ rest) j first f, joined_no_conflict words (first ∷ rest) j), enough)

-- what is wrong with sound shards as rows is wrong with the shards
pub rows_due : (first : Shard) (shards : List Shard) (e : Error) → All (IsSound first) shards → 0 < length shards
    → IsMemory e ⊎ IsDueOfRows key_of items_in first.min first.total shards e
    → IsDueBeside (HaveConflict shards) (distinct_indices first.total shards) (λ words. JoinTo words shards) first shards e
rows_due first shards e sound there (inl memory) = memory_due HaveConflict distinct_indices JoinTo first shards e memory
rows_due first shards (Memory a) sound there (inr due) = absurd due
rows_due first shards Mismatch sound there (inr due) = absurd due
rows_due first shards Index sound there (inr due) = absurd due
rows_due first shards Conflict sound there (inr due) = (sound, due)
rows_due first shards TooFew sound there (inr due) = ((sound, due.0), omega (arith, due.1, distinct_of_shards first.total shards))
rows_due first shards Inconsistent sound there (inr due) = (
  (sound, due.0),
  omega (arith, due.1, distinct_of_shards first.total shards),
  λ words j. due.2 words (fit_of_join words first shards sound there j),
)
