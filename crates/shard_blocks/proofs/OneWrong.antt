-- Shards of a block of which one is wrong are corrected to it.
use Rattle.std.proofs.Common.{◌≡◌, ℕ, suc, ◌+◌, ◌-◌, ◌<◌, inl, inr, List, [], ◌∷◌, length, take, drop, get_or, sym, ◌∙◌, ap, subst, arith}
use Rattle.std.specs.List.{All, remove}
use Rattle.std.proofs.lemmas.Bool.{cases_lt}
use Rattle.std.proofs.lemmas.List.{get_or_default}
use Rattle.std.proofs.lemmas.List.Edits.{get_or-remove_above, get_or-remove_below, length-remove}
use Rattle.std.proofs.lemmas.List.Elements.{All-append, All-drop, All-take}
use Rattle.math_splitting.specs.declared.shards.Shard.{Shard}
use Rattle.math_shards.specs.Correcting.{HasNumbersOf}
use Rattle.math_shards.specs.Joining.{IsSound}
use Rattle.math_splitting.specs.Shards.{IsShardOf, JoinTo}
use Rattle.math_shards.proofs.JoinedCorrection.{one_index_wrong}
use Rattle.math_shards.proofs.JoinedShards.{joined_numbers, joined_some}
use Rattle.shard_blocks.specs.BlockWords.{words_of_bytes}
use Rattle.shard_blocks.specs.Correcting.{OneWrongIsCorrected}

all_removed : {X : Type 0} (P : X → Type 0) (xs : List X) (i : ℕ) → All P xs → All P (remove xs i)
all_removed P xs i h = All-append P (take i xs) (drop (suc i) xs) (All-take P i xs h) (All-drop P (suc i) xs h)

-- what holds without one place holds at each other place
at_other : {X : Type 0} (P : X → Type 0) (xs : List X) (i k : ℕ) (d : X) → i < length xs → k < length xs → ¬ (k ≡ i) → All P (remove xs i) → P (get_or xs k d)
at_other P xs i k d l m other h =
    let long : length (remove xs i) + 1 ≡ length xs = length-remove xs i l in
    elim (cases_lt k i) as (λ _. P (get_or xs k d)) [
      | inl below ↦ subst P (get_or-remove_below xs i d k below l) (h k d (omega arith))
      | inr within ↦ elim (cases_lt i k) as (λ _. P (get_or xs k d)) [
        | inl above ↦
            let back : k - 1 + 1 ≡ k = omega arith in
            subst P (get_or-remove_above xs i d (k - 1) (omega arith) l ∙ ap (λ n. get_or xs n d) back) (h (k - 1) d (omega arith))
        | inr here ↦ absurd (other (omega arith))
      ]
    ]

-- the index of the shard at a place
index_at : (shards : List Shard) (i k : ℕ) (s d : Shard) → i < length shards → get_or shards k s ≡ s → k ≡ i → s.index ≡ (get_or shards i d).index
index_at shards i k s d l at e = ap (λ (t : Shard). t.index) (sym at ∙ ap (λ n. get_or shards n s) e ∙ get_or_default shards i s d l)

pub one_wrong_is_corrected : OneWrongIsCorrected
one_wrong_is_corrected bytes [] i spare a = absurd spare
one_wrong_is_corrected bytes (first ∷ rest) i spare a =
    let shards = first ∷ rest in
    let words = words_of_bytes bytes in
    let left = remove shards i in
    let j : JoinTo words left = a.1.1 in
    let some : 0 < length left = joined_some words left j in
    let of = j.each 0 first some in
    let is = all_removed (IsSound first) shards i spare.0 0 first some in
    let least : j.min ≡ first.min = sym of.least ∙ is.0.least in
    let most : j.total ≡ first.total = sym of.most ∙ is.0.most in
    let each : All (IsShardOf words first.min first.total) left = joined_numbers words left j first.min first.total least most in
    let width = sym is.0.count ∙ (each 0 first some).count in
    let numbers : All (HasNumbersOf words first.min first.total) shards =
    λ k d l. let s = spare.0 k d l in record { index = omega (arith, s.1, s.0.most); least = s.0.least; most = s.0.most; count = s.0.count ∙ width } in (
      a.1.0,
      one_index_wrong words first.min first.total (get_or shards i first).index shards (omega (arith, j.some, least)) (omega (arith, j.within, least, most)) (omega (arith, j.short, most))
          j.each_word j.few numbers spare.1
          (λ k s l at apart.
          subst (IsShardOf words first.min first.total) at
          (at_other (IsShardOf words first.min first.total) shards i k s a.0 l (λ e. apart (index_at shards i k s first a.0 at e)) each)),
    )
