-- Rows of values that are filled with shards: how many are filled, and shards of one index, whose cells are those of one row.
use Rattle.std.proofs.Common.{◌≡◌, ℕ, zero, suc, ◌+◌, ◌-◌, ◌<◌, ◌≤◌, ◌^◌, List, [], ◌∷◌, Bool, true, false, cond, eqb, length, map, get_or, refl, sym, ◌∙◌, ap, arith}
use Rattle.std.specs.List.{All, Any, range_with_len, count_by}
use Rattle.std.proofs.lemmas.Bool.{eqb-true, eq-eqb, ne_eqb}
use Rattle.std.proofs.lemmas.List.Elements.{All-weaker}
use Rattle.std.proofs.lemmas.List.Folds.{Any-from_list_any, list_any_at, list_any_none}
use Rattle.std.proofs.lemmas.List.FromFn.{fill_by_all, sum_by-map-range_with_len_more}
use Rattle.std.proofs.lemmas.List.Sums.{sum_by-cons}
use Rattle.math_theory.specs.Recovery.{count_true}
use Rattle.math_fields.specs.declared.goldilocks.F.{F}
use Rattle.math_ntt.specs.Evaluations.{EvaluationsOf}
use Rattle.math_splitting.specs.declared.shards.Shard.{Shard}
use Rattle.math_shards.specs.Joining.{HoldsShards, IsSound}
use Rattle.math_splitting.specs.Shards.{distinct_indices, has_index}

-- where some shard has the index i, here is one
pub index_found : (shards : List Shard) (i : ℕ) → has_index shards i ≡ true → Any (λ s. s.index ≡ i) shards
index_found shards i h =
    let found = Any-from_list_any (λ (s : Shard). eqb s.index i) shards h in
    (found.0, found.1, found.2, found.3, eqb-true found.1.index i found.4)

-- the index of each shard is one
pub index_there : (shards : List Shard) (k : ℕ) (d : Shard) → k < length shards → has_index shards (get_or shards k d).index ≡ true
index_there shards k d l = list_any_at (λ (s : Shard). eqb s.index (get_or shards k d).index) shards k d l (eq-eqb (get_or shards k d).index (get_or shards k d).index refl)

-- no number from n on is one, where all are below n
pub index_past : (n : ℕ) (shards : List Shard) → All (λ s. s.index < n) shards → (i : ℕ) → n ≤ i → has_index shards i ≡ false
index_past n shards h i l = grind (arith, list_any_none, All-weaker, ne_eqb)

-- the indices of sound shards are below `total`
pub indices_below : (first : Shard) (shards : List Shard) → All (IsSound first) shards → All (λ s. s.index < first.total) shards
indices_below first shards h = All-weaker (IsSound first) (λ (s : Shard). s.index < first.total) (λ s sound. omega (arith, sound.0.most, sound.1)) shards h

abbrev weight : Bool → ℕ
weight b = cond b 1 0

-- items that pass a test are counted as its true answers are
count_map : {X : Type 0} (p : X → Bool) (xs : List X) → count_by p xs ≡ count_true (map p xs)
count_map p [] = refl
count_map p (x ∷ xs) =
    sum_by-cons (λ x. weight (p x)) x xs ∙ ap (λ n. weight (p x) + n) (count_map p xs) ∙ sym (sum_by-cons weight (p x) (map p xs))

-- numbers that do not pass add nothing
count_more : (p : ℕ → Bool) (n d : ℕ) → ((i : ℕ) → n ≤ i → p i ≡ false) → count_true (map p (range_with_len 0 (n + d))) ≡ count_true (map p (range_with_len 0 n))
count_more p n zero h = ap (λ m. count_true (map p (range_with_len 0 m))) (let e : n + 0 ≡ n = omega arith in e)
count_more p n (suc d) h =
    let e : n + suc d ≡ n + d + 1 = omega arith in
    let none : weight (p (n + d)) ≡ 0 = ap weight (h (n + d) (omega arith)) in
    ap (λ m. count_true (map p (range_with_len 0 m))) e
    ∙ sum_by-map-range_with_len_more weight p 0 (n + d) (n + d) (omega arith)
    ∙ omega (arith, none, count_more p n d h)

-- of n places those whose number is an index are as many as there are distinct indices
pub count_marks : (n total : ℕ) (shards : List Shard) → All (λ s. s.index < total) shards → total ≤ n → count_true (map (has_index shards) (range_with_len 0 n)) ≡ distinct_indices total shards
count_marks n total shards below fits =
    let p : ℕ → Bool = has_index shards in
    let split : total + (n - total) ≡ n = omega (arith, fits) in
    ap (λ m. count_true (map p (range_with_len 0 m))) (sym split) ∙ count_more p total (n - total) (index_past total shards below) ∙ sym (count_map p (range_with_len 0 total))

-- as many rows are filled as there are distinct indices
pub count_filled : (lg width total : ℕ) (shards : List Shard) (e : EvaluationsOf F) → HoldsShards lg width shards e → All (λ s. s.index < total) shards → total ≤ 2 ^ lg
    → count_true e.filled ≡ distinct_indices total shards
count_filled lg width total shards e h below fits =
    ap count_true (fill_by_all (has_index shards) e.filled (2 ^ lg) false h.places h.marks) ∙ count_marks (2 ^ lg) total shards below fits

-- of no shards there is no index
pub no_indices : (n : ℕ) → distinct_indices n [] ≡ 0
no_indices n =
    let p : ℕ → Bool = has_index [] in
    let all : 0 + n ≡ n = omega arith in
    count_map p (range_with_len 0 n) ∙ ap (λ m. count_true (map p (range_with_len 0 m))) (sym all) ∙ count_more p 0 n (λ i l. refl)
