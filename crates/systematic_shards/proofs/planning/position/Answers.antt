use Rattle.std.proofs.Common.{◌≡◌, ◌<◌, ◌≤◌, ℕ, List, length, get_or, Result, Ok, Err, MatchResult, IfNone, IfSome, sym, subst, rules}
use Rattle.std.specs.List.{Contains}
use Rattle.std.specs.Result.{result_ok}
use Rattle.std.proofs.lemmas.List.Sorted.{searched}
use Rattle.std.proofs.lemmas.Map.Keys.{non_decreasing_from_sorted, sorted_from_strictly_increasing}
use Rattle.systematic_shards.proofs.Wanted.{missing-from}
use Rattle.systematic_shards.proofs.planning.position.Goals as goal

-- what a search that found the index says of its place
place-from : (xs : List ℕ) (x : ℕ) (r : Result ℕ ℕ)
    → MatchResult r (λ i. (i < length xs) × (get_or xs i 0 ≡ x)) (λ i. (i ≤ length xs) × ((k : ℕ) → k < i → get_or xs k 0 < x) × ((k : ℕ) → i ≤ k → k < length xs → x < get_or xs k 0))
    → IfSome (result_ok r) (λ p. (p < length xs) × (get_or xs p 0 ≡ x))
place-from xs x (Ok i) h = h
place-from xs x (Err i) h = search rules

pub returns-clause-some : goal.returns-clause-some
returns-clause-some c =
    let indices : List ℕ = c.args.indices.now in
    subst (λ o. IfSome o (λ p. (p < length indices) × (get_or indices p 0 ≡ c.args.index))) (sym c.ok.ensures.value)
    (place-from indices c.args.index c.binary_search.result
    (searched indices c.args.index c.binary_search.result c.binary_search.ensures.position
    (λ i j a b. non_decreasing_from_sorted indices (sorted_from_strictly_increasing indices c.requires) i j 0 a b)))

pub returns-clause-none : goal.returns-clause-none
returns-clause-none c =
    let indices = c.args.indices.now in
    subst (λ o. IfNone o (¬ (Contains indices c.args.index))) (sym c.ok.ensures.value)
    (missing-from indices c.args.index c.binary_search.result
    (searched indices c.args.index c.binary_search.result c.binary_search.ensures.position
    (λ i j a b. non_decreasing_from_sorted indices (sorted_from_strictly_increasing indices c.requires) i j 0 a b)))
