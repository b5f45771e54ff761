use Rattle.std.proofs.Common.{ℕ, List, inl, inr, ◌∙◌, arith}
use Rattle.std.proofs.lemmas.Bool.{cases_lt}
use Rattle.std.proofs.lemmas.List.{get_or_default}
use Rattle.std.proofs.lemmas.List.Sorted.{searched}
use Rattle.std.proofs.lemmas.Map.Keys.{non_decreasing_from_sorted, sorted_from_strictly_increasing}
use Rattle.math_shards.proofs.shards.distinct.place_of.Goals as goal

pub unreachable-requires : goal.unreachable-requires
unreachable-requires c =
    let indices : List ℕ = c.args.indices.now in
    let found =
    searched indices c.args.index c.binary_search.result c.binary_search.ensures.position
    (λ i j a b. non_decreasing_from_sorted indices (sorted_from_strictly_increasing indices c.requires.rising) i j 0 a b) in
    let none = rw c.in_default.is at found in
    let there = c.requires.there in
    let is = get_or_default indices there.0 0 c.args.index there.1 ∙ there.2 in
    elim (cases_lt there.0 c.in_default.field-0) as (λ _. ⊥) [
      | inl before ↦ omega (arith, is, none.1 there.0 before)
      | inr after ↦ omega (arith, is, none.2 there.0 after there.1)
    ]
