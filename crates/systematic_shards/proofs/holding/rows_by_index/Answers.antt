use Rattle.std.proofs.Common.{rules}
use Rattle.std.proofs.lemmas.List.Sorted.{IsNonDecreasingBy-from_sort, answers_always}
use Rattle.systematic_shards.specs.declared.rows.Row.{Row}
use Rattle.systematic_shards.proofs.holding.rows_by_index.Goals as goal

pub returns-clause-rising : goal.returns-clause-rising
returns-clause-rising g c =
    IsNonDecreasingBy-from_sort (λ (row : Row g.row.M.Denot). row.index) _ (c.sort_unstable_by_key.ensures.sorted (λ row. row.index) (answers_always _ _ _ (λ f a r h k. search rules)))
