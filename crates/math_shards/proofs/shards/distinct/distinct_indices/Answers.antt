use Rattle.std.proofs.Common.{◌≡◌, ◌∙◌, map, sym, ap, subst, arith, Contains, ℕ, List}
use Rattle.std.proofs.lemmas.List.{take_all}
use Rattle.math_shards.proofs.shards.distinct.distinct_indices.Goals as goal

pub returns-clause-exactly : goal.returns-clause-exactly
returns-clause-exactly g c = λ i.
    let rows = c.args.rows.now in
    let all : c.loop-row.indices.items ≡ map g.R.Row.index rows = c.loop-row.invariant ∙ ap (map g.R.Row.index) (take_all c.loop-row.row-index rows (omega (arith, c.loop-row-test.false))) in
    let exactly = c.distinct.ensures.exactly i in (
      λ there. subst (λ (xs : List ℕ). Contains xs i) all (exactly.0 there),
      λ there. exactly.1 (subst (λ (xs : List ℕ). Contains xs i) (sym all) there),
    )
