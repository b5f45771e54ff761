use Rattle.std.proofs.Common.{◌≡◌, ◌∙◌, ◌*◌, ◌≤◌, List, length, take, sym, ap, subst, arith}
use Rattle.std.proofs.lemmas.List.{length-take-le}
use Rattle.std.proofs.lemmas.Nat.{mul-le}
use Rattle.math_fields.specs.declared.goldilocks.F.{F}
use Rattle.math_shards.specs.Fitting.{AreDataOf}
use Rattle.math_shards.proofs.JoinedRows.{width_of_data}
use Rattle.math_shards.proofs.ShardRows.{cells_of_recovered, polynomials_of_rows}
use Rattle.math_shards.proofs.shards.correcting.data_of.Goals as goal

pub data_count-requires-clause-size : goal.data_count-requires-clause-size
data_count-requires-clause-size c = grind (arith, mul-le, length-take-le)

pub returns-in_default-clause-none : goal.returns-in_default-clause-none
returns-in_default-clause-none c = grind (arith, cells_of_recovered)

pub returns-clause-some : goal.returns-clause-some
returns-clause-some c =
    let q = c.args.polynomials.now in
    let min = c.args.min in
    let width = c.args.width in
    let found = rw c.in-Some.is at c.data_count.ensures.some in
    let front : c.deref.result.now ≡ take (min * width) q.cells = c.deref.ensures.value ∙ c.in_ok-elements.ensures ∙ ap (λ w. take (min * w) q.cells) c.requires.size.1 in
    let all : min * width ≤ q.rows * width = mul-le min width q.rows width c.requires.rows (omega arith) in
    let size : length c.deref.result.now ≡ min * width = ap length front ∙ length-take-le (min * width) q.cells (omega (arith, all, c.requires.size.2)) in (
      found.0,
      record { count = sym found.1; min = min; elements = subst (λ (xs : List F). AreDataOf found.0 min xs) c.deref.ensures.value found.2 },
      polynomials_of_rows found.0 min q.rows width q c.requires.some c.requires.rows c.requires.size (width_of_data found.0 min width c.deref.result.now c.requires.some size found.2)
          (sym front ∙ found.2.packed) c.requires.short,
    )
