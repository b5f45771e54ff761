use Rattle.std.proofs.Common.{◌≡◌, ◌∙◌, ◌*◌, ◌<◌, ℕ, List, length, map, sym, ap, subst, arith}
use Rattle.math_fields.specs.declared.goldilocks.F.{F}
use Rattle.math_shards.specs.Fitting.{AreCoefficientsOf}
use Rattle.math_restoring.specs.Restored.{HaveCellsAsValues}
use Rattle.math_shards.proofs.ChosenRows.{below-kept, chosen_among, chosen_count}
use Rattle.math_shards.proofs.PutCoefficients.{written-back}
use Rattle.math_shards.proofs.RestoredRows.{enough_distinct, few_distinct, only_of_rows, values_of_rows}
use Rattle.math_shards.proofs.shards.restoring.coefficients.Goals as goal

pub put_coefficients-requires-clause-indices : goal.put_coefficients-requires-clause-indices
put_coefficients-requires-clause-indices g c =
    let indices : List ℕ = c.in_ok-indices.indices.items in
    let chosen = c.in_ok-indices.ensures.rows in
    rw c.deref.ensures.value record {
      many = omega (arith, c.in_ok-indices.ensures.few, c.if-len-layout.false, c.len.ensures, c.in_ok-indices.indices.ok.0);
      below = below-kept g.R.Row.index c.args.layout.total c.args.rows.now indices c.requires.below (chosen_among g.R.Row.index g.R.Row.cells c.args.rows.now indices c.in_ok-indices.cells.items chosen);
      distinct = chosen.distinct;
    }

pub put_coefficients-requires-clause-size : goal.put_coefficients-requires-clause-size
put_coefficients-requires-clause-size g c = grind (arith, chosen_count)

pub returns-then-len-layout-clause-few : goal.returns-then-len-layout-clause-few
returns-then-len-layout-clause-few g c =
    let few : length c.in_ok-indices.indices.items < c.args.layout.min = omega (arith, c.if-len-layout.true, c.len.ensures, c.in_ok-indices.indices.ok.0) in
    few_distinct g.R.Row.index c.args.layout.min c.args.layout.total c.args.rows.now c.in_ok-indices.indices.items few (c.in_ok-indices.ensures.all few)

-- the coefficients that are answered are those that were put over the cells
pub returns-clause-some : goal.returns-clause-some
returns-clause-some g c =
    let layout = c.args.layout in
    let min = layout.min in
    let width = layout.width in
    let index = g.R.Row.index in
    let cells = g.R.Row.cells in
    let rows = c.args.rows.now in
    let indices : List ℕ = c.in_ok-indices.indices.items in
    let chosen = c.in_ok-indices.ensures.rows in
    let room = c.in_ok-indices.cells in
    let old : List F = room.items in
    let new : List F = c.put_coefficients.new.cells in
    let many : length indices ≡ min = omega (arith, c.in_ok-indices.ensures.few, c.if-len-layout.false, c.len.ensures, c.in_ok-indices.indices.ok.0) in
    let among = chosen_among index cells rows indices old chosen in
    let long : length new ≡ room.len = c.put_coefficients.auto.cells ∙ ap length c.deref_mut.ensures.value ∙ sym room.ok.0 in
    let have : HaveCellsAsValues layout.lg indices width old new =
    subst (λ (xs : List ℕ). HaveCellsAsValues layout.lg xs width old new) c.deref.ensures.value
    (subst (λ (xs : List F). HaveCellsAsValues layout.lg c.deref.result.now width xs new) c.deref_mut.ensures.value c.in_ok-put_coefficients.ensures) in
    let whole : length new ≡ min * width = long ∙ room.ok.0 ∙ chosen_count index cells width rows indices old c.requires.count chosen ∙ ap (λ n. n * width) many in
    subst (AreCoefficientsOf index cells layout rows) (sym (written-back room.len new old long (sym room.ok.0))) record {
      size = whole;
      enough = enough_distinct min layout.total indices (map index rows) many chosen.distinct (below-kept index layout.total rows indices c.requires.below among) among;
      values = values_of_rows index cells min width layout.lg rows indices old new many c.requires.count chosen have;
      only = λ m. only_of_rows index cells min width layout.lg rows indices old new m layout.domain many c.requires.count
          (λ k d l. omega (arith, c.requires.below k d l, layout.points)) chosen whole have;
    }
