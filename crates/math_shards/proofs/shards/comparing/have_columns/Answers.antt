use Rattle.std.proofs.Common.{◌≡◌, ◌↔◌, ◌∙◌, ◌+◌, ◌-◌, ◌%◌, ◌<◌, ◌^◌, get_or, sym, ap, subst, arith}
use Rattle.std.specs.List.{All}
use Rattle.std.proofs.lemmas.Bool.{false≢true}
use Rattle.std.proofs.lemmas.Nat.{shr_below}
use Rattle.math_fields.specs.Elements.{number, product, root_of}
use Rattle.math_shards.specs.Cosets.{HasCosetCells, HasValuesFrom, coefficients_of}
use Rattle.math_shards.proofs.CosetRows.{coset-more, coset-valued}
use Rattle.math_shards.proofs.CosetSizes.{row_fits}
use Rattle.math_shards.proofs.RootPowers.{raised-more, raised-none, root_is}
use Rattle.math_shards.proofs.shards.comparing.have_columns.Given as given
use Rattle.math_shards.proofs.shards.comparing.have_columns.Goals as goal
use Rattle.math_shards.proofs.shards.comparing.have_columns.Goals.{After-write_coset}

-- a row of a coset lies among its cells
pub have_coset-requires-clause-rows : goal.have_coset-requires-clause-rows
have_coset-requires-clause-rows g c = λ k d l.
    let strip = c.args.columns.strip in
    let lg = c.args.lg in
    let total = strip.layout.lg in
    let all : total ≡ lg + (total - lg) = omega (arith, c.requires.part) in
    let index = g.R.Row.index (get_or c.args.rows.now k d) in
    let below : index < 2 ^ total = omega (arith, c.requires.rows.below k d l, strip.layout.points) in
    row_fits (2 ^ lg) strip.cols _ _ (c.write_coset.auto.cells ∙ c.loop-start.auto.cells ∙ c.requires.size)
    (shr_below index lg (total - lg) (subst (λ n. index < 2 ^ n) all below))

-- the rows of this coset have its cells exactly where they have the values
valued : (g : given.Over) (c : After-write_coset g)
    → All (λ row. HasCosetCells c.write_coset.new.cells c.args.columns.strip.cols c.args.columns.strip.from c.loop-start.start (c.args.columns.strip.layout.lg - c.args.lg) (g.R.Row.index row) (g.R.Row.cells row))
    c.args.rows.now
    ↔ All (λ row. g.R.Row.index row % 2 ^ (c.args.columns.strip.layout.lg - c.args.lg) ≡ c.loop-start.start
    → HasValuesFrom c.args.columns.strip.layout.lg (coefficients_of c.args.columns) c.args.columns.strip.from c.args.columns.strip.cols (g.R.Row.index row) (g.R.Row.cells row)) c.args.rows.now
valued g c =
    let strip = c.args.columns.strip in
    let lg = c.args.lg in
    let total = strip.layout.lg in
    coset-valued g.R.Row.index g.R.Row.cells c.args.rows.now lg (total - lg) total c.loop-start.start (coefficients_of c.args.columns) strip.from strip.cols c.loop-start.ratio
    c.write_coset.new.cells (omega (arith, c.requires.part)) strip.layout.domain c.loop-start.invariant.ratio (c.write_coset.auto.cells ∙ c.loop-start.auto.cells ∙ c.requires.size) c.write_coset.ensures
    (λ k d l. omega (arith, c.requires.rows.below k d l, strip.layout.points)) (λ k d l. omega (arith, strip.inside, c.requires.rows.count k d l))

pub loop-start-init : goal.loop-start-init
loop-start-init g c = grind (arith, raised-none)

pub loop-start-preserved : goal.loop-start-preserved
loop-start-preserved g c =
    let strip = c.args.columns.strip in
    let layout = strip.layout in
    let start = c.loop-start.start in
    let ratio = c.loop-start.ratio in
    record {
      ratio = c.mul-ratio.ensures ∙ ap (λ w. number (product ratio w)) (root_is c.in-Some.root layout.lg c.in-Some.ensures.value)
          ∙ raised-more (root_of layout.lg) ratio start c.loop-start.invariant.ratio;
      values = coset-more g.R.Row.index g.R.Row.cells c.args.rows.now (layout.lg - c.args.lg) layout.lg start (coefficients_of c.args.columns) strip.from strip.cols
          ((valued g (goal.at.loop-start-preserved g c).After-write_coset).0 (c.have_coset.ensures.0 c.if-not-have_coset.false)) c.loop-start.invariant.values;
    }

pub returns-then-not-have_coset : goal.returns-then-not-have_coset
returns-then-not-have_coset g c = (
  λ e. absurd (false≢true e),
  λ h. absurd (false≢true (sym c.if-not-have_coset.true ∙ c.have_coset.ensures.1 ((valued g (goal.at.returns-then-not-have_coset g c).After-write_coset).1 (λ k d l here. h k d l)))),
)
