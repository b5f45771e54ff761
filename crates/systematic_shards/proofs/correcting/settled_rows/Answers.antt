use Rattle.std.proofs.Common.{◌∙◌, ◌*◌, ◌^◌, ap, inr, refl, sym, subst, arith}
use Rattle.std.specs.List.{All}
use Rattle.math_transforms.specs.Matrices.{IsOfSize}
use Rattle.systematic_shards.specs.Correcting.{AreMarked, HasCells, IsSettled}
use Rattle.systematic_shards.proofs.Settled.{settled-few, settled-many}
use Rattle.systematic_shards.proofs.correcting.settled_rows.Goals as goal

pub settled_points-requires-clause-below : goal.settled_points-requires-clause-below
settled_points-requires-clause-below g c = λ k d l. let sound = c.requires k d l in omega (arith, sound.1, c.lg_above-lg.ensures.value.1)

pub settled_cells-requires-clause-below : goal.settled_cells-requires-clause-below
settled_cells-requires-clause-below g c = λ k d l. let sound = c.requires k d l in omega (arith, sound.1, c.lg_above-lg.ensures.value.1)

pub from_cells-matrix-requires : goal.from_cells-matrix-requires
from_cells-matrix-requires g c = c.in_ok-cells.ensures.count ∙ ap (λ n. n * c.args.code.split.width) (sym c.size_of.ensures)

pub from_parts-requires-clause-power : goal.from_parts-requires-clause-power
from_parts-requires-clause-power g c = (c.lg_above-lg.result, c.from_cells-matrix.ensures.size.0 ∙ c.size_of.ensures)

pub from_parts-requires-clause-count : goal.from_parts-requires-clause-count
from_parts-requires-clause-count g c = c.in_ok-points.ensures.size ∙ sym (c.from_cells-matrix.ensures.size.0 ∙ c.size_of.ensures)

pub returns-then-count_non_vanishing-code-clause-err : goal.returns-then-count_non_vanishing-code-clause-err
returns-then-count_non_vanishing-code-clause-err g c =
    let code = c.args.code in
    inr (
      refl,
      λ settled.
          let few = settled-few g.M.WordMemory.word code.split code.mask c.args.rows.now code.split.min (2 ^ c.lg_above-lg.result) c.in_ok-points.points c.in_ok-points.ensures settled in
          omega (arith, few, c.count_non_vanishing.ensures, c.if-count_non_vanishing-code.true),
    )

pub returns-clause-ok : goal.returns-clause-ok
returns-clause-ok g c =
    let word = g.M.WordMemory.word in
    let split = c.args.code.split in
    let mask = c.args.code.mask in
    let rows = c.args.rows.now in
    let lg = c.lg_above-lg.result in
    let matrix = c.from_parts.ensures.matrix in
    record {
      lg = lg;
      next = c.lg_above-lg.ensures.value;
      size = subst (λ m. IsOfSize m (2 ^ lg) split.width) (sym matrix) (subst (λ n. IsOfSize c.from_cells-matrix.result n split.width) c.size_of.ensures c.from_cells-matrix.ensures.size);
      marked = subst (AreMarked word split mask rows (2 ^ lg)) (sym c.from_parts.ensures.filled) c.in_ok-points.ensures;
      cells =
          subst (λ xs. All (λ row. IsSettled word split mask rows row → HasCells word split mask xs row) rows) (sym (ap (λ m. m.cells) matrix ∙ c.from_cells-matrix.ensures.cells))
          c.in_ok-cells.ensures.cells;
    }

pub returns-clause-enough : goal.returns-clause-enough
returns-clause-enough g c =
    let code = c.args.code in
    settled-many g.M.WordMemory.word code.split code.mask c.args.rows.now code.split.min (2 ^ c.lg_above-lg.result) c.in_ok-points.points (λ k d l. (c.requires k d l).1) c.in_ok-points.ensures
    (omega (arith, c.count_non_vanishing.ensures, c.if-count_non_vanishing-code.false))
