use Rattle.std.proofs.Common.{◌≡◌, ◌∙◌, ◌*◌, [], length, refl, ap, subst, arith}
use Rattle.std.specs.Global.{Vec}
use Rattle.std.specs.Ptr.{as_ptr}
use Rattle.math_fields.specs.declared.goldilocks.F.{F}
use Rattle.math_splitting.specs.DataWords.{words_in}
use Rattle.math_splitting.specs.Shards.{width_for}
use Rattle.math_splitting.specs.ShardRows.{HaveColumns, indices_in}
use Rattle.math_splitting.proofs.LayoutNumbers.{next_of}
use Rattle.math_splitting.proofs.StripSizes.{short_rows}
use Rattle.math_splitting.proofs.WrittenColumns.{rows_of_columns}
use Rattle.math_splitting.proofs.shards.splitting.write_shards.Goals as goal

pub returns-clause-ok : goal.returns-clause-ok
returns-clause-ok g c =
    let words = words_in g.W.Word.word c.args.source.now in
    let indices = indices_in c.args.wanted in
    let layout = c.args.layout in
    let new = g.R.Room.words c.write_all.new.cells in
    let none : Vec F = record { ptr = as_ptr c.args.source; len = 0; cap = 0; alloc = c.args.alloc; items = []; ok = (refl, omega arith); small = omega arith } in
    let are = c.in_ok-write_all.ensures.ok in
    let wide : layout.width ≡ width_for layout.min words = c.requires.layout.width in
    rows_of_columns none words layout.min layout.total layout.lg (short_rows layout.min words layout.some c.requires.layout.few) (next_of layout) indices new c.requires.below
    (are.size ∙ ap (λ n. length indices * n) wide) (subst (λ w. HaveColumns words layout.min layout.lg w indices w new) wide are.columns)
