use Rattle.std.proofs.Common.{◌≡◌, ◌∙◌, ◌*◌, ◌++◌, List, length, take, drop, ap, subst, arith}
use Rattle.std.proofs.lemmas.List.{length-map}
use Rattle.math_fields.specs.declared.goldilocks.F.{F}
use Rattle.math_base.proofs.WholeWrites.{take-written}
use Rattle.math_splitting.specs.DataWords.{words_in}
use Rattle.math_splitting.specs.ShardRows.{AreCut, indices_in}
use Rattle.math_splitting.proofs.CutShards.{shards_of_cut}
use Rattle.math_splitting.proofs.LayoutNumbers.{next_of}
use Rattle.math_splitting.proofs.shards.splitting.make_shards.Goals as goal

pub write_all-requires-clause-cells : goal.write_all-requires-clause-cells
write_all-requires-clause-cells g c = grind (arith, length-map)

pub returns : goal.returns
returns g c =
    let indices = indices_in c.args.wanted in
    let layout = c.args.layout in
    let vec = c.in_ok-cells.cells in
    let new : List F = c.write_all.new.cells in
    let kept : length new ≡ length vec.items = c.write_all.auto.cells ∙ ap length c.deref_mut.ensures.value in
    let written : take vec.len (new ++ drop (length new) vec.items) ≡ new = take-written vec.len vec.items new vec.ok.0 kept in
    let cut : AreCut layout.min layout.total layout.width indices new (length indices) c.in_ok-shards.shards.items =
    subst (λ (xs : List F). AreCut layout.min layout.total layout.width indices xs (length indices) c.in_ok-shards.shards.items) (c.deref.ensures.value ∙ written) c.in_ok-shards.ensures in
    shards_of_cut (words_in g.W.Word.word c.args.source.now) layout.min layout.total layout.lg layout.width indices new c.in_ok-shards.shards.items (next_of layout) c.requires.below
    c.requires.layout.width (kept ∙ c.in_ok-cells.ensures ∙ ap (λ n. n * layout.width) c.wanted_count.ensures) c.in_ok-write_all.ensures.ok.columns cut
