use Rattle.std.proofs.Common.{◌∙◌, ℕ, Bool, List, ap, get_or, subst, sym, take}
use Rattle.std.specs.List.{count_by}
use Rattle.std.proofs.lemmas.List.{take_all, take_more}
use Rattle.shard_format.proofs.MarkedIndices.{AreMarks, marks_counted, marks_more}
use Rattle.shard_format.proofs.indices.count_distinct.Goals as goal

pub loop-index-preserved : goal.loop-index-preserved
loop-index-preserved c =
    let indices = c.args.indices.now in
    let k = c.loop-index.index-index in
    subst (λ (s : List ℕ). AreMarks c.args.total s c.set_mark.new.marks.items) (sym (take_more indices k 0 c.loop-index-test.true))
    (marks_more c.args.total (take k indices) (get_or indices k 0) c.loop-index.marks.items c.set_mark.new.marks.items c.loop-index.invariant c.set_mark.ensures.count c.set_mark.ensures.places)

pub returns : goal.returns
returns c =
    let indices = c.args.indices.now in
    let marks = c.loop-index.marks.items in
    let all : AreMarks c.args.total indices marks =
    subst (λ (s : List ℕ). AreMarks c.args.total s marks) (take_all c.loop-index.index-index indices c.loop-index-test.false) c.loop-index.invariant in
    c.count_set.ensures ∙ ap (λ (s : List Bool). count_by (λ mark. mark) s) c.deref.ensures.value ∙ marks_counted c.args.total indices marks all
