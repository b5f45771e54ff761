use Rattle.commonware_math.specs.SyntheticTerms.{IsIndexEnd}
use Rattle.commonware_math.proofs.FreeTerms.{popped_first, popped_second}
use Rattle.commonware_math.proofs.synthetic.merging.pop_greatest.Goals as goal

pub returns-then-other_end-end-clause-some : goal.returns-then-other_end-end-clause-some
returns-then-other_end-end-clause-some g c =
    let a : IsIndexEnd c.args.a.now.items c.index_end-end.result = rw c.deref.ensures.value at c.index_end-end.ensures in
    let b : IsIndexEnd c.args.b.now.items c.index_end-other_end.result = rw c.deref-2.ensures.value at c.index_end-other_end.ensures in
    popped_first g.F.Object.same g.F.Additive.sum _ _ _ _ _ c.requires.second a b c.if-other_end-end.true c.pop.result c.pop.ensures.items

pub returns-then-end-other_end-clause-some : goal.returns-then-end-other_end-clause-some
returns-then-end-other_end-clause-some g c =
    let a : IsIndexEnd c.args.a.now.items c.index_end-end.result = rw c.deref.ensures.value at c.index_end-end.ensures in
    let b : IsIndexEnd c.args.b.now.items c.index_end-other_end.result = rw c.deref-2.ensures.value at c.index_end-other_end.ensures in
    popped_second g.F.Object.same g.F.Additive.sum _ _ _ _ _ c.requires.first b a c.if-end-other_end.true c.pop-then-end-other_end.result c.pop-then-end-other_end.ensures.items
