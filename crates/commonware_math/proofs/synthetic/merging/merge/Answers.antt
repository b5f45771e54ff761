use Rattle.std.proofs.Common.{◌≡◌, []}
use Rattle.std.proofs.lemmas.List.{reverse-append}
use Rattle.commonware_math.proofs.FreeTerms.{popped_shorter, merging_begins, merging_continues, merging_ends}
use Rattle.commonware_math.proofs.synthetic.merging.merge.Goals as goal

pub loop-out-init : goal.loop-out-init
loop-out-init g c = rw c.new-out.ensures.items (merging_begins g.met.F.Object.equality g.met.F.Additive.group _ _ c.requires.first c.requires.second)

pub pop_greatest-requires-clause-first : goal.pop_greatest-requires-clause-first
pop_greatest-requires-clause-first g c = c.loop-out.invariant.first

pub pop_greatest-requires-clause-second : goal.pop_greatest-requires-clause-second
pop_greatest-requires-clause-second g c = c.loop-out.invariant.second

pub loop-out-smaller : goal.loop-out-smaller
loop-out-smaller g c = let popped = rw c.in-Some.is at c.in_ok-term.ensures.some in
    popped_shorter g.F.Object.same g.F.Additive.sum _ _ _ _ c.in-Some.term popped

pub loop-out-preserved : goal.loop-out-preserved
loop-out-preserved g c =
    let popped = rw c.in-Some.is at c.in_ok-term.ensures.some in
    rw (c.in_ok-push.ensures.items, reverse-append)
    (merging_continues g.met.F.Object.equality g.met.F.Additive.group _ _ _ _ _ _ _ c.in-Some.term c.loop-out.invariant popped)

pub returns : goal.returns
returns g c =
    let none : (c.loop-out.left.items ≡ []) × (c.loop-out.right.items ≡ []) = rw c.in_default.is at c.in_ok-term.ensures.none in
    let whole = merging_ends g.met.F.Object.equality g.met.F.Additive.group _ _ _ _ _ _ none c.reverse.ensures.items c.loop-out.invariant in
    record { indices = whole.0; weights = whole.1 }
