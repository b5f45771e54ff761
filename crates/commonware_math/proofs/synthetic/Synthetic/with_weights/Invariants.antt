use Rattle.std.proofs.Common.{◌≡◌, length, take, Ok}
use Rattle.std.specs.Fn.{FnReturnsAt}
use Rattle.commonware_math.proofs.WeightMaps.{AreTermsUnder, ArePairsUnder}
use Rattle.commonware_math.proofs.synthetic.Synthetic.with_weights.Given as goal

-- the free terms so far, with f's answers as weights
abbrev pub invariant-loop-term : goal.invariant-loop-term
invariant-loop-term g l = record {
  count : length l.free.items ≡ l.term-index;
  each : AreTermsUnder (λ w x. FnReturnsAt g.A.Fn l.f w (Ok x)) (take l.term-index l.term-items) l.free.items;
}

-- the points so far, with f's answers as weights
abbrev pub invariant-loop-term-2 : goal.invariant-loop-term-2
invariant-loop-term-2 g l = record {
  count : length l.concrete.items ≡ l.term-index;
  each : ArePairsUnder (λ w x. FnReturnsAt g.A.Fn l.f w (Ok x)) g.G.Object.same (take l.term-index l.term-items) l.concrete.items;
}
