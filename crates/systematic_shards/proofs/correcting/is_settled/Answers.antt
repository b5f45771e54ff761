use Rattle.std.proofs.Common.{◌∙◌, sym, subst}
use Rattle.std.proofs.lemmas.Bool.{false≢true}
use Rattle.systematic_shards.specs.Correcting.{Agrees}
use Rattle.systematic_shards.proofs.correcting.is_settled.Goals as goal

pub returns-then-not-agrees : goal.returns-then-not-agrees
returns-then-not-agrees g c = (
  λ t. absurd (false≢true t),
  λ settled.
      let other = c.other-item.result in
      let agrees = subst (Agrees g.M.WordMemory.word c.args.code.split c.args.code.mask c.args.row.now) (sym c.other-item.is) (settled.1 c.loop-other.other-index other c.loop-other-test.true) in
      sym c.if-not-agrees.true ∙ c.agrees.ensures.1 agrees,
)
