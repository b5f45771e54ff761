use Rattle.std.proofs.Common.{inl, refl, arith}
use Rattle.commonware_math.proofs.GeneratorRuns.{generators_in_order}
use Rattle.commonware_math.proofs.synthetic.Synthetic.generators.Goals as goal

pub returns : goal.returns
returns g c items last rest run = generators_in_order _ _ (λ s. s.next_index) 0 _ (inl (omega arith, refl)) items last rest run
