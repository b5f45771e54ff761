use Rattle.math_theory.proofs.recovery.Recovery as Recovery
use Rattle.math_theory.proofs.laws.recovery.division.Goals as goal

pub returns : goal.returns
returns g c = λ F points p q v d l m n h. Recovery.division F points p q v d l m n h
