use Rattle.math_theory.proofs.rings.CongruenceLaws.{congruence, congruence_group, congruence_product, congruence_ring, congruence_field}
use Rattle.math_theory.proofs.laws.residues.residues_are_ring.Goals as goal

pub returns-clause-equality : goal.returns-clause-equality
returns-clause-equality c = congruence

pub returns-clause-group : goal.returns-clause-group
returns-clause-group c = congruence_group

pub returns-clause-commutes : goal.returns-clause-commutes
returns-clause-commutes c = congruence_product

pub returns-clause-ring : goal.returns-clause-ring
returns-clause-ring c = congruence_ring

pub returns-clause-field : goal.returns-clause-field
returns-clause-field c = congruence_field
