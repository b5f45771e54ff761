use Rattle.math_codec.proofs.LengthFaults.{end_met, length_ends, two_faults}
use Rattle.math_codec.proofs.laws.length_ends_where_each_byte_is_marked.Goals as goal

pub returns-clause-ends : goal.returns-clause-ends
returns-clause-ends c = λ bytes. (end_met bytes, λ h. length_ends bytes h.0 h.1)

pub returns-clause-others : goal.returns-clause-others
returns-clause-others c = two_faults
