use Rattle.math_codec.proofs.LengthScan.{all_bytes, length_begins, read_where_spelled}
use Rattle.math_codec.proofs.laws.length_is_read_where_it_is_spelled.Goals as goal

pub returns : goal.returns
returns c = λ n bytes rest fits. (λ e. let h = length_begins bytes n rest (all_bytes bytes fits) e in (h.spelling, h.spells, h.parts), λ h. read_where_spelled n bytes rest h.0 h.1 h.2)
