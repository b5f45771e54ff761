use Rattle.math_theory.proofs.decoding.Decoding.{decoding-once}
use Rattle.math_theory.proofs.laws.decoding.decoding_once.Goals as goal

pub returns : goal.returns
returns g c = λ F. decoding-once F
