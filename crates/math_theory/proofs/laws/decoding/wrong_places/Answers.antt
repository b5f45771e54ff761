use Rattle.math_theory.proofs.decoding.Decoding.{decoding-few}
use Rattle.math_theory.proofs.laws.decoding.wrong_places.Goals as goal

pub returns : goal.returns
returns g c = λ F. decoding-few F
