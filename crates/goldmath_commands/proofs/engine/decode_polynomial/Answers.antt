use Rattle.goldmath_commands.proofs.EncodedPolynomials.{encoded-admitted_by}
use Rattle.goldmath_commands.proofs.engine.decode_polynomial.Goals as goal

pub returns-clause-encoded : goal.returns-clause-encoded
returns-clause-encoded c = λ p h. c.decode.ensures.again p (encoded-admitted_by c.at_most.result c.at_most.ensures.low c.at_most.ensures.high c.args.bytes.now p h) h.spelled
