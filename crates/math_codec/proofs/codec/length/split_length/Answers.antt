use Rattle.std.proofs.Common.{arith}
use Rattle.math_codec.proofs.LengthScan.{given_taken}
use Rattle.math_codec.proofs.codec.length.split_length.Goals as goal

pub returns-clause-taken : goal.returns-clause-taken
returns-clause-taken c = given_taken (λ x. x.0) (λ x. x.1.now) c.args.bytes.now c.scan_length.result (λ i. omega (arith, c.type_inv.bytes i)) c.scan_length.ensures.exact
