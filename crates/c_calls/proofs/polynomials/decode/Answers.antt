use Rattle.std.proofs.Common.{◌++◌, arith}
use Rattle.std.proofs.lemmas.List.{length-take-le}
use Rattle.c_calls.proofs.WrittenWords.{length-bytes}
use Rattle.c_calls.proofs.polynomials.decode.Goals as goal

pub returns-then-n-out-clause-written : goal.returns-then-n-out-clause-written
returns-then-n-out-clause-written c = grind arith

pub read_words-requires : goal.read_words-requires
read_words-requires c = grind (arith, length-bytes, length-take-le)

pub returns-clause-written : goal.returns-clause-written
returns-clause-written c = grind arith
