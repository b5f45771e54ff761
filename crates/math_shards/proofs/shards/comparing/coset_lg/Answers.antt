use Rattle.std.proofs.Common.{◌≤◌, ◌^◌, arith}
use Rattle.std.proofs.Math.Pow.{pow_mono}
use Rattle.math_shards.proofs.shards.comparing.coset_lg.Goals as goal

pub returns-clause-enough : goal.returns-clause-enough
returns-clause-enough c = grind (arith, pow_mono)
