use Rattle.std.proofs.Common.{◌≡◌, ◌∙◌, arith}
use Rattle.math_shards.proofs.shards.joining.put_places.Goals as goal

pub loop-i-init : goal.loop-i-init
loop-i-init g c = grind arith

pub returns-clause-equal : goal.returns-clause-equal
returns-clause-equal g c = grind arith
