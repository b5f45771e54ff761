use Rattle.std.proofs.Common.{◌∙◌, arith}
use Rattle.math_shards.proofs.UnitRows.{units-more, units-none}
use Rattle.math_shards.proofs.shards.weighing.write_units.Goals as goal

pub loop-i-init : goal.loop-i-init
loop-i-init c = units-none c.args.n _ c.from.result c.fill.new.self c.from.ensures (c.fill.ensures.after (λ y e. e))

pub loop-i-preserved : goal.loop-i-preserved
loop-i-preserved c =
    units-more c.args.n c.loop-i.i c.from-in-loop-i.result c.loop-i.cells (c.loop-i.auto.cells ∙ c.fill.ensures.len ∙ c.requires) (omega arith) c.from-in-loop-i.ensures c.loop-i.invariant
