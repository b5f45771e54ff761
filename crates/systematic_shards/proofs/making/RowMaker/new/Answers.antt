use Rattle.std.proofs.Common.{◌∙◌, length, ap, arith}
use Rattle.std.proofs.lemmas.List.{length-map}
use Rattle.systematic_shards.proofs.making.RowMaker.new.Goals as goal

pub new-requires-clause-some : goal.new-requires-clause-some
new-requires-clause-some g c =
    let for = c.requires in
    omega (arith, ap length for.are, length-map c.args.rows.now (λ row. row.index), for.count, c.args.code.split.some)

pub invariant_of-result : goal.invariant_of-result
invariant_of-result g c =
    let for = c.requires in
    let made = c.in_ok-interpolation.ensures in
    record { of_rows = made.indices ∙ for.are; of_total = made.total; enough = omega (arith, for.count) }
