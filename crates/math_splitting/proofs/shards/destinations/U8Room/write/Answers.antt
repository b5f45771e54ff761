use Rattle.std.proofs.Common.{◌≡◌, ◌∙◌, ◌++◌, arith}
use Rattle.std.proofs.lemmas.List.{length-map}
use Rattle.math_splitting.proofs.SpelledWords.{behind-written, length-spelled, numbers_fit, spelled-written}
use Rattle.math_splitting.proofs.shards.destinations.U8Room.write.Goals as goal

pub write_bytes-requires : goal.write_bytes-requires
write_bytes-requires c = omega (arith, length-spelled c.args.room.now, c.requires)

pub returns-clause-rest : goal.returns-clause-rest
returns-clause-rest c = grind (arith, length-map, behind-written)

pub returns-clause-written : goal.returns-clause-written
returns-clause-written c = grind (arith, length-map, spelled-written, numbers_fit)
