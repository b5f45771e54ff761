use Rattle.std.proofs.Common.{◌+◌, ◌*◌}
use Rattle.systematic_shards.proofs.Bytes.{within-room}
use Rattle.systematic_shards.proofs.planning.is_row_within.Goals as goal

pub loop-k-init : goal.loop-k-init
loop-k-init g c = λ i l m. within-room c.args.size (c.args.place * c.args.width + i) (g.M.WordMemory.word c.args.cells.now i) (c.first_past-k.ensures i l) (c.requires.words i m)
