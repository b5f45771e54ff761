use Rattle.std.proofs.Common.{◌≡◌, ◌∙◌, ◌+◌, ◌-◌, ◌≤◌, ◌++◌, arith}
use Rattle.std.proofs.lemmas.List.{drop-drop, drop-map, length-map, map-append, take-map, take-append-drop}
use Rattle.std.proofs.lemmas.Slice.{take-put_mid, drop-put_mid}
use Rattle.math_splitting.proofs.shards.destinations.FRoom.write.Goals as goal

pub returns-clause-written : goal.returns-clause-written
returns-clause-written c = grind (arith, length-map, take-put_mid, drop-put_mid, take-append-drop, drop-map, drop-drop, map-append, take-map)
