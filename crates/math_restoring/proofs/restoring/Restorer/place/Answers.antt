use Rattle.std.proofs.Common.{◌≡◌, ◌<◌, length, get_or, arith}
use Rattle.std.proofs.lemmas.List.{get_or_read}
use Rattle.math_restoring.proofs.PlacesOfRestorers.{place-inside}
use Rattle.math_restoring.proofs.restoring.Restorer.place.Goals as goal

pub returns-clause-inside : goal.returns-clause-inside
returns-clause-inside c =
    let r = c.args.self.now in
    let here : c.args.t < length r.places.items = omega (arith, c.requires, r.are_places.count) in
    let is : c.index.result.now ≡ get_or r.places.items c.args.t 0 = get_or_read r.places.items c.args.t c.index.result.now here c.index.ensures 0 in
    omega (arith, place-inside r c.args.t c.requires, is)
