use Rattle.std.proofs.Common.{◌≡◌, ◌∙◌, ℕ, ◌<◌, length, get_or, ap, arith}
use Rattle.std.proofs.lemmas.List.{get_or_read}
use Rattle.math_restoring.specs.declared.restoring.Restorer.{Restorer}
use Rattle.math_restoring.proofs.CombinedColumns.{nought}
use Rattle.math_restoring.proofs.PlacesOfRestorers.{place-inside}
use Rattle.math_restoring.proofs.restoring.Restorer.factor.Goals as goal

-- the place that is read
place : (r : Restorer) (t p : ℕ) → t < length r.indices.items → p ≡ get_or r.places.items t p → p ≡ get_or r.places.items t 0
place r t p l is = get_or_read r.places.items t p (omega (arith, l, r.are_places.count)) is 0

pub index-requires-2 : goal.index-requires-2
index-requires-2 c =
    let r = c.args.self.now in
    omega (arith, place-inside r c.args.t c.requires, place r c.args.t c.index.result.now c.requires c.index.ensures, r.tables.factor_count, r.division.factors.ok.0)

pub returns : goal.returns
returns c =
    let r = c.args.self.now in
    let factors = r.division.factors.items in
    let is = place r c.args.t c.index.result.now c.requires c.index.ensures in
    let here : c.index.result.now < length factors = omega (arith, place-inside r c.args.t c.requires, is, r.tables.factor_count) in
    get_or_read factors c.index.result.now c.index-2.result.now here c.index-2.ensures nought ∙ ap (λ p. get_or factors p nought) is
