use Rattle.std.proofs.Common.{◌∙◌, ◌+◌, ◌++◌, ◌∷◌, [], ap, get_or, sym, subst}
use Rattle.std.specs.List.{Contains}
use Rattle.std.proofs.lemmas.List.{get_or_default}
use Rattle.systematic_shards.specs.Wanted.{AreLost}
use Rattle.systematic_shards.proofs.Wanted.{lost-held, lost-more}
use Rattle.systematic_shards.proofs.planning.push_if_lost.Goals as goal

pub returns-in-Some : goal.returns-in-Some
returns-in-Some c = λ wanted is h.
    let indices = c.args.indices.now in
    let found = c.in-Some.ensures.some in
    let p = c.in-Some.field-0 in
    lost-held indices wanted c.args.place c.args.lost.now.indices.items c.args.lost.now.places.items
    (p, found.0, get_or_default indices p (get_or wanted c.args.place 0) 0 found.0 ∙ found.1 ∙ is) h

pub returns : goal.returns
returns c = λ wanted is h.
    let indices = c.args.indices.now in
    let place = c.args.place in
    let lost = c.args.lost.now.indices.items in
    let places = c.args.lost.now.places.items in
    let missing = subst (λ i. ¬ (Contains indices i)) is (rw c.in_default.is at c.position.ensures.none) in
    subst (λ xs. AreLost indices wanted (place + 1) xs c.push-2.new.self.items) (sym (c.in_ok-push.ensures.items ∙ ap (λ i. lost ++ i ∷ []) is))
    (subst (λ ps. AreLost indices wanted (place + 1) (lost ++ get_or wanted place 0 ∷ []) ps) (sym c.in_ok-push-2.ensures.items) (lost-more indices wanted place lost places missing h))
