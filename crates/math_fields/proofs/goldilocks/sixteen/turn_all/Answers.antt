use Rattle.std.proofs.Common.{◌≡◌, ◌∙◌, ◌+◌, ◌*◌, ◌%◌, ◌<◌, ℕ, List, slice_index_or, ap, ap₂, subst, sym, arith}
use Rattle.std.proofs.lemmas.List.{get_or_default}
use Rattle.math_numbers.specs.Goldilocks.{P}
use Rattle.math_fields.specs.declared.goldilocks.F.{F}
use Rattle.math_fields.specs.Elements.{number, residue}
use Rattle.math_fields.specs.Lanes.{IsLane}
use Rattle.math_fields.proofs.goldilocks.sixteen.turn_all.Goals as goal

pub returns : goal.returns
returns g c = λ k small.
    let o = residue 0 in
    let at : List F → ℕ → F = λ xs p. slice_index_or xs p o in
    let p = c.args.place in
    let roots = c.args.roots.now in
    let old = c.args.cells.now in
    let new = c.store_four-4.new.cells in
    let place0 : 0 + k ≡ k = omega arith in
    let low = ap number (c.index-roots-below.is ∙ get_or_default roots (2 * p) c.index-roots-below.result o (omega (arith, c.requires.inside))) in
    let high = ap number (c.index-roots-place.is ∙ get_or_default roots p c.index-roots-place.result o (omega (arith, c.requires.inside))) in
    let new0 : IsLane c.turn_lanes.new.a k (at new k) = subst (λ x. IsLane c.turn_lanes.new.a k x) (sym (c.store_four-4.ensures.before o k (omega (arith, small)) ∙ c.store_four-3.ensures.before o k (omega (arith, small)) ∙ c.store_four-2.ensures.before o k (omega (arith, small)))) (subst (λ q. IsLane c.turn_lanes.new.a k (at c.store_four.new.cells q)) place0 (c.store_four.ensures.stored o k small)) in
    let new1 : IsLane c.turn_lanes.new.b k (at new (4 + k)) = subst (λ x. IsLane c.turn_lanes.new.b k x) (sym (c.store_four-4.ensures.before o (4 + k) (omega (arith, small)) ∙ c.store_four-3.ensures.before o (4 + k) (omega (arith, small)))) (c.store_four-2.ensures.stored o k small) in
    let new2 : IsLane c.turn_lanes.new.c k (at new (8 + k)) = subst (λ x. IsLane c.turn_lanes.new.c k x) (sym (c.store_four-4.ensures.before o (8 + k) (omega (arith, small)))) (c.store_four-3.ensures.stored o k small) in
    let new3 : IsLane c.turn_lanes.new.d k (at new (12 + k)) = c.store_four-4.ensures.stored o k small in
    c.turn_lanes.ensures.turned k (at roots (2 * p)) (at roots p) (at old k) (at old (4 + k)) (at old (8 + k)) (at old (12 + k)) (at new k) (at new (4 + k)) (at new (8 + k)) (at new (12 + k)) (at roots (2 * p + 1)) small
    (c.splat-e.ensures.lanes k small ∙ low) (c.splat-g.ensures.lanes k small ∙ high) (c.splat-eg.ensures.lanes k small ∙ c.mul-both.ensures ∙ ap₂ (λ x y. x * y % P) low high)
    (subst (λ q. IsLane c.load_four-a.result k (at old q)) place0 (c.load_four-a.ensures.lanes o k small)) (c.load_four-b.ensures.lanes o k small) (c.load_four-c.ensures.lanes o k small) (c.load_four-d.ensures.lanes o k small)
    new0 new1 new2 new3 c.requires.odd
