use Rattle.std.proofs.Common.{◌≡◌, ◌∙◌, ◌+◌, ◌*◌, ◌<◌, ℕ, List, slice_index_or, subst, sym, arith}
use Rattle.math_fields.specs.declared.goldilocks.F.{F}
use Rattle.math_fields.specs.Elements.{residue}
use Rattle.math_fields.specs.Lanes.{IsLane}
use Rattle.math_fields.proofs.goldilocks.sixteen.turn_each.Goals as goal

pub returns : goal.returns
returns g c = λ k small.
    let o = residue 0 in
    let at : List F → ℕ → F = λ xs p. slice_index_or xs p o in
    let p = c.args.place in
    let roots = c.args.roots.now in
    let old = c.args.cells.now in
    let new = c.store_fourths-4.new.cells in
    let twice : 2 * p + 2 * k ≡ 2 * (p + k) = omega arith in
    let place0 : 0 + 4 * k ≡ 4 * k = omega arith in
    let e_is = subst (λ q. IsLane c.load_seconds-e.result k (at roots q)) twice (c.load_seconds-e.ensures.lanes o k small) in
    let g_is = c.load_four-g.ensures.lanes o k small in
    let eg_is = c.times-eg.ensures.lanes k (at roots (2 * (p + k))) (at roots (p + k)) small e_is g_is in
    let new0 : IsLane c.turn_lanes.new.a k (at new (4 * k)) = subst (λ x. IsLane c.turn_lanes.new.a k x) (sym (c.store_fourths-4.ensures.kept o (4 * k) (omega arith) (omega arith) (omega arith) (omega arith) ∙ c.store_fourths-3.ensures.kept o (4 * k) (omega arith) (omega arith) (omega arith) (omega arith) ∙ c.store_fourths-2.ensures.kept o (4 * k) (omega arith) (omega arith) (omega arith) (omega arith)))
    (subst (λ q. IsLane c.turn_lanes.new.a k (at c.store_fourths.new.cells q)) place0 (c.store_fourths.ensures.stored o k small)) in
    let new1 : IsLane c.turn_lanes.new.b k (at new (1 + 4 * k)) = subst (λ x. IsLane c.turn_lanes.new.b k x) (sym (c.store_fourths-4.ensures.kept o (1 + 4 * k) (omega arith) (omega arith) (omega arith) (omega arith) ∙ c.store_fourths-3.ensures.kept o (1 + 4 * k) (omega arith) (omega arith) (omega arith) (omega arith)))
    (c.store_fourths-2.ensures.stored o k small) in
    let new2 : IsLane c.turn_lanes.new.c k (at new (2 + 4 * k)) = subst (λ x. IsLane c.turn_lanes.new.c k x) (sym (c.store_fourths-4.ensures.kept o (2 + 4 * k) (omega arith) (omega arith) (omega arith) (omega arith)))
    (c.store_fourths-3.ensures.stored o k small) in
    let new3 : IsLane c.turn_lanes.new.d k (at new (3 + 4 * k)) = c.store_fourths-4.ensures.stored o k small in
    c.turn_lanes.ensures.turned k (at roots (2 * (p + k))) (at roots (p + k)) (at old (4 * k)) (at old (1 + 4 * k)) (at old (2 + 4 * k)) (at old (3 + 4 * k)) (at new (4 * k)) (at new (1 + 4 * k)) (at new (2 + 4 * k)) (at new (3 + 4 * k)) (at roots (2 * (p + k) + 1)) small
    e_is g_is eg_is
    (subst (λ q. IsLane c.load_fourths-a.result k (at old q)) place0 (c.load_fourths-a.ensures.lanes o k small))
    (c.load_fourths-b.ensures.lanes o k small)
    (c.load_fourths-c.ensures.lanes o k small)
    (c.load_fourths-d.ensures.lanes o k small)
    new0 new1 new2 new3 (c.requires.odd k small)
