use Rattle.std.proofs.Common.{◌≡◌, ◌∙◌, ◌+◌, ◌*◌, ◌%◌, ◌-◌, ◌<◌, ℕ, IsTrue, List, not, eqb, slice_index_or, ap₂, subst, sym, arith, rules}
use Rattle.math_numbers.specs.Goldilocks.{P}
use Rattle.math_fields.specs.declared.goldilocks.F.{F}
use Rattle.math_fields.specs.Elements.{residue}
use Rattle.math_fields.specs.Lanes.{IsLane}
use Rattle.math_fields.proofs.goldilocks.columns.turn_eight.Goals as goal

pub turn_lanes-requires : goal.turn_lanes-requires
turn_lanes-requires g c =
    let one : IsTrue (not (eqb g.row.AT_ONE 0)) → (j : ℕ) → j < 8 → IsLane c.splat-e.result j (residue 1) × IsLane c.splat-g.result j (residue 1) × IsLane c.splat-eg.result j (residue 1) =
    λ one j small.
    let h = c.requires.one one in (
      c.splat-e.ensures.lanes j small ∙ h.0,
      c.splat-g.ensures.lanes j small ∙ h.1,
      c.splat-eg.ensures.lanes j small ∙ c.requires.product ∙ ap₂ (λ x y. x * y % P) h.0 h.1,
    ) in
    (search rules, (c.load-a.ensures.elements, (c.load-b.ensures.elements, (c.load-c.ensures.elements, (c.load-d.ensures.elements, one)))))

pub returns : goal.returns
returns g c = λ f odd.
    let cols = c.args.cols in
    let i = c.args.i in
    let at : List F → ℕ → F = λ xs p. slice_index_or xs p (residue 0) in
    let old = c.args.rows.now in
    let new = c.store-4.new.cells in
    record {
      turned = λ p l m.
          let j = p - i in
          let small : j < 8 = omega (arith, l, m) in
          let place0 : i + j ≡ p = omega (arith, l) in
          let place1 : cols + i + j ≡ cols + p = omega (arith, l) in
          let place2 : 2 * cols + i + j ≡ 2 * cols + p = omega (arith, l) in
          let place3 : 3 * cols + i + j ≡ 3 * cols + p = omega (arith, l) in
          let new0 : IsLane c.turn_lanes.new.a j (at new (p)) = subst (λ x. IsLane c.turn_lanes.new.a j x) (sym (c.store-4.ensures.before (residue 0) (p) (omega (arith, m, c.requires.within)) ∙ c.store-3.ensures.before (residue 0) (p) (omega (arith, m, c.requires.within)) ∙ c.store-2.ensures.before (residue 0) (p) (omega (arith, m, c.requires.within)))) (subst (λ q. IsLane c.turn_lanes.new.a j (at c.store.new.cells q)) place0 (c.store.ensures.stored (residue 0) j small)) in
          let new1 : IsLane c.turn_lanes.new.b j (at new (cols + p)) = subst (λ x. IsLane c.turn_lanes.new.b j x) (sym (c.store-4.ensures.before (residue 0) (cols + p) (omega (arith, m, c.requires.within)) ∙ c.store-3.ensures.before (residue 0) (cols + p) (omega (arith, m, c.requires.within)))) (subst (λ q. IsLane c.turn_lanes.new.b j (at c.store-2.new.cells q)) place1 (c.store-2.ensures.stored (residue 0) j small)) in
          let new2 : IsLane c.turn_lanes.new.c j (at new (2 * cols + p)) = subst (λ x. IsLane c.turn_lanes.new.c j x) (sym (c.store-4.ensures.before (residue 0) (2 * cols + p) (omega (arith, m, c.requires.within)))) (subst (λ q. IsLane c.turn_lanes.new.c j (at c.store-3.new.cells q)) place2 (c.store-3.ensures.stored (residue 0) j small)) in
          let new3 : IsLane c.turn_lanes.new.d j (at new (3 * cols + p)) = subst (λ q. IsLane c.turn_lanes.new.d j (at c.store-4.new.cells q)) place3 (c.store-4.ensures.stored (residue 0) j small) in
          c.turn_lanes.ensures.turned j c.args.weights.e c.args.weights.g (at old (p)) (at old (cols + p)) (at old (2 * cols + p)) (at old (3 * cols + p)) (at new (p)) (at new (cols + p)) (at new (2 * cols + p)) (at new (3 * cols + p)) f small
          (c.splat-e.ensures.lanes j small) (c.splat-g.ensures.lanes j small) (c.splat-eg.ensures.lanes j small ∙ c.requires.product)
          (subst (λ q. IsLane c.load-a.result j (at old q)) place0 (c.load-a.ensures.lanes (residue 0) j small))
          (subst (λ q. IsLane c.load-b.result j (at old q)) place1 (c.load-b.ensures.lanes (residue 0) j small))
          (subst (λ q. IsLane c.load-c.result j (at old q)) place2 (c.load-c.ensures.lanes (residue 0) j small))
          (subst (λ q. IsLane c.load-d.result j (at old q)) place3 (c.load-d.ensures.lanes (residue 0) j small))
          new0 new1 new2 new3 odd;
      before = λ p l. (c.store-4.ensures.before (residue 0) (p) (omega arith) ∙ c.store-3.ensures.before (residue 0) (p) (omega arith) ∙ c.store-2.ensures.before (residue 0) (p) (omega arith) ∙ c.store.ensures.before (residue 0) (p) (omega arith), c.store-4.ensures.before (residue 0) (cols + p) (omega arith) ∙ c.store-3.ensures.before (residue 0) (cols + p) (omega arith) ∙ c.store-2.ensures.before (residue 0) (cols + p) (omega arith) ∙ c.store.ensures.behind (residue 0) (cols + p) (omega arith), c.store-4.ensures.before (residue 0) (2 * cols + p) (omega arith) ∙ c.store-3.ensures.before (residue 0) (2 * cols + p) (omega arith) ∙ c.store-2.ensures.behind (residue 0) (2 * cols + p) (omega arith) ∙ c.store.ensures.behind (residue 0) (2 * cols + p) (omega arith), c.store-4.ensures.before (residue 0) (3 * cols + p) (omega arith) ∙ c.store-3.ensures.behind (residue 0) (3 * cols + p) (omega arith) ∙ c.store-2.ensures.behind (residue 0) (3 * cols + p) (omega arith) ∙ c.store.ensures.behind (residue 0) (3 * cols + p) (omega arith));
      behind = λ p l m. (c.store-4.ensures.before (residue 0) (p) (omega arith) ∙ c.store-3.ensures.before (residue 0) (p) (omega arith) ∙ c.store-2.ensures.before (residue 0) (p) (omega arith) ∙ c.store.ensures.behind (residue 0) (p) (omega arith), c.store-4.ensures.before (residue 0) (cols + p) (omega arith) ∙ c.store-3.ensures.before (residue 0) (cols + p) (omega arith) ∙ c.store-2.ensures.behind (residue 0) (cols + p) (omega arith) ∙ c.store.ensures.behind (residue 0) (cols + p) (omega arith), c.store-4.ensures.before (residue 0) (2 * cols + p) (omega arith) ∙ c.store-3.ensures.behind (residue 0) (2 * cols + p) (omega arith) ∙ c.store-2.ensures.behind (residue 0) (2 * cols + p) (omega arith) ∙ c.store.ensures.behind (residue 0) (2 * cols + p) (omega arith), c.store-4.ensures.behind (residue 0) (3 * cols + p) (omega arith) ∙ c.store-3.ensures.behind (residue 0) (3 * cols + p) (omega arith) ∙ c.store-2.ensures.behind (residue 0) (3 * cols + p) (omega arith) ∙ c.store.ensures.behind (residue 0) (3 * cols + p) (omega arith));
    }
