use Rattle.std.proofs.Common.{◌≡◌, ◌∙◌, ◌+◌, ◌-◌, ◌<◌, ℕ, List, slice_index_or, subst, sym, arith}
use Rattle.math_fields.specs.declared.goldilocks.F.{F}
use Rattle.math_fields.specs.Elements.{residue}
use Rattle.math_fields.specs.Lanes.{IsLane}
use Rattle.math_fields.proofs.goldilocks.columns.combine_eight.Goals as goal

pub returns : goal.returns
returns g c =
    let cols = c.args.cols in
    let i = c.args.i in
    let at : List F → ℕ → F = λ xs p. slice_index_or xs p (residue 0) in
    let old = c.args.rows.now in
    let new = c.store-2.new.cells in
    record {
      combined = λ p l m.
          let j = p - i in
          let small : j < 8 = omega (arith, l, m) in
          let place0 : i + j ≡ p = omega (arith, l) in
          let place1 : cols + i + j ≡ cols + p = omega (arith, l) in
          let new0 : IsLane c.combine_lanes.result.0 j (at new (p)) = subst (λ x. IsLane c.combine_lanes.result.0 j x) (sym (c.store-2.ensures.before (residue 0) (p) (omega (arith, m, c.requires.within)))) (subst (λ q. IsLane c.combine_lanes.result.0 j (at c.store.new.cells q)) place0 (c.store.ensures.stored (residue 0) j small)) in
          let new1 : IsLane c.combine_lanes.result.1 j (at new (cols + p)) = subst (λ q. IsLane c.combine_lanes.result.1 j (at c.store-2.new.cells q)) place1 (c.store-2.ensures.stored (residue 0) j small) in
          c.combine_lanes.ensures.combined j (at old (p)) (at old (cols + p)) (at new (p)) (at new (cols + p)) small
          (subst (λ q. IsLane c.load-low.result j (at old q)) place0 (c.load-low.ensures.lanes (residue 0) j small))
          (subst (λ q. IsLane c.load-high.result j (at old q)) place1 (c.load-high.ensures.lanes (residue 0) j small))
          new0 new1;
      before = λ p l. (c.store-2.ensures.before (residue 0) (p) (omega arith) ∙ c.store.ensures.before (residue 0) (p) (omega arith), c.store-2.ensures.before (residue 0) (cols + p) (omega arith) ∙ c.store.ensures.behind (residue 0) (cols + p) (omega arith));
      behind = λ p l m. (c.store-2.ensures.before (residue 0) (p) (omega arith) ∙ c.store.ensures.behind (residue 0) (p) (omega arith), c.store-2.ensures.behind (residue 0) (cols + p) (omega arith) ∙ c.store.ensures.behind (residue 0) (cols + p) (omega arith));
    }
