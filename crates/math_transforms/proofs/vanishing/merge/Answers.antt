use Rattle.std.proofs.Common.{◌≡◌, ◌∙◌, suc, ◌-◌, ◌^◌, vec_len, arith}
use Rattle.math_theory.specs.Domains.{HasExactOrder}
use Rattle.math_theory.proofs.polynomials.BuiltPolynomials.{value-zeros_after}
use Rattle.math_theory.proofs.domains.MergedPieces.{minus_one_nonzero, with_multiple-same, plus_case, minus_case, all_case, times_one-right, times_one-left, times_one-both, power-double-same, moved-power}
use Rattle.math_transforms.proofs.PowersOfTwo.{power_of_two-double}
use Rattle.math_transforms.proofs.vanishing.merge.Goals as goal

pub returns-in-Nowhere-left-clause-merged : goal.returns-in-Nowhere-left-clause-merged
returns-in-Nowhere-left-clause-merged g c =
    let F = g.met.F in
    let E = F.Object.equality in
    let G = F.Additive.group in
    let P = F.Multiplicative.commutes in
    let R = F.Ring.ring in
    let f = F.Field.field in
    rw (c.in-Nowhere.is, c.in-Nowhere-left.is) (record { factor = g.F.Ring.one; factor_is_not_zero = f.distinct; gives = λ r. times_one-right E G P R f _ _ (E.reflexive _) })

pub returns-in_ok-all-in-Everywhere-left-clause-merged : goal.returns-in_ok-all-in-Everywhere-left-clause-merged
returns-in_ok-all-in-Everywhere-left-clause-merged g c =
    let F = g.met.F in
    let E = F.Object.equality in
    let G = F.Additive.group in
    let P = F.Multiplicative.commutes in
    let R = F.Ring.ring in
    let f = F.Field.field in
    let long : vec_len c.in_ok-one-in-Everywhere-left-2.one ≡ 2 ^ (c.args.trees.now.lg - 1) = c.in_ok-one-in-Everywhere-left-2.ensures.length ∙ c.size_of-half.ensures in
    let minus = E.transitive _ _ _ c.in_ok-factor-in-Everywhere-left.ensures.ok (G.respects_negative _ _ c.in_ok-one-in-Everywhere-left.ensures.ok) in
    rw (c.in-Nowhere.is, c.in-Everywhere-left.is) (record {
      factor = g.F.Additive.negative g.F.Ring.one;
      factor_is_not_zero = minus_one_nonzero E G P R f;
      gives = λ r. minus_case E G P R f _ _ _
          (with_multiple-same E G P R f _ _ _ _ _ _ (rw long at (c.in_ok-all-in-Everywhere-left.ensures.values r)) minus (c.in_ok-one-in-Everywhere-left-2.ensures.values r));
    })

pub returns-in-Somewhere-left-clause-merged : goal.returns-in-Somewhere-left-clause-merged
returns-in-Somewhere-left-clause-merged g c =
    let F = g.met.F in
    let E = F.Object.equality in
    let G = F.Additive.group in
    let P = F.Multiplicative.commutes in
    let R = F.Ring.ring in
    let f = F.Field.field in
    rw (c.in-Nowhere.is, c.in-Somewhere-left.is) (record { factor = g.F.Ring.one; factor_is_not_zero = f.distinct; gives = λ r. times_one-right E G P R f _ _ (E.reflexive _) })

pub returns-in_ok-all-in-Nowhere-left-2-clause-merged : goal.returns-in_ok-all-in-Nowhere-left-2-clause-merged
returns-in_ok-all-in-Nowhere-left-2-clause-merged g c =
    let F = g.met.F in
    let E = F.Object.equality in
    let G = F.Additive.group in
    let P = F.Multiplicative.commutes in
    let R = F.Ring.ring in
    let f = F.Field.field in
    let lg = c.args.trees.now.lg in
    let up : suc (lg - 1) ≡ lg = omega arith in
    let order : HasExactOrder g.F.Object.same g.F.Ring.one g.F.Multiplicative.product (g.F.FieldNTT.root lg) (2 ^ suc (lg - 1)) = rw up (F.FieldNTT.roots.order lg c.requires.trees.domain) in
    let turned = moved-power E G P R f (g.F.FieldNTT.root lg) (lg - 1) order in
    let long : vec_len c.in_ok-one-in-Nowhere-left-2.one ≡ 2 ^ (c.args.trees.now.lg - 1) = c.in_ok-one-in-Nowhere-left-2.ensures.length ∙ c.size_of-half.ensures in
    rw (c.in-Everywhere.is, c.in-Nowhere-left-2.is) (record {
      factor = g.F.Additive.negative g.F.Ring.one;
      factor_is_not_zero = minus_one_nonzero E G P R f;
      gives = λ r. plus_case E G P R f _ _ _ _ (turned r)
          (with_multiple-same E G P R f _ _ _ _ _ _ (rw long at (c.in_ok-all-in-Nowhere-left-2.ensures.values r)) c.in_ok-factor-in-Nowhere-left-2.ensures.ok
          (c.in_ok-one-in-Nowhere-left-2.ensures.values r));
    })

pub returns-in-Everywhere-left-2-clause-merged : goal.returns-in-Everywhere-left-2-clause-merged
returns-in-Everywhere-left-2-clause-merged g c =
    let F = g.met.F in
    let E = F.Object.equality in
    let G = F.Additive.group in
    let P = F.Multiplicative.commutes in
    let R = F.Ring.ring in
    let f = F.Field.field in
    let lg = c.args.trees.now.lg in
    let up : suc (lg - 1) ≡ lg = omega arith in
    let order : HasExactOrder g.F.Object.same g.F.Ring.one g.F.Multiplicative.product (g.F.FieldNTT.root lg) (2 ^ suc (lg - 1)) = rw up (F.FieldNTT.roots.order lg c.requires.trees.domain) in
    let turned = moved-power E G P R f (g.F.FieldNTT.root lg) (lg - 1) order in
    let twice = power_of_two-double lg (omega arith) in
    rw (c.in-Everywhere.is, c.in-Everywhere-left-2.is) (record {
      factor = g.F.Additive.negative g.F.Ring.one;
      factor_is_not_zero = minus_one_nonzero E G P R f;
      gives = λ r. rw twice (all_case E G P R f _ _ _ (turned r) (power-double-same E G P R f r (2 ^ (lg - 1))));
    })

pub returns-in_ok-all-in-Somewhere-left-2-clause-merged : goal.returns-in_ok-all-in-Somewhere-left-2-clause-merged
returns-in_ok-all-in-Somewhere-left-2-clause-merged g c =
    let F = g.met.F in
    let E = F.Object.equality in
    let G = F.Additive.group in
    let P = F.Multiplicative.commutes in
    let R = F.Ring.ring in
    let f = F.Field.field in
    let lg = c.args.trees.now.lg in
    let up : suc (lg - 1) ≡ lg = omega arith in
    let order : HasExactOrder g.F.Object.same g.F.Ring.one g.F.Multiplicative.product (g.F.FieldNTT.root lg) (2 ^ suc (lg - 1)) = rw up (F.FieldNTT.roots.order lg c.requires.trees.domain) in
    let turned = moved-power E G P R f (g.F.FieldNTT.root lg) (lg - 1) order in
    let low = c.in_ok-low-in-Somewhere-left-2 in
    let filled = low.ensures.cells in
    let long : vec_len low.low ≡ 2 ^ (lg - 1) = omega (arith, low.ensures.count, low.low.ok.0, c.size_of-half.ensures) in
    rw (c.in-Everywhere.is, c.in-Somewhere-left-2.is) (record {
      factor = g.F.Additive.negative g.F.Ring.one;
      factor_is_not_zero = minus_one_nonzero E G P R f;
      gives = λ r. plus_case E G P R f _ _ _ _ (turned r)
          (with_multiple-same E G P R f _ _ _ _ _ _ (rw long at (c.in_ok-all-in-Somewhere-left-2.ensures.values r)) c.in_ok-factor-in-Somewhere-left-2.ensures.ok
          (rw filled.1 (value-zeros_after E G P R r _ filled.0 filled.2)));
    })

pub returns-in-Nowhere-left-3-clause-merged : goal.returns-in-Nowhere-left-3-clause-merged
returns-in-Nowhere-left-3-clause-merged g c =
    let F = g.met.F in
    let E = F.Object.equality in
    let G = F.Additive.group in
    let P = F.Multiplicative.commutes in
    let R = F.Ring.ring in
    let f = F.Field.field in
    let lg = c.args.trees.now.lg in
    let moved = c.in_ok-moved-in-Somewhere.ensures.values in
    let new = c.in_ok-moved-in-Somewhere.moved.items in
    rw (c.in-Somewhere.is, c.in-Nowhere-left-3.is) (record {
      factor = g.F.Ring.one;
      factor_is_not_zero = f.distinct;
      gives = λ r. times_one-left E G P R f _ _ (moved r);
    })

pub returns-in_ok-all-in-Everywhere-left-3-clause-merged : goal.returns-in_ok-all-in-Everywhere-left-3-clause-merged
returns-in_ok-all-in-Everywhere-left-3-clause-merged g c =
    let F = g.met.F in
    let E = F.Object.equality in
    let G = F.Additive.group in
    let P = F.Multiplicative.commutes in
    let R = F.Ring.ring in
    let f = F.Field.field in
    let lg = c.args.trees.now.lg in
    let moved = c.in_ok-moved-in-Somewhere.ensures.values in
    let new = c.in_ok-moved-in-Somewhere.moved.items in
    let low = c.in_ok-low-in-Everywhere-left-3 in
    let filled = low.ensures.cells in
    let long : vec_len low.low ≡ 2 ^ (lg - 1) = omega (arith, low.ensures.count, low.low.ok.0, c.size_of-half.ensures) in
    let minus = E.transitive _ _ _ c.in_ok-factor-in-Everywhere-left-3.ensures.ok (G.respects_negative _ _ c.in_ok-one-in-Everywhere-left-3.ensures.ok) in
    rw (c.in-Somewhere.is, c.in-Everywhere-left-3.is) (record {
      factor = g.F.Additive.negative g.F.Ring.one;
      factor_is_not_zero = minus_one_nonzero E G P R f;
      gives = λ r. minus_case E G P R f _ _ _
          (with_multiple-same E G P R f _ _ _ _ _ _ (rw long at (c.in_ok-all-in-Everywhere-left-3.ensures.values r)) minus
          (rw filled.1 (E.transitive _ _ _ (value-zeros_after E G P R r new filled.0 filled.2) (moved r))));
    })

pub returns-in_ok-all-in-Somewhere-left-3-clause-merged : goal.returns-in_ok-all-in-Somewhere-left-3-clause-merged
returns-in_ok-all-in-Somewhere-left-3-clause-merged g c =
    let F = g.met.F in
    let E = F.Object.equality in
    let G = F.Additive.group in
    let P = F.Multiplicative.commutes in
    let R = F.Ring.ring in
    let f = F.Field.field in
    let lg = c.args.trees.now.lg in
    let moved = c.in_ok-moved-in-Somewhere.ensures.values in
    let new = c.in_ok-moved-in-Somewhere.moved.items in
    rw (c.in-Somewhere.is, c.in-Somewhere-left-3.is) (record {
      factor = g.F.Ring.one;
      factor_is_not_zero = f.distinct;
      gives = λ r. times_one-both E G P R f _ _ _ (E.transitive _ _ _ (c.in_ok-all-in-Somewhere-left-3.ensures.values r) (P.respects _ _ _ _ (E.reflexive _) (moved r)));
    })
