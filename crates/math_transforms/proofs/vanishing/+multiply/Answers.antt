use Rattle.std.proofs.Common.{rules, ◌≡◌, ◌≢◌, ◌∙◌, ◌++◌, ◌^◌, ℕ, length, take, drop, ap, arith}
use Rattle.math_theory.proofs.polynomials.BuiltPolynomials.{value-zeros_after}
use Rattle.math_theory.proofs.recovery.RecoveredColumns.{domain_product}
use Rattle.math_base.proofs.WholeWrites.{take-written}
use Rattle.math_transforms.proofs.Levels.{adds-part}
use Rattle.math_base.proofs.Members.{ring_members}
use Rattle.math_transforms.proofs.TreeEntries.{tree-below}
use Rattle.math_transforms.proofs.TreeCounts.{fewer-transforms}
use Rattle.math_transforms.proofs.vanishing.+multiply.Goals as goal

pub multiply-requires : goal.multiply-requires
multiply-requires g t c κs within =
    let lg = c.args.trees.now.lg in
    let positive : lg ≢ 0 = omega arith in
    let fewer = fewer-transforms lg (omega arith) in
    let inverse_root : ℕ → _ = λ l. g.F.Field.inverse (g.F.FieldNTT.root l) in
    let ring = ring_members g.F.Multiplicative.product g.F.Debug.debug_output g.F.Object.same g.F.Object.NEVER_REFUSES g.F.Additive.zero g.F.Additive.sum g.F.Additive.negative g.F.Ring.one in (
      omega arith,
      (
        search rules,
        (
          record {
            domain = omega (arith, c.requires.trees.domain);
            small = omega (arith, c.requires.trees.small);
            evaluation = tree-below ring g.met.F.Object.equality g.met.F.Additive.group g.met.F.Multiplicative.commutes g.met.F.Ring.ring g.F.FieldNTT.root lg c.size_of-half.result c.args.trees.now.evaluation.now positive c.size_of-half.ensures c.requires.trees.evaluation c.split_at.result.0.now c.split_at.ensures.front;
            interpolation = tree-below ring g.met.F.Object.equality g.met.F.Additive.group g.met.F.Multiplicative.commutes g.met.F.Ring.ring inverse_root lg c.size_of-half.result c.args.trees.now.interpolation.now positive c.size_of-half.ensures c.requires.trees.interpolation c.split_at-then-len-size_of.result.0.now c.split_at-then-len-size_of.ensures.front;
          },
          (omega arith, omega (arith, fewer)),
        ),
      ),
    )

pub returns-in_err-product-clause-bounded : goal.returns-in_err-product-clause-bounded
returns-in_err-product-clause-bounded g t c = adds-part _ _ _ _ (fewer-transforms c.args.trees.now.lg (omega arith)) c.in_err-product.ensures.bounded

pub returns-then-len-size_of-clause-bounded : goal.returns-then-len-size_of-clause-bounded
returns-then-len-size_of-clause-bounded g t c = adds-part _ _ _ _ (fewer-transforms c.args.trees.now.lg (omega arith)) c.in_ok-product.ensures.bounded

pub returns-clause-values : goal.returns-clause-values
returns-clause-values g t c = λ r.
    let F = g.met.F in
    let E = F.Object.equality in
    let G = F.Additive.group in
    let P = F.Multiplicative.commutes in
    let R = F.Ring.ring in
    let left = c.args.left.items in
    let right = c.args.right.items in
    let old = c.in_ok-product-2.product.items in
    let new = c.multiply_values.new.left in
    let size = c.size_of-n.ensures in
    let count = c.in_ok-product-2.ensures.count in
    let kept : length new ≡ length old = c.multiply_values.auto.left ∙ ap length c.deref_mut.ensures.value in
    let written : take c.in_ok-product-2.product.len (new ++ drop (length new) old) ≡ new = take-written c.in_ok-product-2.product.len old new c.in_ok-product-2.product.ok.0 kept in
    let low = c.in_ok-product-2.ensures.cells in
    let high = c.in_ok-other.ensures.cells in
    let values = rw (c.deref_mut.ensures.value, c.deref_mut-2.ensures.value, low.1, high.1) at c.in_ok-multiply_values.ensures.values in
    E.transitive _ _ _ (c.in_ok-out.ensures.values r)
    (rw written
    (domain_product E G P R F.Field.field (g.F.FieldNTT.root c.args.trees.now.lg) (2 ^ c.args.trees.now.lg) (F.FieldNTT.roots.order c.args.trees.now.lg c.requires.trees.domain) new left right
    (omega arith) (omega (arith, c.requires.few, c.args.left.ok.0)) (omega (arith, c.requires.few, c.args.left.ok.0, c.args.right.ok.0))
    (λ i l. E.transitive _ _ _ (values i l) (P.respects _ _ _ _ (value-zeros_after E G P R _ left low.0 low.2) (value-zeros_after E G P R _ right high.0 high.2))) r))
