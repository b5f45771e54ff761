use Rattle.std.proofs.Common.{rules, ◌≡◌, ◌≢◌, ◌∙◌, ◌-◌, ◌^◌, ℕ, suc, length, ap, sym, arith}
use Rattle.math_theory.specs.Domains.{HasExactOrder}
use Rattle.math_theory.specs.Recovery.{count_true}
use Rattle.math_theory.proofs.domains.BuiltVanishing.{VanishesAt-halves}
use Rattle.math_theory.proofs.domains.MergedPieces.{root-inverse}
use Rattle.math_base.proofs.Members.{ring_members}
use Rattle.math_transforms.specs.MissingPoints.{every}
use Rattle.math_transforms.proofs.MissingPlaces.{length-every, even_items-every, odd_items-every, count_true-halves}
use Rattle.math_transforms.proofs.PowersOfTwo.{power_of_two-double}
use Rattle.math_transforms.proofs.TreeEntries.{tree-below}
use Rattle.math_transforms.proofs.TreeCounts.{within-part, within-then, within-transforms, merges, points-of_halves, half-covers, stride-within}
use Rattle.math_transforms.proofs.vanishing.+tree.Goals as goal

pub tree-requires : goal.tree-requires
tree-requires g t c κs within =
    let lg = c.args.trees.now.lg in
    let positive : lg ≢ 0 = omega arith in
    let below = half-covers lg c.args.spaced.now.stride (length c.args.spaced.now.points.now) (omega arith) c.requires.spaced.covers in
    let count = merges lg (omega arith) in
    let points = points-of_halves lg (omega arith) in
    let inverse_root : ℕ → _ = λ l. g.F.Field.inverse (g.F.FieldNTT.root l) in
    let ring = ring_members g.F.Multiplicative.product g.F.Debug.debug_output g.F.Object.same g.F.Object.NEVER_REFUSES g.F.Additive.zero g.F.Additive.sum g.F.Additive.negative g.F.Ring.one in (
      omega arith,
      (
        search rules,
        (
          record {
            domain = omega (arith, c.requires.trees.domain);
            small = omega (arith, c.requires.trees.small);
            evaluation = tree-below ring g.met.F.Object.equality g.met.F.Additive.group g.met.F.Multiplicative.commutes g.met.F.Ring.ring g.F.FieldNTT.root lg c.size_of-half.result c.args.trees.now.evaluation.now positive c.size_of-half.ensures c.requires.trees.evaluation c.split_at.result.0.now c.split_at.ensures.front;
            interpolation = tree-below ring g.met.F.Object.equality g.met.F.Additive.group g.met.F.Multiplicative.commutes g.met.F.Ring.ring inverse_root lg c.size_of-half.result c.args.trees.now.interpolation.now positive c.size_of-half.ensures c.requires.trees.interpolation c.split_at-2.result.0.now c.split_at-2.ensures.front;
          },
          (omega arith, (omega arith, (record { start = omega (arith, c.requires.spaced.start); covers = below; fits = c.requires.spaced.fits }, (omega (arith, count, points), omega (arith, points))))),
        ),
      ),
    )

pub tree-requires-2 : goal.tree-requires-2
tree-requires-2 g t c κs within =
    let lg = c.args.trees.now.lg in
    let positive : lg ≢ 0 = omega arith in
    let below = half-covers lg c.args.spaced.now.stride (length c.args.spaced.now.points.now) (omega arith) c.requires.spaced.covers in
    let count = merges lg (omega arith) in
    let points = points-of_halves lg (omega arith) in
    let inverse_root : ℕ → _ = λ l. g.F.Field.inverse (g.F.FieldNTT.root l) in
    let left = c.in_ok-left.ensures.bounded in
    let ring = ring_members g.F.Multiplicative.product g.F.Debug.debug_output g.F.Object.same g.F.Object.NEVER_REFUSES g.F.Additive.zero g.F.Additive.sum g.F.Additive.negative g.F.Ring.one in (
      omega arith,
      (
        search rules,
        (
          record {
            domain = omega (arith, c.requires.trees.domain);
            small = omega (arith, c.requires.trees.small);
            evaluation = tree-below ring g.met.F.Object.equality g.met.F.Additive.group g.met.F.Multiplicative.commutes g.met.F.Ring.ring g.F.FieldNTT.root lg c.size_of-half.result c.args.trees.now.evaluation.now positive c.size_of-half.ensures c.requires.trees.evaluation c.split_at.result.0.now c.split_at.ensures.front;
            interpolation = tree-below ring g.met.F.Object.equality g.met.F.Additive.group g.met.F.Multiplicative.commutes g.met.F.Ring.ring inverse_root lg c.size_of-half.result c.args.trees.now.interpolation.now positive c.size_of-half.ensures c.requires.trees.interpolation c.split_at-2.result.0.now c.split_at-2.ensures.front;
          },
          (omega arith, (omega arith, (record { start = omega (arith, c.requires.spaced.start); covers = below; fits = c.requires.spaced.fits }, (omega (arith, count, points, left.no_more), omega (arith, points, left.no_more_products))))),
        ),
      ),
    )

pub overflow_mul-stride : goal.overflow_mul-stride
overflow_mul-stride g t c = omega (arith, stride-within c.args.trees.now.lg c.args.spaced.now.stride (length c.args.spaced.now.points.now) (omega arith) c.requires.spaced.covers)

pub overflow_add-start : goal.overflow_add-start
overflow_add-start g t c = omega (arith, stride-within c.args.trees.now.lg c.args.spaced.now.stride (length c.args.spaced.now.points.now) (omega arith) c.requires.spaced.covers)

pub merge-requires-clause-room : goal.merge-requires-clause-room
merge-requires-clause-room g t c =
    let left = c.in_ok-left.ensures.bounded in
    let right = c.in_ok-right.ensures.bounded in
    omega (arith, merges c.args.trees.now.lg (omega arith), left.no_more, right.no_more)

pub returns-in_err-left-clause-bounded : goal.returns-in_err-left-clause-bounded
returns-in_err-left-clause-bounded g t c =
    within-part _ _ _ _ _ _ (omega (arith, merges c.args.trees.now.lg (omega arith))) (omega (arith, points-of_halves c.args.trees.now.lg (omega arith))) c.in_err-left.ensures.bounded

pub returns-in_err-right-clause-bounded : goal.returns-in_err-right-clause-bounded
returns-in_err-right-clause-bounded g t c =
    within-part _ _ _ _ _ _ (omega (arith, merges c.args.trees.now.lg (omega arith))) (omega (arith, points-of_halves c.args.trees.now.lg (omega arith)))
    (within-then _ _ _ _ _ _ _ c.in_ok-left.ensures.bounded c.in_err-right.ensures.bounded)

pub returns-in_err-all-clause-bounded : goal.returns-in_err-all-clause-bounded
returns-in_err-all-clause-bounded g t c =
    within-part _ _ _ _ _ _ (omega (arith, merges c.args.trees.now.lg (omega arith))) (omega (arith, points-of_halves c.args.trees.now.lg (omega arith)))
    (within-transforms _ _ _ _ _ _ (within-then _ _ _ _ _ _ _ c.in_ok-left.ensures.bounded c.in_ok-right.ensures.bounded) c.in_err-all.ensures.bounded)

pub returns-clause-bounded : goal.returns-clause-bounded
returns-clause-bounded g t c =
    within-part _ _ _ _ _ _ (omega (arith, merges c.args.trees.now.lg (omega arith))) (omega (arith, points-of_halves c.args.trees.now.lg (omega arith)))
    (within-transforms _ _ _ _ _ _ (within-then _ _ _ _ _ _ _ c.in_ok-left.ensures.bounded c.in_ok-right.ensures.bounded) c.in_ok-all.ensures.bounded)

pub returns-clause-everywhere : goal.returns-clause-everywhere
returns-clause-everywhere g t c = λ all.
    let lg = c.args.trees.now.lg in
    let n = 2 ^ (lg - 1) in
    let points = c.args.spaced.now.points.now in
    let double = power_of_two-double lg (omega arith) in
    let places = every c.args.spaced.now.start c.args.spaced.now.stride (2 ^ lg) points in
    let both = c.in_ok-all.ensures.everywhere all in
    let even = ap count_true (even_items-every c.args.spaced.now.start c.args.spaced.now.stride points n (2 ^ lg) double) in
    let odd = ap count_true (odd_items-every c.args.spaced.now.start c.args.spaced.now.stride points n (2 ^ lg) double) in
    omega (arith, count_true-halves places, even, odd, c.in_ok-left.ensures.everywhere both.0, c.in_ok-right.ensures.everywhere both.1)

pub returns-clause-vanishes : goal.returns-clause-vanishes
returns-clause-vanishes g t c =
    let F = g.met.F in
    let E = F.Object.equality in
    let G = F.Additive.group in
    let P = F.Multiplicative.commutes in
    let R = F.Ring.ring in
    let f = F.Field.field in
    let lg = c.args.trees.now.lg in
    let n = 2 ^ (lg - 1) in
    let points = c.args.spaced.now.points.now in
    let up : suc (lg - 1) ≡ lg = omega arith in
    let double = power_of_two-double lg (omega arith) in
    let root = g.F.FieldNTT.root lg in
    let order : HasExactOrder g.F.Object.same g.F.Ring.one g.F.Multiplicative.product root (2 ^ suc (lg - 1)) = rw up (F.FieldNTT.roots.order lg c.requires.trees.domain) in
    let square = rw up at (F.FieldNTT.roots.square (lg - 1) (omega arith)) in
    let merged = c.in_ok-all.ensures.merged in
    let evens = sym (even_items-every c.args.spaced.now.start c.args.spaced.now.stride points n (2 ^ lg) double) in
    let odds = sym (odd_items-every c.args.spaced.now.start c.args.spaced.now.stride points n (2 ^ lg) double) in
    VanishesAt-halves E G P R f root (g.F.Field.inverse root) (g.F.FieldNTT.root (lg - 1)) merged.factor n (every c.args.spaced.now.start c.args.spaced.now.stride (2 ^ lg) points) _ _ _
    (length-every c.args.spaced.now.start c.args.spaced.now.stride points (2 ^ lg) ∙ double) square (root-inverse E G P R f root (2 ^ suc (lg - 1)) order)
    (rw evens at c.in_ok-left.ensures.vanishes) (rw odds at c.in_ok-right.ensures.vanishes)
    merged.factor_is_not_zero merged.gives
