use Rattle.std.proofs.Common.{◌≡◌, ◌∙◌, ℕ, ◌+◌, ◌-◌, ◌*◌, ◌<◌, ◌≤◌, ◌^◌, ◌++◌, length, refl, subst, sym, rules, arith}
use Rattle.math_transforms.specs.RootTrees.{AreValuesOfFewBelow}
use Rattle.math_transforms.proofs.FewCoefficients.{shared, few-level}
use Rattle.math_transforms.proofs.Levels.{adds-part, adds-then}
use Rattle.math_base.proofs.Members.{ring_members}
use Rattle.math_transforms.proofs.points_below.+evaluate_few_below.Goals as goal

pub overflow_mul-size : goal.overflow_mul-size
overflow_mul-size g t c =
    let w = shared c.args.points.now.lg c.args.part c.args.points.now.place c.args.cols (length c.args.points.now.roots.now) c.size_of.result (2 ^ c.args.part) (omega (arith, c.requires.part, c.if-lg-part.false)) c.requires.points.within c.size_of.ensures refl in
    let within : c.size_of.result * c.args.cols ≤ length c.args.cells.now = omega (arith, w.cells, c.requires.size) in
    search rules

pub overflow_mul-few : goal.overflow_mul-few
overflow_mul-few g t c =
    let w = shared c.args.points.now.lg c.args.part c.args.points.now.place c.args.cols (length c.args.points.now.roots.now) c.size_of.result c.size_of-2.result (omega (arith, c.requires.part, c.if-lg-part.false)) c.requires.points.within c.size_of.ensures c.size_of-2.ensures in
    let within : c.size_of-2.result * c.args.cols ≤ length c.args.cells.now = omega (arith, w.few, w.cells, c.requires.size) in
    search rules

pub split_at_mut-low-requires : goal.split_at_mut-low-requires
split_at_mut-low-requires g t c =
    let w = shared c.args.points.now.lg c.args.part c.args.points.now.place c.args.cols (length c.args.points.now.roots.now) c.size_of.result c.size_of-2.result (omega (arith, c.requires.part, c.if-lg-part.false)) c.requires.points.within c.size_of.ensures c.size_of-2.ensures in
    omega (arith, w.cells, c.requires.size)

pub copy_cells-requires-clause-from : goal.copy_cells-requires-clause-from
copy_cells-requires-clause-from g t c =
    let w = shared c.args.points.now.lg c.args.part c.args.points.now.place c.args.cols (length c.args.points.now.roots.now) c.size_of.result c.size_of-2.result (omega (arith, c.requires.part, c.if-lg-part.false)) c.requires.points.within c.size_of.ensures c.size_of-2.ensures in
    omega (arith, w.few, c.split_at_mut-low.ensures.front_len)

pub copy_cells-requires-clause-to : goal.copy_cells-requires-clause-to
copy_cells-requires-clause-to g t c =
    let w = shared c.args.points.now.lg c.args.part c.args.points.now.place c.args.cols (length c.args.points.now.roots.now) c.size_of.result c.size_of-2.result (omega (arith, c.requires.part, c.if-lg-part.false)) c.requires.points.within c.size_of.ensures c.size_of-2.ensures in
    omega (arith, w.few, w.cells, c.requires.size, c.split_at_mut-low.ensures.back_len)

pub overflow_mul-first : goal.overflow_mul-first
overflow_mul-first g t c =
    let w = shared c.args.points.now.lg c.args.part c.args.points.now.place c.args.cols (length c.args.points.now.roots.now) c.size_of.result c.size_of-2.result (omega (arith, c.requires.part, c.if-lg-part.false)) c.requires.points.within c.size_of.ensures c.size_of-2.ensures in
    let there : 2 * c.args.points.now.place + 1 < 2 ^ 64 = omega (arith, w.inside, c.requires.entries) in
    search rules

pub overflow_add-place : goal.overflow_add-place
overflow_add-place g t c =
    let w = shared c.args.points.now.lg c.args.part c.args.points.now.place c.args.cols (length c.args.points.now.roots.now) c.size_of.result c.size_of-2.result (omega (arith, c.requires.part, c.if-lg-part.false)) c.requires.points.within c.size_of.ensures c.size_of-2.ensures in
    let there : 2 * c.args.points.now.place + 1 < 2 ^ 64 = omega (arith, w.inside, c.requires.entries) in
    search rules

pub evaluate_few_below-requires : goal.evaluate_few_below-requires
evaluate_few_below-requires g t c κs within =
    let w = shared c.args.points.now.lg c.args.part c.args.points.now.place c.args.cols (length c.args.points.now.roots.now) c.size_of.result c.size_of-2.result (omega (arith, c.requires.part, c.if-lg-part.false)) c.requires.points.within c.size_of.ensures c.size_of-2.ensures in
    let F = g.met.F in
    let R = ring_members g.F.Multiplicative.product g.F.Debug.debug_output g.F.Object.same g.F.Object.NEVER_REFUSES g.F.Additive.zero g.F.Additive.sum g.F.Additive.negative g.F.Ring.one in
    let count : length c.split_at_mut-low.result.0.now ≡ 2 ^ (c.args.points.now.lg - 1) * c.args.cols = c.split_at_mut-low.ensures.front_len ∙ w.half in (
      omega (arith, c.if-lg-part.false, c.requires.part, c.decreases),
      (
        search rules,
        (
          record { domain = omega (arith, c.requires.points.domain); small = omega (arith, c.requires.points.small); tree = c.requires.points.tree; some = omega (arith, c.requires.points.some); within = w.first },
          (c.requires.entries, (omega (arith, c.requires.part, c.if-lg-part.false), (count, omega (arith, w.count, c.requires.room)))),
        ),
      ),
    )

pub evaluate_few_below-requires-2 : goal.evaluate_few_below-requires-2
evaluate_few_below-requires-2 g t c κs within =
    let w = shared c.args.points.now.lg c.args.part c.args.points.now.place c.args.cols (length c.args.points.now.roots.now) c.size_of.result c.size_of-2.result (omega (arith, c.requires.part, c.if-lg-part.false)) c.requires.points.within c.size_of.ensures c.size_of-2.ensures in
    let F = g.met.F in
    let R = ring_members g.F.Multiplicative.product g.F.Debug.debug_output g.F.Object.same g.F.Object.NEVER_REFUSES g.F.Additive.zero g.F.Additive.sum g.F.Additive.negative g.F.Ring.one in
    let count : length c.copy_cells.new.to ≡ 2 ^ (c.args.points.now.lg - 1) * c.args.cols =
    omega (arith, c.copy_cells.ensures.size, c.split_at_mut-low.ensures.back_len, w.half, w.cells, c.requires.size) in (
      omega (arith, c.if-lg-part.false, c.requires.part, c.decreases),
      (
        search rules,
        (
          record { domain = omega (arith, c.requires.points.domain); small = omega (arith, c.requires.points.small); tree = c.requires.points.tree; some = omega (arith, c.requires.points.some); within = w.second },
          (c.requires.entries, (omega (arith, c.requires.part, c.if-lg-part.false), (count, omega (arith, w.count, c.requires.room, c.in_ok-evaluate_few_below.ensures.counted)))),
        ),
      ),
    )

pub returns-in_err-evaluate_few_below-clause-bounded : goal.returns-in_err-evaluate_few_below-clause-bounded
returns-in_err-evaluate_few_below-clause-bounded g t c =
    let w = shared c.args.points.now.lg c.args.part c.args.points.now.place c.args.cols (length c.args.points.now.roots.now) c.size_of.result c.size_of-2.result (omega (arith, c.requires.part, c.if-lg-part.false)) c.requires.points.within c.size_of.ensures c.size_of-2.ensures in
    let part : ℕ = c.args.cols * 2 ^ (c.args.points.now.lg - 1) * c.args.part in
    adds-part part _ _ _ (omega (arith, w.count)) c.in_err-evaluate_few_below.ensures.bounded

pub returns-in_err-evaluate_few_below-2-clause-bounded : goal.returns-in_err-evaluate_few_below-2-clause-bounded
returns-in_err-evaluate_few_below-2-clause-bounded g t c =
    let w = shared c.args.points.now.lg c.args.part c.args.points.now.place c.args.cols (length c.args.points.now.roots.now) c.size_of.result c.size_of-2.result (omega (arith, c.requires.part, c.if-lg-part.false)) c.requires.points.within c.size_of.ensures c.size_of-2.ensures in
    let part : ℕ = c.args.cols * 2 ^ (c.args.points.now.lg - 1) * c.args.part in
    adds-part (part + part) _ _ _ (omega (arith, w.count)) (adds-then _ _ _ _ _ c.in_ok-evaluate_few_below.ensures.bounded c.in_err-evaluate_few_below-2.ensures.bounded)

pub returns-clause-bounded : goal.returns-clause-bounded
returns-clause-bounded g t c =
    let w = shared c.args.points.now.lg c.args.part c.args.points.now.place c.args.cols (length c.args.points.now.roots.now) c.size_of.result c.size_of-2.result (omega (arith, c.requires.part, c.if-lg-part.false)) c.requires.points.within c.size_of.ensures c.size_of-2.ensures in
    let part : ℕ = c.args.cols * 2 ^ (c.args.points.now.lg - 1) * c.args.part in
    adds-part (part + part) _ _ _ (omega (arith, w.count)) (adds-then _ _ _ _ _ c.in_ok-evaluate_few_below.ensures.bounded c.in_ok-evaluate_few_below-2.ensures.bounded)

pub returns-clause-counted : goal.returns-clause-counted
returns-clause-counted g t c =
    let w = shared c.args.points.now.lg c.args.part c.args.points.now.place c.args.cols (length c.args.points.now.roots.now) c.size_of.result c.size_of-2.result (omega (arith, c.requires.part, c.if-lg-part.false)) c.requires.points.within c.size_of.ensures c.size_of-2.ensures in
    omega (arith, w.count, c.in_ok-evaluate_few_below.ensures.counted, c.in_ok-evaluate_few_below-2.ensures.counted)

pub returns-clause-values : goal.returns-clause-values
returns-clause-values g t c =
    let w = shared c.args.points.now.lg c.args.part c.args.points.now.place c.args.cols (length c.args.points.now.roots.now) c.size_of.result c.size_of-2.result (omega (arith, c.requires.part, c.if-lg-part.false)) c.requires.points.within c.size_of.ensures c.size_of-2.ensures in
    let F = g.met.F in
    let R = ring_members g.F.Multiplicative.product g.F.Debug.debug_output g.F.Object.same g.F.Object.NEVER_REFUSES g.F.Additive.zero g.F.Additive.sum g.F.Additive.negative g.F.Ring.one in
    let count : length c.split_at_mut-low.result.0.now ≡ 2 ^ (c.args.points.now.lg - 1) * c.args.cols = c.split_at_mut-low.ensures.front_len ∙ w.half in
    let new_count : length c.evaluate_few_below.new.cells ≡ 2 ^ (c.args.points.now.lg - 1) * c.args.cols = omega (arith, count, c.evaluate_few_below.auto.cells) in
    subst (λ cells. AreValuesOfFewBelow R c.args.points.now.roots.now c.args.points.now.lg c.args.part c.args.points.now.place c.args.cols cells (c.evaluate_few_below.new.cells ++ c.evaluate_few_below-2.new.cells)) (sym c.split_at_mut-low.ensures.value)
    (few-level R F.Object.equality F.Additive.group F.Multiplicative.commutes F.Ring.ring c.args.points.now.roots.now c.args.points.now.lg c.args.part c.args.points.now.place c.args.cols
    c.split_at_mut-low.result.0.now c.split_at_mut-low.result.1.now c.copy_cells.new.to c.evaluate_few_below.new.cells c.evaluate_few_below-2.new.cells
    (omega (arith, c.requires.part, c.if-lg-part.false)) count new_count (λ p l. c.in_ok-copy_cells.ensures.copied p (omega (arith, l, w.coefficients)))
    c.in_ok-evaluate_few_below.ensures.values c.in_ok-evaluate_few_below-2.ensures.values)
