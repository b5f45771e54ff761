use Rattle.std.proofs.Common.{◌≡◌, ◌∙◌, ◌+◌, ◌-◌, ◌*◌, ◌<◌, ◌≤◌, ◌^◌, length, take, drop, not, eqb, refl, ap, rules, arith}
use borrow.Author.Rules.{scaled_fits≤}
use Rattle.math_base.proofs.Members.{ring_members}
use Rattle.math_transforms.proofs.BelowSteps.{no-steps}
use Rattle.math_transforms.proofs.Levels.{adds-all, adds-part, adds-then, adds-twice}
use Rattle.math_transforms.proofs.ListParts.{one-done, slice-size}
use Rattle.math_transforms.proofs.StepsBelow.{cut, few-done, part-points, step-done}
use Rattle.math_transforms.proofs.points_below.+transform_below.Goals as goal

pub returns-then-count-cols-clause-done : goal.returns-then-count-cols-clause-done
returns-then-count-cols-clause-done g t c =
    let F = g.met.F in
    let R = ring_members g.F.Multiplicative.product g.F.Debug.debug_output g.F.Object.same g.F.Object.NEVER_REFUSES g.F.Additive.zero g.F.Additive.sum g.F.Additive.negative g.F.Ring.one in
    few-done R F.Object.equality F.Additive.group F.Multiplicative.commutes F.Ring.ring F.Field.field F.FieldNTT.roots (not (eqb g.row.FORWARD 0)) c.args.points.now c.requires.points c.args.cols c.args.cells.now c.requires.size c.if-count-cols.true

pub returns-then-count-cols-clause-counted : goal.returns-then-count-cols-clause-counted
returns-then-count-cols-clause-counted g t c =
    adds-all _ _ _ _ (omega (arith, no-steps c.args.points.now.lg c.args.cols (length c.args.cells.now) c.requires.size c.if-count-cols.true)) refl

pub returns-then-at_once-clause-counted : goal.returns-then-at_once-clause-counted
returns-then-at_once-clause-counted g t c = adds-all _ _ _ _ (c.transform_sixteen-at_once.ensures.counted c.if-at_once.true) c.transform_sixteen-at_once.ensures.root_products

pub step-requires-clause-few : goal.step-requires-clause-few
step-requires-clause-few g t c = omega (arith, c.levels_before-first.ensures.most, c.levels_of-levels.ensures.few)

pub step-requires-clause-deep : goal.step-requires-clause-deep
step-requires-clause-deep g t c = omega (arith, c.levels_before-first.ensures.most, c.levels_of-levels.ensures.few, c.if-points-le2.false)

pub step-requires-clause-size : goal.step-requires-clause-size
step-requires-clause-size g t c = rw (c.transform_sixteen-at_once.ensures.kept c.if-at_once.false) c.requires.size

pub step-requires-clause-some : goal.step-requires-clause-some
step-requires-clause-some g t c = rw (c.transform_sixteen-at_once.ensures.kept c.if-at_once.false) c.if-count-cols.false

pub step-requires-clause-room : goal.step-requires-clause-room
step-requires-clause-room g t c = grind arith

pub returns-in_err-step-clause-counted : goal.returns-in_err-step-clause-counted
returns-in_err-step-clause-counted g t c =
    let p = c.args.points.now in
    let w = cut p.lg c.levels_of-levels.result c.levels_before-first.result (2 ^ c.levels_of-levels.result) (2 ^ (p.lg - c.levels_of-levels.result)) p.place c.args.cols (length p.roots.now) (length c.args.cells.now) c.levels_of-levels.ensures.few c.if-points-le2.false c.levels_before-first.ensures.most refl refl c.requires.points.within c.requires.size in
    let same : c.transform_sixteen-at_once.new.cells ≡ c.args.cells.now = c.transform_sixteen-at_once.ensures.kept c.if-at_once.false in
    let counted : 2 * c.step.new.work.butterflies ≡ 2 * c.args.work.now.butterflies + c.levels_before-first.result * length c.args.cells.now = omega (arith, c.step.ensures.counted, ap (λ xs. c.levels_before-first.result * length xs) same, c.transform_sixteen-at_once.ensures.none_counted c.if-at_once.false) in
    let products : c.step.new.work.root_products ≡ c.args.work.now.root_products = c.step.ensures.root_products ∙ c.transform_sixteen-at_once.ensures.root_products in
    record {
      all = search rules;
      bounded = adds-twice (c.levels_before-first.result * length c.args.cells.now) _ _ _ (omega (arith, w.total)) counted products;
      some = grind arith;
    }

pub overflow_mul-part : goal.overflow_mul-part
overflow_mul-part g t c =
    let p = c.args.points.now in
    let w = cut p.lg c.levels_of-levels.result c.levels_before-first.result c.size_of-parts.result c.size_of.result p.place c.args.cols (length p.roots.now) (length c.args.cells.now) c.levels_of-levels.ensures.few c.if-points-le2.false c.levels_before-first.ensures.most c.size_of-parts.ensures c.size_of.ensures c.requires.points.within c.requires.size in
    let within : c.size_of.result * c.args.cols ≤ length c.args.cells.now = w.one in
    search rules

pub loop-k-init : goal.loop-k-init
loop-k-init g t c = grind arith

pub overflow_mul-place : goal.overflow_mul-place
overflow_mul-place g t c =
    let p = c.args.points.now in
    let w = cut p.lg c.levels_of-levels.result c.levels_before-first.result c.size_of-parts.result c.size_of.result p.place c.args.cols (length p.roots.now) (length c.args.cells.now) c.levels_of-levels.ensures.few c.if-points-le2.false c.levels_before-first.ensures.most c.size_of-parts.ensures c.size_of.ensures c.requires.points.within c.requires.size in
    let there : c.size_of-parts.result * p.place ≤ length p.roots.now = omega (arith, w.inside) in
    search rules

pub overflow_add-place : goal.overflow_add-place
overflow_add-place g t c =
    let p = c.args.points.now in
    let w = cut p.lg c.levels_of-levels.result c.levels_before-first.result c.size_of-parts.result c.size_of.result p.place c.args.cols (length p.roots.now) (length c.args.cells.now) c.levels_of-levels.ensures.few c.if-points-le2.false c.levels_before-first.ensures.most c.size_of-parts.ensures c.size_of.ensures c.requires.points.within c.requires.size in
    let there : c.size_of-parts.result * p.place + c.loop-k.k ≤ length p.roots.now = omega (arith, w.inside, c.loop-k-test.true) in
    search rules

pub overflow_mul-from : goal.overflow_mul-from
overflow_mul-from g t c =
    let p = c.args.points.now in
    let w = cut p.lg c.levels_of-levels.result c.levels_before-first.result c.size_of-parts.result c.size_of.result p.place c.args.cols (length p.roots.now) (length c.args.cells.now) c.levels_of-levels.ensures.few c.if-points-le2.false c.levels_before-first.ensures.most c.size_of-parts.ensures c.size_of.ensures c.requires.points.within c.requires.size in
    let long : length c.loop-k.cells ≡ length c.args.cells.now = c.loop-k.auto.cells ∙ c.step.auto.rows ∙ ap length (c.transform_sixteen-at_once.ensures.kept c.if-at_once.false) in
    let from = c.loop-k.k * (c.size_of.result * c.args.cols) in
    let s = c.size_of.result * c.args.cols in
    let within : from + s ≤ length c.loop-k.cells = omega (arith, w.cells c.loop-k.k c.loop-k-test.true, long) in
    search rules

pub overflow_add-rows : goal.overflow_add-rows
overflow_add-rows g t c =
    let p = c.args.points.now in
    let w = cut p.lg c.levels_of-levels.result c.levels_before-first.result c.size_of-parts.result c.size_of.result p.place c.args.cols (length p.roots.now) (length c.args.cells.now) c.levels_of-levels.ensures.few c.if-points-le2.false c.levels_before-first.ensures.most c.size_of-parts.ensures c.size_of.ensures c.requires.points.within c.requires.size in
    let long : length c.loop-k.cells ≡ length c.args.cells.now = c.loop-k.auto.cells ∙ c.step.auto.rows ∙ ap length (c.transform_sixteen-at_once.ensures.kept c.if-at_once.false) in
    let from = c.loop-k.k * (c.size_of.result * c.args.cols) in
    let s = c.size_of.result * c.args.cols in
    let within : from + s ≤ length c.loop-k.cells = omega (arith, w.cells c.loop-k.k c.loop-k-test.true, long) in
    search rules

pub offset_bounds-cells-from : goal.offset_bounds-cells-from
offset_bounds-cells-from g t c =
    let p = c.args.points.now in
    let w = cut p.lg c.levels_of-levels.result c.levels_before-first.result c.size_of-parts.result c.size_of.result p.place c.args.cols (length p.roots.now) (length c.args.cells.now) c.levels_of-levels.ensures.few c.if-points-le2.false c.levels_before-first.ensures.most c.size_of-parts.ensures c.size_of.ensures c.requires.points.within c.requires.size in
    scaled_fits≤ (c.loop-k.k * (c.size_of.result * c.args.cols)) (length c.args.cells.now) _ (omega (arith, w.cells c.loop-k.k c.loop-k-test.true)) c.well_formed.1.0.1

pub slice_bounds-rows-end : goal.slice_bounds-rows-end
slice_bounds-rows-end g t c =
    let p = c.args.points.now in
    let w = cut p.lg c.levels_of-levels.result c.levels_before-first.result c.size_of-parts.result c.size_of.result p.place c.args.cols (length p.roots.now) (length c.args.cells.now) c.levels_of-levels.ensures.few c.if-points-le2.false c.levels_before-first.ensures.most c.size_of-parts.ensures c.size_of.ensures c.requires.points.within c.requires.size in
    let long : length c.loop-k.cells ≡ length c.args.cells.now = c.loop-k.auto.cells ∙ c.step.auto.rows ∙ ap length (c.transform_sixteen-at_once.ensures.kept c.if-at_once.false) in
    let from = c.loop-k.k * (c.size_of.result * c.args.cols) in
    let s = c.size_of.result * c.args.cols in
    let within : from + s ≤ length c.loop-k.cells = omega (arith, w.cells c.loop-k.k c.loop-k-test.true, long) in
    omega (arith, within)

pub transform_few-requires-then-lg-le2-clause-points : goal.transform_few-requires-then-lg-le2-clause-points
transform_few-requires-then-lg-le2-clause-points g t c =
    let p = c.args.points.now in
    let w = cut p.lg c.levels_of-levels.result c.levels_before-first.result c.size_of-parts.result c.size_of.result p.place c.args.cols (length p.roots.now) (length c.args.cells.now) c.levels_of-levels.ensures.few c.if-points-le2.false c.levels_before-first.ensures.most c.size_of-parts.ensures c.size_of.ensures c.requires.points.within c.requires.size in
    let F = g.met.F in
    let R = ring_members g.F.Multiplicative.product g.F.Debug.debug_output g.F.Object.same g.F.Object.NEVER_REFUSES g.F.Additive.zero g.F.Additive.sum g.F.Additive.negative g.F.Ring.one in
    let q = part-points R F.Object.equality F.Additive.group F.Multiplicative.commutes F.Ring.ring F.Field.field F.FieldNTT.roots (not (eqb g.row.FORWARD 0)) p c.requires.points c.args.cols c.levels_of-levels.result c.size_of-parts.result c.loop-k.k w.deep c.size_of-parts.ensures c.loop-k-test.true in
    record { domain = omega (arith, c.requires.points.domain); small = omega (arith, c.requires.points.small); tree = c.requires.points.tree; some = q.0; within = q.1 }

pub transform_few-requires-then-lg-le2-clause-room : goal.transform_few-requires-then-lg-le2-clause-room
transform_few-requires-then-lg-le2-clause-room g t c =
    let p = c.args.points.now in
    let w = cut p.lg c.levels_of-levels.result c.levels_before-first.result c.size_of-parts.result c.size_of.result p.place c.args.cols (length p.roots.now) (length c.args.cells.now) c.levels_of-levels.ensures.few c.if-points-le2.false c.levels_before-first.ensures.most c.size_of-parts.ensures c.size_of.ensures c.requires.points.within c.requires.size in
    omega (arith, c.loop-k.invariant.butterflies, w.upto c.loop-k.k c.loop-k-test.true, c.requires.room)

pub transform_below-requires : goal.transform_below-requires
transform_below-requires g t c κs within' =
    let p = c.args.points.now in
    let w = cut p.lg c.levels_of-levels.result c.levels_before-first.result c.size_of-parts.result c.size_of.result p.place c.args.cols (length p.roots.now) (length c.args.cells.now) c.levels_of-levels.ensures.few c.if-points-le2.false c.levels_before-first.ensures.most c.size_of-parts.ensures c.size_of.ensures c.requires.points.within c.requires.size in
    let long : length c.loop-k.cells ≡ length c.args.cells.now = c.loop-k.auto.cells ∙ c.step.auto.rows ∙ ap length (c.transform_sixteen-at_once.ensures.kept c.if-at_once.false) in
    let from = c.loop-k.k * (c.size_of.result * c.args.cols) in
    let s = c.size_of.result * c.args.cols in
    let within : from + s ≤ length c.loop-k.cells = omega (arith, w.cells c.loop-k.k c.loop-k-test.true, long) in
    let size : length (take (from + s - from) (drop from c.loop-k.cells)) ≡ s = slice-size from s c.loop-k.cells within in
    let F = g.met.F in
    let R = ring_members g.F.Multiplicative.product g.F.Debug.debug_output g.F.Object.same g.F.Object.NEVER_REFUSES g.F.Additive.zero g.F.Additive.sum g.F.Additive.negative g.F.Ring.one in
    let q = part-points R F.Object.equality F.Additive.group F.Multiplicative.commutes F.Ring.ring F.Field.field F.FieldNTT.roots (not (eqb g.row.FORWARD 0)) p c.requires.points c.args.cols c.levels_of-levels.result c.size_of-parts.result c.loop-k.k w.deep c.size_of-parts.ensures c.loop-k-test.true in (
      omega (arith, c.levels_of-levels.ensures.some, c.if-points-le2.false, c.decreases),
      (
        search rules,
        (
          search rules,
          (
            record { domain = omega (arith, c.requires.points.domain); small = omega (arith, c.requires.points.small); tree = c.requires.points.tree; some = q.0; within = q.1 },
            (size ∙ w.rows, omega (arith, c.loop-k.invariant.butterflies, w.upto c.loop-k.k c.loop-k-test.true, c.requires.room)),
          ),
        ),
      ),
    )

pub returns-in_err-transform_few-2-clause-counted : goal.returns-in_err-transform_few-2-clause-counted
returns-in_err-transform_few-2-clause-counted g t c =
    let p = c.args.points.now in
    let w = cut p.lg c.levels_of-levels.result c.levels_before-first.result c.size_of-parts.result c.size_of.result p.place c.args.cols (length p.roots.now) (length c.args.cells.now) c.levels_of-levels.ensures.few c.if-points-le2.false c.levels_before-first.ensures.most c.size_of-parts.ensures c.size_of.ensures c.requires.points.within c.requires.size in
    let so_far = adds-twice (c.levels_before-first.result * length c.args.cells.now + c.loop-k.k * (c.args.cols * 2 ^ (p.lg - c.levels_of-levels.result) * (p.lg - c.levels_of-levels.result))) _ c.args.work.now c.loop-k.work (omega arith) (omega (arith, c.loop-k.invariant.butterflies)) c.loop-k.invariant.root_products in
    record {
      all = search rules;
      bounded = adds-part _ _ _ _ (w.upto c.loop-k.k c.loop-k-test.true) (adds-then _ _ _ _ _ so_far c.in_err-transform_few-2.ensures.counted.bounded);
      some = search rules;
    }

pub returns-in_err-transform_below-clause-counted : goal.returns-in_err-transform_below-clause-counted
returns-in_err-transform_below-clause-counted g t c =
    let p = c.args.points.now in
    let w = cut p.lg c.levels_of-levels.result c.levels_before-first.result c.size_of-parts.result c.size_of.result p.place c.args.cols (length p.roots.now) (length c.args.cells.now) c.levels_of-levels.ensures.few c.if-points-le2.false c.levels_before-first.ensures.most c.size_of-parts.ensures c.size_of.ensures c.requires.points.within c.requires.size in
    let so_far = adds-twice (c.levels_before-first.result * length c.args.cells.now + c.loop-k.k * (c.args.cols * 2 ^ (p.lg - c.levels_of-levels.result) * (p.lg - c.levels_of-levels.result))) _ c.args.work.now c.loop-k.work (omega arith) (omega (arith, c.loop-k.invariant.butterflies)) c.loop-k.invariant.root_products in
    record {
      all = search rules;
      bounded = adds-part _ _ _ _ (w.upto c.loop-k.k c.loop-k-test.true) (adds-then _ _ _ _ _ so_far c.in_err-transform_below.ensures.counted.bounded);
      some = search rules;
    }

pub loop-k-preserved-then-lg-le2 : goal.loop-k-preserved-then-lg-le2
loop-k-preserved-then-lg-le2 g t c =
    let p = c.args.points.now in
    let w = cut p.lg c.levels_of-levels.result c.levels_before-first.result c.size_of-parts.result c.size_of.result p.place c.args.cols (length p.roots.now) (length c.args.cells.now) c.levels_of-levels.ensures.few c.if-points-le2.false c.levels_before-first.ensures.most c.size_of-parts.ensures c.size_of.ensures c.requires.points.within c.requires.size in
    let long : length c.loop-k.cells ≡ length c.args.cells.now = c.loop-k.auto.cells ∙ c.step.auto.rows ∙ ap length (c.transform_sixteen-at_once.ensures.kept c.if-at_once.false) in
    let from = c.loop-k.k * (c.size_of.result * c.args.cols) in
    let s = c.size_of.result * c.args.cols in
    let within : from + s ≤ length c.loop-k.cells = omega (arith, w.cells c.loop-k.k c.loop-k-test.true, long) in
    let size : length (take (from + s - from) (drop from c.loop-k.cells)) ≡ s = slice-size from s c.loop-k.cells within in
    record {
      parts = one-done s _ c.step.new.rows c.loop-k.cells c.transform_few-then-lg-le2.new.cells c.loop-k.k from (from + s - from) refl (omega arith) within (c.transform_few-then-lg-le2.auto.cells ∙ size) c.loop-k.invariant.parts c.in_ok-transform_few-2.ensures.done;
      butterflies = omega (arith, c.loop-k.invariant.butterflies, c.in_ok-transform_few-2.ensures.counted.all);
      root_products = c.in_ok-transform_few-2.ensures.counted.bounded.root_products ∙ c.loop-k.invariant.root_products;
    }

pub loop-k-preserved : goal.loop-k-preserved
loop-k-preserved g t c =
    let p = c.args.points.now in
    let w = cut p.lg c.levels_of-levels.result c.levels_before-first.result c.size_of-parts.result c.size_of.result p.place c.args.cols (length p.roots.now) (length c.args.cells.now) c.levels_of-levels.ensures.few c.if-points-le2.false c.levels_before-first.ensures.most c.size_of-parts.ensures c.size_of.ensures c.requires.points.within c.requires.size in
    let long : length c.loop-k.cells ≡ length c.args.cells.now = c.loop-k.auto.cells ∙ c.step.auto.rows ∙ ap length (c.transform_sixteen-at_once.ensures.kept c.if-at_once.false) in
    let from = c.loop-k.k * (c.size_of.result * c.args.cols) in
    let s = c.size_of.result * c.args.cols in
    let within : from + s ≤ length c.loop-k.cells = omega (arith, w.cells c.loop-k.k c.loop-k-test.true, long) in
    let size : length (take (from + s - from) (drop from c.loop-k.cells)) ≡ s = slice-size from s c.loop-k.cells within in
    record {
      parts = one-done s _ c.step.new.rows c.loop-k.cells c.transform_below.new.cells c.loop-k.k from (from + s - from) refl (omega arith) within (c.transform_below.auto.cells ∙ size) c.loop-k.invariant.parts c.in_ok-transform_below.ensures.done;
      butterflies = omega (arith, c.loop-k.invariant.butterflies, c.in_ok-transform_below.ensures.counted.all);
      root_products = c.in_ok-transform_below.ensures.counted.bounded.root_products ∙ c.loop-k.invariant.root_products;
    }

pub step-requires-2-clause-few : goal.step-requires-2-clause-few
step-requires-2-clause-few g t c = omega (arith, c.levels_of-levels.ensures.few)

pub step-requires-2-clause-deep : goal.step-requires-2-clause-deep
step-requires-2-clause-deep g t c = omega (arith, c.levels_of-levels.ensures.few, c.if-points-le2.false)

pub step-requires-2-clause-size : goal.step-requires-2-clause-size
step-requires-2-clause-size g t c = grind arith

pub step-requires-2-clause-some : goal.step-requires-2-clause-some
step-requires-2-clause-some g t c = grind arith

pub step-requires-2-clause-room : goal.step-requires-2-clause-room
step-requires-2-clause-room g t c =
    let p = c.args.points.now in
    let w = cut p.lg c.levels_of-levels.result c.levels_before-first.result c.size_of-parts.result c.size_of.result p.place c.args.cols (length p.roots.now) (length c.args.cells.now) c.levels_of-levels.ensures.few c.if-points-le2.false c.levels_before-first.ensures.most c.size_of-parts.ensures c.size_of.ensures c.requires.points.within c.requires.size in
    let long : length c.loop-k.cells ≡ length c.args.cells.now = c.loop-k.auto.cells ∙ c.step.auto.rows ∙ ap length (c.transform_sixteen-at_once.ensures.kept c.if-at_once.false) in
    let rest : (c.levels_of-levels.result - c.levels_before-first.result) * length c.loop-k.cells ≡ (c.levels_of-levels.result - c.levels_before-first.result) * length c.args.cells.now = ap (λ i. (c.levels_of-levels.result - c.levels_before-first.result) * i) long in
    let done : c.loop-k.k * (c.args.cols * 2 ^ (p.lg - c.levels_of-levels.result) * (p.lg - c.levels_of-levels.result)) ≡ c.size_of-parts.result * (c.args.cols * 2 ^ (p.lg - c.levels_of-levels.result) * (p.lg - c.levels_of-levels.result)) = let over : c.loop-k.k ≡ c.size_of-parts.result = omega (arith, c.loop-k-test.false, c.loop-k.auto.k-end) in ap (λ i. i * (c.args.cols * 2 ^ (p.lg - c.levels_of-levels.result) * (p.lg - c.levels_of-levels.result))) over in
    omega (arith, c.loop-k.invariant.butterflies, done, rest, w.total, c.requires.room)

pub returns-in_err-step-2-clause-counted : goal.returns-in_err-step-2-clause-counted
returns-in_err-step-2-clause-counted g t c =
    let p = c.args.points.now in
    let w = cut p.lg c.levels_of-levels.result c.levels_before-first.result c.size_of-parts.result c.size_of.result p.place c.args.cols (length p.roots.now) (length c.args.cells.now) c.levels_of-levels.ensures.few c.if-points-le2.false c.levels_before-first.ensures.most c.size_of-parts.ensures c.size_of.ensures c.requires.points.within c.requires.size in
    let long : length c.loop-k.cells ≡ length c.args.cells.now = c.loop-k.auto.cells ∙ c.step.auto.rows ∙ ap length (c.transform_sixteen-at_once.ensures.kept c.if-at_once.false) in
    let rest : (c.levels_of-levels.result - c.levels_before-first.result) * length c.loop-k.cells ≡ (c.levels_of-levels.result - c.levels_before-first.result) * length c.args.cells.now = ap (λ i. (c.levels_of-levels.result - c.levels_before-first.result) * i) long in
    let done : c.loop-k.k * (c.args.cols * 2 ^ (p.lg - c.levels_of-levels.result) * (p.lg - c.levels_of-levels.result)) ≡ c.size_of-parts.result * (c.args.cols * 2 ^ (p.lg - c.levels_of-levels.result) * (p.lg - c.levels_of-levels.result)) = let over : c.loop-k.k ≡ c.size_of-parts.result = omega (arith, c.loop-k-test.false, c.loop-k.auto.k-end) in ap (λ i. i * (c.args.cols * 2 ^ (p.lg - c.levels_of-levels.result) * (p.lg - c.levels_of-levels.result))) over in
    record {
      all = search rules;
      bounded = adds-twice (c.args.cols * 2 ^ p.lg * p.lg) _ _ _ (omega arith) (omega (arith, c.loop-k.invariant.butterflies, done, rest, w.total, c.step-2.ensures.counted)) (c.step-2.ensures.root_products ∙ c.loop-k.invariant.root_products);
      some = grind arith;
    }

pub returns-clause-counted : goal.returns-clause-counted
returns-clause-counted g t c =
    let p = c.args.points.now in
    let w = cut p.lg c.levels_of-levels.result c.levels_before-first.result c.size_of-parts.result c.size_of.result p.place c.args.cols (length p.roots.now) (length c.args.cells.now) c.levels_of-levels.ensures.few c.if-points-le2.false c.levels_before-first.ensures.most c.size_of-parts.ensures c.size_of.ensures c.requires.points.within c.requires.size in
    let long : length c.loop-k.cells ≡ length c.args.cells.now = c.loop-k.auto.cells ∙ c.step.auto.rows ∙ ap length (c.transform_sixteen-at_once.ensures.kept c.if-at_once.false) in
    let rest : (c.levels_of-levels.result - c.levels_before-first.result) * length c.loop-k.cells ≡ (c.levels_of-levels.result - c.levels_before-first.result) * length c.args.cells.now = ap (λ i. (c.levels_of-levels.result - c.levels_before-first.result) * i) long in
    let done : c.loop-k.k * (c.args.cols * 2 ^ (p.lg - c.levels_of-levels.result) * (p.lg - c.levels_of-levels.result)) ≡ c.size_of-parts.result * (c.args.cols * 2 ^ (p.lg - c.levels_of-levels.result) * (p.lg - c.levels_of-levels.result)) = let over : c.loop-k.k ≡ c.size_of-parts.result = omega (arith, c.loop-k-test.false, c.loop-k.auto.k-end) in ap (λ i. i * (c.args.cols * 2 ^ (p.lg - c.levels_of-levels.result) * (p.lg - c.levels_of-levels.result))) over in
    adds-all _ _ _ _ (omega (arith, c.loop-k.invariant.butterflies, done, rest, w.total, c.step-2.ensures.counted)) (c.step-2.ensures.root_products ∙ c.loop-k.invariant.root_products)

pub returns-clause-done : goal.returns-clause-done
returns-clause-done g t c =
    let p = c.args.points.now in
    let w = cut p.lg c.levels_of-levels.result c.levels_before-first.result c.size_of-parts.result c.size_of.result p.place c.args.cols (length p.roots.now) (length c.args.cells.now) c.levels_of-levels.ensures.few c.if-points-le2.false c.levels_before-first.ensures.most c.size_of-parts.ensures c.size_of.ensures c.requires.points.within c.requires.size in
    let same : c.transform_sixteen-at_once.new.cells ≡ c.args.cells.now = c.transform_sixteen-at_once.ensures.kept c.if-at_once.false in
    let F = g.met.F in
    let R = ring_members g.F.Multiplicative.product g.F.Debug.debug_output g.F.Object.same g.F.Object.NEVER_REFUSES g.F.Additive.zero g.F.Additive.sum g.F.Additive.negative g.F.Ring.one in
    let over : c.loop-k.k ≡ c.size_of-parts.result = omega (arith, c.loop-k-test.false, c.loop-k.auto.k-end) in
    step-done R F.Object.equality F.Additive.group F.Multiplicative.commutes F.Ring.ring F.Field.field F.FieldNTT.roots (not (eqb g.row.FORWARD 0)) p c.requires.points c.args.cols c.levels_of-levels.result c.levels_before-first.result (c.size_of.result * c.args.cols) c.size_of-parts.result c.levels_of-levels.ensures.some c.levels_of-levels.ensures.few w.deep c.levels_before-first.ensures.before w.rows c.size_of-parts.ensures
    c.args.cells.now c.step.new.rows c.loop-k.cells c.step-2.new.rows c.requires.size (c.step.auto.rows ∙ ap length same) c.loop-k.auto.cells c.step-2.auto.rows
    (rw same at c.in_ok-step.ensures.stepped) (rw over at c.loop-k.invariant.parts) c.in_ok-step-2.ensures.stepped
