use Rattle.std.proofs.Common.{◌≡◌, ◌∙◌, ◌^◌, sym, arith}
use Rattle.math_theory.proofs.domains.BuiltVanishing.{VanishesAt-none, VanishesAt-all, VanishesAt-product}
use Rattle.math_transforms.specs.MissingPoints.{count_false, every}
use Rattle.math_transforms.proofs.MissingPlaces.{length-every, count_both, count_false-within, all_filled, all_missing}
use Rattle.math_transforms.proofs.PowersOfTwo.{power_of_two-few}
use Rattle.math_transforms.proofs.RootProductCounts.{chunk-bounded}
use Rattle.math_transforms.proofs.vanishing.chunk.Goals as goal

pub returns-then-missing-eq0-clause-vanishes : goal.returns-then-missing-eq0-clause-vanishes
returns-then-missing-eq0-clause-vanishes g c =
    let F = g.met.F in
    let places = every c.args.spaced.now.start c.args.spaced.now.stride (2 ^ c.args.lg) c.args.spaced.now.points.now in
    let few : c.count_missing-missing.result ≡ count_false places = rw c.size_of-count.ensures at c.count_missing-missing.ensures in
    VanishesAt-none F.Object.equality F.Additive.group F.Multiplicative.commutes F.Ring.ring F.Field.field (g.F.FieldNTT.root c.args.lg) (2 ^ c.args.lg) places
    (all_filled places (2 ^ c.args.lg) (length-every c.args.spaced.now.start c.args.spaced.now.stride c.args.spaced.now.points.now (2 ^ c.args.lg)) (sym few ∙ c.if-missing-eq0.true))

pub returns-then-missing-eq0-clause-exact : goal.returns-then-missing-eq0-clause-exact
returns-then-missing-eq0-clause-exact g c = grind arith

pub returns-then-missing-count-clause-vanishes : goal.returns-then-missing-count-clause-vanishes
returns-then-missing-count-clause-vanishes g c =
    let F = g.met.F in
    let places = every c.args.spaced.now.start c.args.spaced.now.stride (2 ^ c.args.lg) c.args.spaced.now.points.now in
    let few : c.count_missing-missing.result ≡ count_false places = rw c.size_of-count.ensures at c.count_missing-missing.ensures in
    let long = length-every c.args.spaced.now.start c.args.spaced.now.stride c.args.spaced.now.points.now (2 ^ c.args.lg) in
    let size = c.size_of-count.ensures in
    let all = c.if-missing-count.true in
    VanishesAt-all F.Object.equality F.Additive.group F.Multiplicative.commutes F.Ring.ring F.Field.field (g.F.FieldNTT.root c.args.lg) c.args.lg places
    (all_missing places (2 ^ c.args.lg) long (omega (arith, count_both places))) (F.FieldNTT.roots.order c.args.lg c.requires.domain)

pub returns-then-missing-count-clause-everywhere : goal.returns-then-missing-count-clause-everywhere
returns-then-missing-count-clause-everywhere g c = grind (arith, length-every, count_both)

pub returns-then-missing-count-clause-exact : goal.returns-then-missing-count-clause-exact
returns-then-missing-count-clause-exact g c = grind arith

pub returns-clause-length : goal.returns-clause-length
returns-clause-length g c = grind (arith, count_false-within)

pub returns-in_err-product-clause-bounded : goal.returns-in_err-product-clause-bounded
returns-in_err-product-clause-bounded g c =
    let few = c.count_missing-missing.ensures in
    let other = c.if-missing-count.false in
    let below = count_false-within c.args.spaced.now.start c.args.spaced.now.stride c.args.spaced.now.points.now c.size_of-count.result in
    rw (← c.size_of-count.ensures)
    (chunk-bounded c.args.work.now _ (count_false (every c.args.spaced.now.start c.args.spaced.now.stride c.size_of-count.result c.args.spaced.now.points.now)) c.size_of-count.result (omega arith)
    (omega (arith, c.size_of-count.ensures, power_of_two-few c.args.lg c.requires.small))
    c.in_err-product.ensures.butterflies c.in_err-product.ensures.no_fewer c.in_err-product.ensures.no_more)

pub returns-clause-bounded : goal.returns-clause-bounded
returns-clause-bounded g c =
    let few = c.count_missing-missing.ensures in
    let other = c.if-missing-count.false in
    let below = count_false-within c.args.spaced.now.start c.args.spaced.now.stride c.args.spaced.now.points.now c.size_of-count.result in
    rw (← c.size_of-count.ensures)
    (chunk-bounded c.args.work.now _ (count_false (every c.args.spaced.now.start c.args.spaced.now.stride c.size_of-count.result c.args.spaced.now.points.now)) c.size_of-count.result (omega arith)
    (omega (arith, c.size_of-count.ensures, power_of_two-few c.args.lg c.requires.small))
    c.in_ok-product.ensures.butterflies c.in_ok-product.ensures.no_fewer c.in_ok-product.ensures.no_more)

pub returns-clause-exact : goal.returns-clause-exact
returns-clause-exact g c = λ _. rw c.size_of-count.ensures at c.in_ok-product.ensures.exact

pub returns-clause-vanishes : goal.returns-clause-vanishes
returns-clause-vanishes g c =
    let F = g.met.F in
    let E = F.Object.equality in
    let G = F.Additive.group in
    let P = F.Multiplicative.commutes in
    let R = F.Ring.ring in
    let root = rw c.in-Some.is at c.in_ok-root.ensures.ok in
    VanishesAt-product E G P R F.Field.field (g.F.FieldNTT.root c.args.lg) c.in-Some.root (every c.args.spaced.now.start c.args.spaced.now.stride (2 ^ c.args.lg) c.args.spaced.now.points.now) _ root
    (λ r. rw c.size_of-count.ensures at (c.in_ok-product.ensures.values r))

pub returns-in_err-product-clause-no_more : goal.returns-in_err-product-clause-no_more
returns-in_err-product-clause-no_more g c = rw c.size_of-count.ensures at c.in_err-product.ensures.no_more

pub returns-clause-no_more : goal.returns-clause-no_more
returns-clause-no_more g c = rw c.size_of-count.ensures at c.in_ok-product.ensures.no_more
