use Rattle.std.proofs.Common.{◌≡◌, ◌≢◌, rules, tests}
use Rattle.std.proofs.lemmas.Iterator.{cases_from_all, YieldsList-from_slice}
use Rattle.math_poly.proofs.Limbs.{zero_by_limbs}
use Rattle.math_poly.proofs.poly.algebra.all_zero.Goals as goal

pub returns : goal.returns
returns c =
    zero_by_limbs _ c.args.limbs.now
    (cases_from_all _ _ _ (λ x. x ≡ 0) (λ x. x ≢ 0) c.all.ensures.ran (YieldsList-from_slice c.args.limbs.now cc) (λ x q k. search (rules, tests)) (λ x q k. search (rules, tests)))
