use Rattle.std.proofs.Common.{◌≡◌, ◌∙◌, ◌*◌, ◌^◌, length, sym, arith}
use Rattle.math_theory.proofs.polynomials.BuiltPolynomials.{value-respects}
use Rattle.math_theory.proofs.domains.BuiltVanishing.{VanishesAt-respects}
use Rattle.math_theory.proofs.domains.CarriedDomains.{HasCoset-of_order-same}
use Rattle.math_theory.proofs.recovery.RecoveredColumns.{domain_agreement, coset_nonzero, recovered-fits}
use Rattle.math_transforms.specs.DomainValues.{matrix_of}
use Rattle.math_transforms.specs.Matrices.{column_of}
use Rattle.math_transforms.proofs.DomainSteps.{column-cell}
use Rattle.math_transforms.proofs.MatrixRows.{length-column}
use Rattle.math_transforms.proofs.MissingPlaces.{count_both}
use Rattle.math_transforms.proofs.PowersOfTwo.{power_of_two-same}
use Rattle.math_transforms.proofs.TreeCounts.{within-part, within-transforms}
use Rattle.math_ntt.proofs.AddedWork.{on-err}
use Rattle.math_ntt.proofs.RecoveryCounts.{some_levels, whole-bound, whole-room}
use Rattle.math_ntt.proofs.RecoveryOutcomes.{exact-some, refusal-none}
use Rattle.math_ntt.proofs.ntt.recovery.recover_cells.Goals as goal

pub divide_by_vanishing-requires-clause-trees : goal.divide_by_vanishing-requires-clause-trees
divide_by_vanishing-requires-clause-trees g c = grind (arith, some_levels, count_both)

pub divide_by_vanishing-requires-clause-room : goal.divide_by_vanishing-requires-clause-room
divide_by_vanishing-requires-clause-room g c = omega (arith, whole-room c.args.lg c.args.cols c.requires.lg.small c.requires.fits, c.in_ok-vanishing.ensures.bounded.no_more)

pub returns-in_err-vanishing-clause-most : goal.returns-in_err-vanishing-clause-most
returns-in_err-vanishing-clause-most g c = within-part _ _ _ _ _ _ (omega (arith, whole-bound c.args.lg c.args.cols)) (omega arith) c.in_err-vanishing.ensures.bounded

pub returns-in_err-divide_by_vanishing-clause-most : goal.returns-in_err-divide_by_vanishing-clause-most
returns-in_err-divide_by_vanishing-clause-most g c =
    within-part _ _ _ _ _ _ (omega (arith, whole-bound c.args.lg c.args.cols)) (omega arith) (within-transforms _ _ _ _ _ _ c.in_ok-vanishing.ensures.bounded c.in_err-divide_by_vanishing.ensures.counted.bounded)

pub returns-clause-most : goal.returns-clause-most
returns-clause-most g c =
    within-part _ _ _ _ _ _ (omega (arith, whole-bound c.args.lg c.args.cols)) (omega arith) (within-transforms _ _ _ _ _ _ c.in_ok-vanishing.ensures.bounded c.in_ok-divide_by_vanishing.ensures.counted.bounded)

pub returns-clause-recovered : goal.returns-clause-recovered
returns-clause-recovered g c =
    let F = g.met.F in
    let E = F.Object.equality in
    let G = F.Additive.group in
    let P = F.Multiplicative.commutes in
    let R = F.Ring.ring in
    let f = F.Field.field in
    let zero = g.F.Additive.zero in
    let lg = c.args.lg in
    let n = 2 ^ lg in
    let root = g.F.FieldNTT.root lg in
    let shift = g.F.FieldNTT.shift in
    let points = c.args.points.now in
    let order = F.FieldNTT.roots.order lg c.requires.lg.domain in
    let coset = HasCoset-of_order-same E G P R root shift n order F.FieldNTT.roots.shift_is_not_zero (F.FieldNTT.roots.shift_is_no_power lg c.requires.lg.domain) in
    let v = c.in_ok-vanishing.vanishing in
    let found = rw c.deref_mut.ensures.value at c.in_ok-divide_by_vanishing.ensures.divided in
    let again = found.divisor in
    let long_v : length v.items ≡ n = omega (arith, c.in_ok-vanishing.ensures.length, v.ok.0) in
    let long : length again ≡ n = found.divisor_size in
    let on_domain = found.same_values in
    let products = found.products in
    let vanishes = c.in_ok-vanishing.ensures.vanishes in
    let agreement = domain_agreement E G P R f root n order again v.items (omega (arith, long)) (omega (arith, long_v)) on_domain in
    let vanishes_again = VanishesAt-respects E G P R root points _ _ (λ r. value-respects E G P R r again v.items (long ∙ sym long_v) (λ j l. agreement j)) vanishes in
    let nonzero = coset_nonzero E G P R f root shift n points c.requires.points coset _ vanishes_again in
    let quotients = found.quotients nonzero in
    let cells = matrix_of n c.args.cols c.args.cells.now in
    let product = matrix_of n c.args.cols found.product in
    let quotient = matrix_of n c.args.cols c.divide_by_vanishing.new.cells in
    record {
      fits = λ m k e b. rw (← power_of_two-same lg m e)
          (recovered-fits E G P R f root shift n points c.requires.points coset 1 n (column_of zero cells k) v.items again (column_of zero product k) (column_of zero quotient k)
          (length-column zero cells k) long (length-column zero product k) (length-column zero quotient k) c.requires.some (omega (arith, count_both points, c.requires.points)) (omega arith) (omega arith) vanishes on_domain
          (λ i l. rw (column-cell zero n c.args.cols k i c.args.cells.now l b) (products i k l b))
          (λ i l. let every : 1 * i ≡ i = omega arith in rw every (quotients i k l b)));
      exact = exact-some _ _ _ _ c.requires.some c.requires.missing
          (λ small. (omega (arith, c.in_ok-vanishing.ensures.butterflies small, c.in_ok-divide_by_vanishing.ensures.counted.all), omega (arith, c.in_ok-vanishing.ensures.exact small, c.in_ok-divide_by_vanishing.ensures.counted.bounded.root_products)))
          (omega (arith, c.in_ok-vanishing.ensures.bounded.no_fewer, c.in_ok-divide_by_vanishing.ensures.counted.all));
    }

pub returns-in_err-evaluation-clause-refused : goal.returns-in_err-evaluation-clause-refused
returns-in_err-evaluation-clause-refused g c = on-err c.from_residual.result (refusal-none _ _ _ _)

pub returns-in_err-interpolation-clause-refused : goal.returns-in_err-interpolation-clause-refused
returns-in_err-interpolation-clause-refused g c = on-err c.from_residual-in_err-interpolation.result (refusal-none _ _ _ _)

pub returns-in_err-vanishing-clause-refused : goal.returns-in_err-vanishing-clause-refused
returns-in_err-vanishing-clause-refused g c = grind arith

pub returns-in_err-divide_by_vanishing-clause-refused : goal.returns-in_err-divide_by_vanishing-clause-refused
returns-in_err-divide_by_vanishing-clause-refused g c = grind arith
