use Rattle.std.proofs.Common.{◌≡◌, refl}
use Rattle.std.specs.Cmp.Lexicographic.{slice_cmp}
use Rattle.std.specs.Map.{keys_of}
use Rattle.commonware_math.proofs.EqualKeys.{differing_keys, equal_keys}
use Rattle.math_poly.proofs.InterpolatedValues.{interpolated-value}
use Rattle.commonware_math.proofs.poly.interpolation.Interpolator.interpolate.Goals as goal

pub returns-then-is_ne-clause-keys : goal.returns-then-is_ne-clause-keys
returns-then-is_ne-clause-keys g c =
    let compared : c.cmp.result ≡ slice_cmp g.I.Ord.cmp (keys_of c.args.evals.now) (keys_of c.args.self.now) = cc in
    (λ e. absurd (cc e), λ h. absurd (differing_keys g.I.Ord.cmp _ _ _ compared (cc) h))

pub returns-clause-keys : goal.returns-clause-keys
returns-clause-keys g c =
    let compared : c.cmp.result ≡ slice_cmp g.I.Ord.cmp (keys_of c.args.evals.now) (keys_of c.args.self.now) = cc in
    (λ _. equal_keys g.I.Ord.cmp _ _ _ compared (cc), λ _. refl)

pub returns-clause-value : goal.returns-clause-value
returns-clause-value g c =
    let F = g.met.F in
    let K = g.met.K in
    interpolated-value F.Object.equality F.Additive.group F.Multiplicative.commutes F.Ring.ring K.Object.equality K.Additive.group K.Space.spans c.in_ok-out.out _ _
    (rw (c.values.ensures, c.values-2.ensures, c.self.view_is) at c.in_ok-out.ensures.ok)
