use Rattle.std.proofs.Common.{◌≡◌, ◌++◌, [], ◌∷◌, None, true, false, rules}
use Rattle.std.specs.List.{All}
use Rattle.std.specs.Option.{is_some}
use Rattle.std.proofs.lemmas.List.{take_all}
use Rattle.std.proofs.lemmas.List.Elements.{All-push}
use Rattle.std.proofs.lemmas.List.Quantifiers.{all_pairs_push}
use Rattle.math_theory.specs.Interpolation.{IsFirstPlace}
use Rattle.math_base.proofs.Members.{ring_members}
use Rattle.shared_secret.specs.Shares.{IsZeroFirst, point}
use Rattle.shared_secret.specs.declared.error.CombineError.TheVariants.{ZeroIndex}
use Rattle.shared_secret.proofs.CombinedShares.{alike_next, no_value, value_of_some}
use Rattle.shared_secret.proofs.RefusedShares.{zero_first, repeated_first}
use Rattle.shared_secret.proofs.combining.distinct_points.Goals as goal

pub returns-in_err-x-clause-zero : goal.returns-in_err-x-clause-zero
returns-in_err-x-clause-zero g c =
    let R = ring_members g.F.Multiplicative.product g.F.Debug.debug_output g.F.Object.same g.F.Object.NEVER_REFUSES g.F.Additive.zero g.F.Additive.sum g.F.Additive.negative g.F.Ring.one in
    let F = g.met.F in
    let i = c.loop-share.invariant in
    let first : c.in_err-x.field-0.0 ≡ ZeroIndex → IsZeroFirst R c.args.shares.now = λ e.
    zero_first R F.Object.equality F.Additive.group c.args.shares.now c.loop-share.share-index c.share-item.result c.loop-share.out.items c.loop-share-test.true c.share-item.is
    i.points i.nonzero i.apart (c.in_err-x.ensures.zero e) in
    search rules

pub returns-then-is_some-clause-repeated : goal.returns-then-is_some-clause-repeated
returns-then-is_some-clause-repeated g c = λ _.
    let R = ring_members g.F.Multiplicative.product g.F.Debug.debug_output g.F.Object.same g.F.Object.NEVER_REFUSES g.F.Additive.zero g.F.Additive.sum g.F.Additive.negative g.F.Ring.one in
    let F = g.met.F in
    let i = c.loop-share.invariant in
    let found : is_some c.in_ok-first_place.field-0 ≡ true = cc in
    let place = value_of_some (λ k. IsFirstPlace R.same c.in_ok-x.x c.loop-share.out.items k) c.in_ok-first_place.field-0 found (rw c.deref.ensures.value at c.in_ok-first_place.ensures.some) in
    repeated_first R F.Object.equality F.Additive.group c.args.shares.now c.loop-share.share-index c.share-item.result c.in_ok-x.x c.loop-share.out.items place.0
    c.loop-share-test.true c.share-item.is c.in_ok-x.ensures.point i.points i.nonzero i.apart c.in_ok-x.ensures.nonzero place.1

pub loop-share-preserved : goal.loop-share-preserved
loop-share-preserved g c =
    let R = ring_members g.F.Multiplicative.product g.F.Debug.debug_output g.F.Object.same g.F.Object.NEVER_REFUSES g.F.Additive.zero g.F.Additive.sum g.F.Additive.negative g.F.Ring.one in
    let F = g.met.F in
    let out = c.loop-share.out.items in
    let x = c.in_ok-x.x in
    let nothing : c.in_ok-first_place.field-0 ≡ None = no_value c.in_ok-first_place.field-0 (let e : is_some c.in_ok-first_place.field-0 ≡ false = cc in e) in
    let none : All (λ item. ¬ (R.same item x)) out = rw c.deref.ensures.value at (c.in_ok-first_place.ensures.none nothing) in
    let pushed : c.push.new.self.items ≡ out ++ (x ∷ []) = c.in_ok-push.ensures.items in
    rw pushed record {
      points = alike_next (λ share y. R.same y (point R share.index)) c.args.shares.now out c.loop-share.share-index c.share-item.result x c.loop-share-test.true c.share-item.is
          c.loop-share.invariant.points c.in_ok-x.ensures.point;
      nonzero = All-push (λ y. ¬ (R.same y R.zero)) out x c.loop-share.invariant.nonzero c.in_ok-x.ensures.nonzero;
      apart = all_pairs_push (λ y z. ¬ (R.same y z)) out x c.loop-share.invariant.apart none;
    }

pub returns-clause-points : goal.returns-clause-points
returns-clause-points g c = rw (take_all c.loop-share.share-index c.args.shares.now c.loop-share-test.false) at c.loop-share.invariant.points
