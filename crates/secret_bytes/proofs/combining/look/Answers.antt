use Rattle.std.proofs.Common.{◌≡◌, ◌∙◌, ◌+◌, [], ◌∷◌, ◌++◌, length, sym, ap, subst, arith}
use Rattle.std.proofs.lemmas.List.{length-map}
use Rattle.math_theory.specs.Interpolation.{AreApart}
use Rattle.shared_secret.specs.CorrectedShares.{IsCorrectedSecret}
use Rattle.math_fields.specs.Elements.{goldilocks, residue, same}
use Rattle.shared_secret.specs.Shares.{points}
use Rattle.shared_secret.specs.Weights.{AreWeightsAtPoints}
use Rattle.secret_bytes.specs.declared.share.SecretShare.{SecretShare}
use Rattle.secret_bytes.specs.Columns.{column}
use Rattle.secret_bytes.proofs.RecoveredShares.{distinct-points}
use Rattle.secret_bytes.proofs.WeighedColumns.{elements-next, pass-decoded, points-ready, weights-ready}
use Rattle.secret_bytes.proofs.combining.look.Goals as goal

pub weigh_points-requires-clause-enough : goal.weigh_points-requires-clause-enough
weigh_points-requires-clause-enough c =
    let shares = c.args.shares.now in
    let count : length c.deref.result.now ≡ length shares = ap length (c.deref.ensures.value ∙ c.in_ok-points.ensures) ∙ length-map shares (λ (s : SecretShare). residue s.index) in
    omega (arith, c.requires.ready.enough, count)

pub weigh_points-requires-clause-apart : goal.weigh_points-requires-clause-apart
weigh_points-requires-clause-apart c =
    let shares = c.args.shares.now in
    let at : c.deref.result.now ≡ points goldilocks (column 0 shares) = c.deref.ensures.value ∙ c.in_ok-points.ensures ∙ points-ready c.args.t c.args.width 0 shares c.requires.ready in
    subst (AreApart same) (sym at) (distinct-points c.args.t c.args.width 0 shares c.requires.ready).1

pub element_at-requires-clause-weights : goal.element_at-requires-clause-weights
element_at-requires-clause-weights c =
    let j = c.loop-j.j in
    let shares = c.args.shares.now in
    let w = c.in_ok-weights.weights in
    let at : c.deref.result.now ≡ points goldilocks (column j shares) = c.deref.ensures.value ∙ c.in_ok-points.ensures ∙ points-ready c.args.t c.args.width j shares c.requires.ready in
    weights-ready c.args.t c.args.width j shares w c.requires.ready (distinct-points c.args.t c.args.width j shares c.requires.ready)
    (subst (λ xs. AreWeightsAtPoints goldilocks c.args.t xs w) at c.in_ok-weights.ensures)

pub wrong_at-requires-clause-points : goal.wrong_at-requires-clause-points
wrong_at-requires-clause-points c =
    c.deref-in_default.ensures.value ∙ c.in_ok-points.ensures ∙ points-ready c.args.t c.args.width c.loop-j.j c.args.shares.now c.requires.ready

pub wrong_at-requires-clause-apart : goal.wrong_at-requires-clause-apart
wrong_at-requires-clause-apart c =
    let shares = c.args.shares.now in
    let at : c.deref-in_default.result.now ≡ points goldilocks (column 0 shares) =
    c.deref-in_default.ensures.value ∙ c.in_ok-points.ensures ∙ points-ready c.args.t c.args.width 0 shares c.requires.ready in
    subst (AreApart same) (sym at) (distinct-points c.args.t c.args.width 0 shares c.requires.ready).1

pub returns-in_default-clause-pass : goal.returns-in_default-clause-pass
returns-in_default-clause-pass c =
    pass-decoded c.args.t c.args.width c.loop-j.j c.args.shares.now _ c.wrong_at.result c.loop-j-test.true (rw c.in_default.is at c.in_ok-element.ensures.none) c.wrong_at.ensures

pub loop-j-preserved : goal.loop-j-preserved
loop-j-preserved c =
    let j = c.loop-j.j in
    let shares = c.args.shares.now in
    let element = c.in-Some.element in
    let found : IsCorrectedSecret goldilocks c.args.t (column j shares) element [] = rw c.in-Some.is at c.in_ok-element.ensures.found in
    let pushed : c.push.new.self.items ≡ c.loop-j.elements.items ++ (element ∷ []) = c.in_ok-push.ensures.items in
    let count : length (c.loop-j.elements.items ++ (element ∷ [])) ≡ j + 1 =
    omega (arith, ap length pushed, c.loop-j.invariant.count, c.in_ok-push.ensures.len, c.push.new.self.ok, c.loop-j.elements.ok) in
    rw pushed record {
      count = count;
      elements = record {
        count = omega (arith, count, c.loop-j-test.true);
        fit = λ i l.
            elements-next (λ i a. IsCorrectedSecret goldilocks c.args.t (column i shares) a []) j c.loop-j.elements.items element c.loop-j.invariant.count
            (λ k m. c.loop-j.invariant.elements.fit k (omega (arith, m, c.loop-j.invariant.count))) found i (omega (arith, l, count));
      };
    }
