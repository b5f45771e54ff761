use Rattle.std.proofs.Common.{◌≡◌, ◌∙◌, ◌+◌, ◌-◌, ◌*◌, ◌++◌, [], ◌∷◌, drop, length, take, ap, refl, sym, arith}
use Rattle.std.proofs.lemmas.List.{take_all, take_more}
use Rattle.std.specs.List.{AllZip, range_with_len}
use Rattle.secret_bytes.specs.Deals.{IsDueSampling}
use Rattle.secret_bytes.specs.Rows.{IsGrown}
use Rattle.secret_bytes.specs.declared.error.DealError.TheVariants.{Memory}
use Rattle.secret_bytes.proofs.DealtRows.{rows-grown, sampled-push}
use Rattle.secret_bytes.proofs.DrawnSamples.{due-in-turn}
use Rattle.secret_bytes.proofs.PassedErrors.{passed}
use Rattle.secret_bytes.proofs.dealing.deal_all.Goals as goal

pub loop-element-init : goal.loop-element-init
loop-element-init g c = record { polynomials = []; sampled = refl; rows = λ deal n h. h }

pub returns-in_err-p-clause-due : goal.returns-in_err-p-clause-due
returns-in_err-p-clause-due g c =
    let v = c.loop-element.invariant in
    let all = c.args.elements.now in
    let before = g.G.Rng.stream c.args.rng.now in
    let after = g.G.Rng.stream c.sample_polynomial.new.rng in
    let error = c.in_err-p.field-0.0 in
    passed c.from_residual.result error (IsDueSampling (length all * (c.args.t - 1)) before after) c.from_residual.ensures.1
    (due-in-turn c.args.t c.loop-element.element-index before (g.G.Rng.stream c.loop-element.rng) after all v.polynomials error v.sampled c.loop-element-test.true c.in_err-p.ensures.due)

pub returns-in_err-push_values-clause-due : goal.returns-in_err-push_values-clause-due
returns-in_err-push_values-clause-due g c =
    let v = c.loop-element.invariant in
    let t = c.args.t in
    let all = c.args.elements.now in
    let before = g.G.Rng.stream c.args.rng.now in
    let after = g.G.Rng.stream c.sample_polynomial.new.rng in
    let error = Memory c.in_err-push_values.field-0.0 in
    passed c.from_residual-in_err-push_values.result error (IsDueSampling (length all * (t - 1)) before after) c.from_residual-in_err-push_values.ensures.1
    (due-in-turn t c.loop-element.element-index before (g.G.Rng.stream c.loop-element.rng) after all v.polynomials error v.sampled c.loop-element-test.true
    (t - 1, drop 1 c.in_ok-p.p.items, omega arith, c.in_ok-p.ensures.sampled.others))

pub loop-element-preserved : goal.loop-element-preserved
loop-element-preserved g c =
    let v = c.loop-element.invariant in
    let i = c.loop-element.element-index in
    let all = c.args.elements.now in
    let a = c.element-item.result in
    let p = c.in_ok-p.p.items in
    let more : take (i + 1) all ≡ take i all ++ (a ∷ []) = take_more all i a c.loop-element-test.true ∙ ap (λ x. take i all ++ (x ∷ [])) (sym c.element-item.is) in
    let grown : AllZip (IsGrown p) c.loop-element.rows c.push_values.new.rows = rw c.deref.ensures.value at c.in_ok-push_values.ensures in
    record {
      polynomials = v.polynomials ++ (p ∷ []);
      sampled = rw more (sampled-push c.args.t (g.G.Rng.stream c.args.rng.now) (g.G.Rng.stream c.loop-element.rng) (g.G.Rng.stream c.sample_polynomial.new.rng) (take i all) v.polynomials a p v.sampled c.in_ok-p.ensures.sampled);
      rows = λ deal n h. rows-grown c.args.t deal v.polynomials p (range_with_len 1 n) c.loop-element.rows c.push_values.new.rows (v.rows deal n h) grown;
    }

pub returns-clause-dealt : goal.returns-clause-dealt
returns-clause-dealt g c = rw (take_all c.loop-element.element-index c.args.elements.now c.loop-element-test.false) at c.loop-element.invariant
