use Rattle.std.proofs.Common.{rules, ◌∙◌, ◌++◌, ◌∷◌, ◌+◌, ◌-◌, ◌≤◌, [], alloc_error, ap, drop, length, subst, sym, Some, arith}
use Rattle.std.proofs.lemmas.List.{drop-append-le}
use Rattle.math_fields.specs.Elements.{sample_of}
use Rattle.math_base.proofs.SampleLists.{no_samples, sample_behind, samples_end}
use Rattle.secret_bytes.specs.Deals.{IsDueSampling}
use Rattle.secret_bytes.specs.declared.error.DealError.TheVariants.{Memory}
use Rattle.secret_bytes.proofs.PassedErrors.{passed}
use Rattle.secret_bytes.proofs.dealing.sample_polynomial.Goals as goal

pub returns-in_err-p-clause-due : goal.returns-in_err-p-clause-due
returns-in_err-p-clause-due g c =
    let s = g.G.Rng.stream c.args.rng.now in
    passed c.from_residual.result (Memory c.in_err-p.field-0.0) (IsDueSampling (c.args.t - 1) s s) c.from_residual.ensures.1 (0, [], omega arith, no_samples sample_of s)

pub loop-drawn-init : goal.loop-drawn-init
loop-drawn-init g c =
    let items = c.in_ok-push.ensures.items ∙ ap (λ l. l ++ c.args.element ∷ []) c.in_ok-p.ensures.items in
    record {
      count = search rules;
      constant = search rules;
      sampled = no_samples sample_of (g.G.Rng.stream c.args.rng.now) ∙ ap (λ l. (Some (drop 1 l), g.G.Rng.stream c.args.rng.now)) (sym items);
    }

pub returns-in_err-draw-clause-due : goal.returns-in_err-draw-clause-due
returns-in_err-draw-clause-due g c =
    let refused = c.in_err-draw.ensures.refused in
    let due = IsDueSampling (c.args.t - 1) (g.G.Rng.stream c.args.rng.now) (g.G.Rng.stream c.draw.new.rng) in
    let none = samples_end sample_of c.loop-drawn._drawn (c.args.t - 1) _ _ _ _ c.loop-drawn.invariant.sampled refused.1 c.loop-drawn-test.true in
    passed c.from_residual-in_err-draw.result c.in_err-draw.field-0.0 due c.from_residual-in_err-draw.ensures.1 (subst due (sym refused.0) none)

pub returns-in_err-push-2-clause-due : goal.returns-in_err-push-2-clause-due
returns-in_err-push-2-clause-due g c =
    let i = c.loop-drawn._drawn in
    let drawn = sample_behind sample_of i _ _ _ _ _ c.loop-drawn.invariant.sampled c.in_ok-draw.ensures.sampled in
    passed c.from_residual-in_err-push-2.result (Memory alloc_error) (IsDueSampling (c.args.t - 1) (g.G.Rng.stream c.args.rng.now) (g.G.Rng.stream c.draw.new.rng))
    c.from_residual-in_err-push-2.ensures.1 (i + 1, drop 1 c.loop-drawn.p.items ++ c.in_ok-draw.field-0 ∷ [], omega (arith, c.loop-drawn-test.true), drawn)

pub loop-drawn-preserved : goal.loop-drawn-preserved
loop-drawn-preserved g c =
    let i = c.loop-drawn.invariant in
    let items = c.in_ok-push-2.ensures.items in
    let before = c.loop-drawn.p.items in
    let has_one : 1 ≤ length before = omega (arith, i.count) in
    record {
      count = search rules;
      constant = search rules;
      sampled = sample_behind sample_of c.loop-drawn._drawn _ _ _ _ _ i.sampled c.in_ok-draw.ensures.sampled
          ∙ ap (λ l. (Some l, g.G.Rng.stream c.draw.new.rng)) (sym (ap (drop 1) items ∙ drop-append-le 1 before (c.in_ok-draw.field-0 ∷ []) has_one));
    }
