use Rattle.std.proofs.Common.{◌≡◌, ◌∙◌, ◌-◌, ◌*◌, ℕ, [], length, map, Some, ap, arith, subst, sym}
use Rattle.std.specs.List.{All, flat_map, range_with_len}
use Rattle.std.proofs.Common.{drop}
use Rattle.rand_core.specs.Stream.{Stream}
use Rattle.math_fields.specs.declared.goldilocks.F.{F}
use Rattle.math_fields.specs.Elements.{sample_of}
use Rattle.math_base.proofs.SampleLists.{no_samples}
use Rattle.secret_bytes.specs.declared.dealing.Row.{Row}
use Rattle.secret_bytes.specs.declared.error.DealError.TheVariants.{Memory}
use Rattle.secret_bytes.specs.Deals.{AreSampled, IsDueSampling, IsOfDeal, sample_count}
use Rattle.secret_bytes.specs.Keyed.{element_count}
use Rattle.secret_bytes.specs.Rows.{AreRows}
use Rattle.secret_bytes.proofs.DealtRows.{rows-alike, rows-count, rows-dealt, rows-indices, sampled-count, written-all}
use Rattle.secret_bytes.proofs.DrawnSamples.{due-after-two, first-refused, sampled-samples, second-refused}
use Rattle.secret_bytes.proofs.PackedAlone.{keyed-length}
use Rattle.secret_bytes.proofs.PassedErrors.{passed}
use Rattle.secret_bytes.proofs.dealing.deal.Goals as goal

pub returns-in_err-deal-clause-due : goal.returns-in_err-deal-clause-due
returns-in_err-deal-clause-due g c =
    let most = sample_count c.args.t (length c.args.bytes.now) in
    let before = g.G.Rng.stream c.args.rng.now in
    let after = g.G.Rng.stream c.draw.new.rng in
    let refused = c.in_err-deal.ensures.refused in
    passed c.from_residual.result c.in_err-deal.field-0.0 (IsDueSampling most before after) c.from_residual.ensures.1
    (subst (IsDueSampling most before after) (sym refused.0) (first-refused (element_count (length c.args.bytes.now) * (c.args.t - 1)) before after refused.1))

pub returns-in_err-key-clause-due : goal.returns-in_err-key-clause-due
returns-in_err-key-clause-due g c =
    let most = sample_count c.args.t (length c.args.bytes.now) in
    let before = g.G.Rng.stream c.args.rng.now in
    let after = g.G.Rng.stream c.draw-2.new.rng in
    let refused = c.in_err-key.ensures.refused in
    passed c.from_residual-in_err-key.result c.in_err-key.field-0.0 (IsDueSampling most before after) c.from_residual-in_err-key.ensures.1
    (subst (IsDueSampling most before after) (sym refused.0)
    (second-refused (element_count (length c.args.bytes.now) * (c.args.t - 1)) before (g.G.Rng.stream c.draw.new.rng) after c.in_ok-deal.deal c.in_ok-deal.ensures.sampled refused.1))

pub returns-in_err-all-clause-due : goal.returns-in_err-all-clause-due
returns-in_err-all-clause-due g c =
    let before = g.G.Rng.stream c.args.rng.now in
    let third = g.G.Rng.stream c.draw-2.new.rng in
    let error = Memory c.in_err-all.field-0.0 in
    passed c.from_residual-in_err-all.result error (IsDueSampling (sample_count c.args.t (length c.args.bytes.now)) before third) c.from_residual-in_err-all.ensures.1
    (due-after-two (element_count (length c.args.bytes.now) * (c.args.t - 1)) before (g.G.Rng.stream c.draw.new.rng) third third c.in_ok-deal.deal c.in_ok-key.key error
    c.in_ok-deal.ensures.sampled c.in_ok-key.ensures.sampled (0, [], omega arith, no_samples sample_of third))

pub returns-in_err-rows-clause-due : goal.returns-in_err-rows-clause-due
returns-in_err-rows-clause-due g c =
    let before = g.G.Rng.stream c.args.rng.now in
    let third = g.G.Rng.stream c.draw-2.new.rng in
    let error = Memory c.in_err-rows.field-0.0 in
    passed c.from_residual-in_err-rows.result error (IsDueSampling (sample_count c.args.t (length c.args.bytes.now)) before third) c.from_residual-in_err-rows.ensures.1
    (due-after-two (element_count (length c.args.bytes.now) * (c.args.t - 1)) before (g.G.Rng.stream c.draw.new.rng) third third c.in_ok-deal.deal c.in_ok-key.key error
    c.in_ok-deal.ensures.sampled c.in_ok-key.ensures.sampled (0, [], omega arith, no_samples sample_of third))

pub returns-in_err-deal_all-clause-due : goal.returns-in_err-deal_all-clause-due
returns-in_err-deal_all-clause-due g c =
    let t = c.args.t in
    let all = c.in_ok-all.all.items in
    let before = g.G.Rng.stream c.args.rng.now in
    let third = g.G.Rng.stream c.draw-2.new.rng in
    let after = g.G.Rng.stream c.deal_all.new.rng in
    let error = c.in_err-deal_all.field-0.0 in
    let count : length all ≡ element_count (length c.args.bytes.now) = keyed-length c.in_ok-key.key c.args.bytes.now all c.in_ok-all.ensures in
    let due : IsDueSampling (length all * (t - 1)) third after error = rw c.deref.ensures.value at c.in_err-deal_all.ensures.due in
    passed c.from_residual-in_err-deal_all.result error (IsDueSampling (sample_count t (length c.args.bytes.now)) before after) c.from_residual-in_err-deal_all.ensures.1
    (due-after-two (element_count (length c.args.bytes.now) * (t - 1)) before (g.G.Rng.stream c.draw.new.rng) third after c.in_ok-deal.deal c.in_ok-key.key error
    c.in_ok-deal.ensures.sampled c.in_ok-key.ensures.sampled (subst (λ (n : ℕ). IsDueSampling (n * (t - 1)) third after error) count due))

pub returns-in_err-shares-clause-due : goal.returns-in_err-shares-clause-due
returns-in_err-shares-clause-due g c =
    let t = c.args.t in
    let all = c.in_ok-all.all.items in
    let before = g.G.Rng.stream c.args.rng.now in
    let third = g.G.Rng.stream c.draw-2.new.rng in
    let after = g.G.Rng.stream c.deal_all.new.rng in
    let error = Memory c.in_err-shares.field-0.0 in
    let count : length all ≡ element_count (length c.args.bytes.now) = keyed-length c.in_ok-key.key c.args.bytes.now all c.in_ok-all.ensures in
    let dealt = c.in_ok-deal_all.ensures.dealt in
    let sampled : AreSampled t third after all dealt.polynomials = rw c.deref.ensures.value at dealt.sampled in
    let due : IsDueSampling (length all * (t - 1)) third after error =
    (length all * (t - 1), flat_map (drop 1) dealt.polynomials, omega arith, sampled-samples t third after all dealt.polynomials sampled) in
    passed c.from_residual-in_err-shares.result error (IsDueSampling (sample_count t (length c.args.bytes.now)) before after) c.from_residual-in_err-shares.ensures.1
    (due-after-two (element_count (length c.args.bytes.now) * (t - 1)) before (g.G.Rng.stream c.draw.new.rng) third after c.in_ok-deal.deal c.in_ok-key.key error
    c.in_ok-deal.ensures.sampled c.in_ok-key.ensures.sampled (subst (λ (n : ℕ). IsDueSampling (n * (t - 1)) third after error) count due))

pub returns-clause-dealt : goal.returns-clause-dealt
returns-clause-dealt g c =
    let t = c.args.t in
    let n = c.args.n in
    let deal = c.in_ok-deal.deal in
    let keyed = c.in_ok-all.ensures in
    let all = c.in_ok-all.all.items in
    let shares = c.in_ok-shares.shares.items in
    let empty = c.in_ok-rows.rows.items in
    let rows = c.deal_all.new.rows in
    let now : Stream = g.G.Rng.stream c.draw-2.new.rng in
    let after : Stream = g.G.Rng.stream c.deal_all.new.rng in
    let start : AreRows t deal n [] empty = c.in_ok-rows.ensures in
    let dealt = c.in_ok-deal_all.ensures.dealt in
    let polynomials = dealt.polynomials in
    let are : AreRows t deal n polynomials rows = dealt.rows deal n (rw c.deref_mut.ensures.value start) in
    let sampled : AreSampled t now after all polynomials = rw c.deref.ensures.value at dealt.sampled in
    let width : length polynomials ≡ length all = sampled-count t now after all polynomials sampled in
    let count : length rows ≡ length empty = rows-count t deal polynomials (range_with_len 1 n) rows are ∙ sym (rows-count t deal [] (range_with_len 1 n) empty start) in
    let is : shares ≡ map (λ (r : Row). r.share) rows =
    c.in_ok-shares.ensures ∙ ap (map (λ (r : Row). r.share)) (written-all c.in_ok-rows.rows.len rows empty count (omega (arith, c.in_ok-rows.rows.ok))) in
    record {
      deal = deal;
      all = all;
      polynomials = polynomials;
      second = g.G.Rng.stream c.draw.new.rng;
      third = now;
      keyed = keyed.0;
      deal_sampled = c.in_ok-deal.ensures.sampled;
      key_sampled = subst (λ (k : F). sample_of (g.G.Rng.stream c.draw.new.rng) ≡ (Some k, now)) (sym keyed.1) c.in_ok-key.ensures.sampled;
      sampled = sampled;
      indices = rw is (rows-indices t deal polynomials (range_with_len 1 n) rows are);
      alike = rw is (subst (λ (w : ℕ). All (IsOfDeal t deal w) (map (λ (r : Row). r.share) rows)) width (rows-alike t deal polynomials (range_with_len 1 n) rows are));
      columns = λ j l. rw is (rows-dealt t deal n polynomials rows c.ranges.n.fits are j l);
    }
