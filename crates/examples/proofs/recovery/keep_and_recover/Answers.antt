use Rattle.std.proofs.Common.{◌≡◌, ◌∙◌, ◌^◌, length, sym, ap}
use Rattle.math_transforms.proofs.BitmapPoints.{length-truth_values}
use Rattle.examples.proofs.RecoveredRows.{kept_rows}
use Rattle.examples.proofs.recovery.keep_and_recover.Goals as goal

pub returns : goal.returns
returns g c = λ zeros.
    let F = g.met.F in
    let lg = c.kept.inside.lg_size in
    let rows : c.args.polynomials.rows ≡ 2 ^ lg = sym c.requires.count ∙ sym (ap length c.kept.view_is) ∙ length-truth_values lg c.kept.inside.words.items c.kept.invariant in
    kept_rows
    (record {
      product = g.F.Multiplicative.product;
      debug_output = g.F.Debug.debug_output;
      same = g.F.Object.same;
      NEVER_REFUSES = g.F.Object.NEVER_REFUSES;
      zero = g.F.Additive.zero;
      sum = g.F.Additive.sum;
      negative = g.F.Additive.negative;
      one = g.F.Ring.one;
    })
    g.F.FieldNTT.root g.F.FieldNTT.MAX_LG_ROOT_ORDER c.recovered_values.ensures.some F.Object.equality lg c.args.polynomials c.in_ok-answer.answer c.in_ok-values.values.matrix
    c.args.kept c.from_parts-left.result (c.requires.domain lg rows) rows c.requires.count c.in_ok-values.ensures.size c.in_ok-values.ensures.values
    (c.from_parts-left.ensures.matrix ∙ c.data.ensures) c.from_parts-left.ensures.filled zeros c.in_ok-answer.ensures.fits
