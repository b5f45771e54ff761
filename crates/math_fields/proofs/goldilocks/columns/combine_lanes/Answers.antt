use Rattle.std.proofs.Common.{◌∙◌, sym, rules}
use Rattle.std.proofs.lemmas.Bool.{eq-eqb, ne_eqb}
use Rattle.math_fields.specs.Elements.{negative, product, sum}
use Rattle.math_fields.proofs.goldilocks.columns.combine_lanes.Goals as goal

pub scale_lanes-product-requires : goal.scale_lanes-product-requires
scale_lanes-product-requires g c = (search rules, (search rules, λ one j small. c.splat-weights.ensures.lanes j small ∙ c.requires.one one))

pub scale_lanes-requires : goal.scale_lanes-requires
scale_lanes-requires g c = (search rules, (search rules, λ one j small. c.splat-weights.ensures.lanes j small ∙ c.requires.one one))

pub returns-then-this-ne0-clause-combined : goal.returns-then-this-ne0-clause-combined
returns-then-this-ne0-clause-combined g c = λ j a b x y small ha hb hx hy.
    let p = c.scale_lanes-product.ensures.lanes j b c.args.w small hb (c.splat-weights.ensures.lanes j small) in
    rw (ne_eqb g.row.FORWARD 0 c.if-this-ne0.true)
    (record { sum = sym hx ∙ c.plus.ensures.lanes j a (product b c.args.w) small ha p; difference = sym hy ∙ c.minus.ensures.lanes j a (product b c.args.w) small ha p })

pub returns-else-this-ne0-clause-combined : goal.returns-else-this-ne0-clause-combined
returns-else-this-ne0-clause-combined g c = λ j a b x y small ha hb hx hy.
    let d = c.minus-difference.ensures.lanes j a b small ha hb in
    rw (eq-eqb g.row.FORWARD 0 c.if-this-ne0.false)
    (record { sum = sym hx ∙ c.plus-sum.ensures.lanes j a b small ha hb; difference = sym hy ∙ c.scale_lanes.ensures.lanes j (sum a (negative b)) c.args.w small d (c.splat-weights.ensures.lanes j small) })
