use Rattle.std.proofs.Common.{◌*◌, ◌%◌, ◌^◌, ◌∙◌, ap, refl, sym, lit<, rules}
use Rattle.std.proofs.lemmas.Bool.{eq-eqb, ne_eqb}
use Rattle.math_numbers.specs.Goldilocks.{P}
use Rattle.math_numbers.proofs.PowersModulo.{power_mod-by_squaring}
use Rattle.math_fields.specs.Elements.{negative, number, product, residue, sum}
use Rattle.math_fields.proofs.TurnedElements.{turned_back, turned_forward}
use Rattle.math_fields.proofs.goldilocks.columns.turn_lanes.Goals as goal

pub scale_lanes-third-requires : goal.scale_lanes-third-requires
scale_lanes-third-requires g c = (search rules, (search rules, λ one j small. (c.requires.one one j small).1))

pub scale_lanes-second-requires : goal.scale_lanes-second-requires
scale_lanes-second-requires g c = (search rules, (search rules, λ one j small. (c.requires.one one j small).0))

pub scale_lanes-fourth-requires : goal.scale_lanes-fourth-requires
scale_lanes-fourth-requires g c = (search rules, (search rules, λ one j small. (c.requires.one one j small).2))

pub scale_lanes-by_e-requires : goal.scale_lanes-by_e-requires
scale_lanes-by_e-requires g c = (search rules, (search rules, λ one j small. (c.requires.one one j small).0))

pub scale_lanes-by_g-requires : goal.scale_lanes-by_g-requires
scale_lanes-by_g-requires g c = (search rules, (search rules, λ one j small. (c.requires.one one j small).1))

pub scale_lanes-by_eg-requires : goal.scale_lanes-by_eg-requires
scale_lanes-by_eg-requires g c = (search rules, (search rules, λ one j small. (c.requires.one one j small).2))

pub returns-then-this-ne0-clause-turned : goal.returns-then-this-ne0-clause-turned
returns-then-this-ne0-clause-turned g c = λ j p q k l m n w x y z f small he hg heg ha hb hc hd hw hx hy hz odd.
    let forward = ne_eqb g.row.FORWARD 0 c.if-this-ne0.true in
    let pq = product p q in
    let mg = product m q in
    let le = product l p in
    let ng = product n pq in
    let root = residue (2 ^ 48) in
    let third = c.scale_lanes-third.ensures.lanes j m q small hc hg in
    let second = c.scale_lanes-second.ensures.lanes j l p small hb he in
    let fourth = c.scale_lanes-fourth.ensures.lanes j n pq small hd heg in
    let more = c.plus-more.ensures.lanes j k mg small ha third in
    let less = c.minus-less.ensures.lanes j k mg small ha third in
    let first = c.plus-first.ensures.lanes j le ng small second fourth in
    let change = c.minus-change.ensures.lanes j le ng small second fourth in
    let turn = c.times_root-turn.ensures.lanes j (sum le (negative ng)) small change in
    rw forward
    (turned_forward k l m n p q root pq f refl w x y z (rw forward at odd)
    (sym hw ∙ c.plus-first_sum.ensures.lanes j (sum k mg) (sum le ng) small more first)
    (sym hx ∙ c.minus-first_difference.ensures.lanes j (sum k mg) (sum le ng) small more first)
    (sym hy ∙ c.plus-second_sum.ensures.lanes j (sum k (negative mg)) (product (sum le (negative ng)) root) small less turn)
    (sym hz ∙ c.minus-second_difference.ensures.lanes j (sum k (negative mg)) (product (sum le (negative ng)) root) small less turn))

pub returns-else-this-ne0-clause-turned : goal.returns-else-this-ne0-clause-turned
returns-else-this-ne0-clause-turned g c = λ j p q k l m n w x y z f small he hg heg ha hb hc hd hw hx hy hz odd.
    let back = eq-eqb g.row.FORWARD 0 c.if-this-ne0.false in
    let pq = product p q in
    let root = residue (2 ^ 48) in
    let lower = sum k (negative l) in
    let upper = sum m (negative n) in
    let front_is = c.plus-front.ensures.lanes j k l small ha hb in
    let lower_is = c.minus-lower.ensures.lanes j k l small ha hb in
    let behind_is = c.plus-behind.ensures.lanes j m n small hc hd in
    let upper_is = c.minus-upper.ensures.lanes j m n small hc hd in
    let turn_is = c.times_root-back.ensures.lanes j upper small upper_is in
    let x_is = c.minus-x.ensures.lanes j lower (product upper root) small lower_is turn_is in
    let y_is = c.minus-y.ensures.lanes j (sum k l) (sum m n) small front_is behind_is in
    let z_is = c.plus-z.ensures.lanes j lower (product upper root) small lower_is turn_is in
    rw back
    (turned_back k l m n p q root pq f refl w x y z
    ((rw back at odd) ∙ ap (λ t. number p * (t % P) % P) (power_mod-by_squaring 64 P 281474976710656 18446744069414584319 (lit< tt)))
    (sym hw ∙ c.plus-whole.ensures.lanes j (sum k l) (sum m n) small front_is behind_is)
    (sym hx ∙ c.scale_lanes-by_e.ensures.lanes j (sum lower (negative (product upper root))) p small x_is he)
    (sym hy ∙ c.scale_lanes-by_g.ensures.lanes j (sum (sum k l) (negative (sum m n))) q small y_is hg)
    (sym hz ∙ c.scale_lanes-by_eg.ensures.lanes j (sum lower (product upper root)) pq small z_is heg))
