use Rattle.std.proofs.Common.{◌≡◌, ◌∙◌, ◌+◌, ◌-◌, ◌*◌, length, take, drop, refl, ap, arith}
use Rattle.math_splitting.specs.declared.shards.Shard.{Shard}
use Rattle.math_splitting.specs.ShardRows.{IsCutAt, indices_in}
use Rattle.math_splitting.proofs.CutShards.{cut-more}
use Rattle.math_splitting.proofs.shards.splitting.cut_rows.Goals as goal

pub loop-t-init : goal.loop-t-init
loop-t-init c = record { count = ap length c.in_ok-shards.ensures.items; each = λ t d l. absurd (omega (arith, l)) }

pub loop-t-preserved : goal.loop-t-preserved
loop-t-preserved c =
    let indices = indices_in c.args.wanted in
    let cells = c.args.cells.now in
    let width = c.args.layout.width in
    let t = c.loop-t.t in
    let at = t * width in
    let s : Shard = record { index = c.wanted_index.result; min = c.args.layout.min; total = c.args.layout.total; cells = c.in_ok-row.row } in
    let e : at + width - at ≡ width = omega arith in
    let here : IsCutAt c.args.layout.min c.args.layout.total width indices cells t s = record {
      index = c.wanted_index.ensures;
      least = refl;
      most = refl;
      row = c.in_ok-row.ensures ∙ ap (λ n. take n (drop at cells)) e;
    } in
    rw c.in_ok-push.ensures.items (cut-more c.args.layout.min c.args.layout.total width indices cells t c.loop-t.shards.items s c.loop-t.invariant here)

pub returns : goal.returns
returns c = grind arith
