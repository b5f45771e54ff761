use Rattle.std.proofs.Common.{◌+◌, ◌^◌, sym, subst, ◌∙◌, arith}
use Rattle.std.proofs.lemmas.Bool.{false≢true}
use Rattle.systematic_shards.proofs.Settled.{AreMarkedBefore, marked-all, marked-none, marked-passed, marked-set}
use Rattle.systematic_shards.proofs.correcting.settled_points.Goals as goal
use Rattle.systematic_shards.proofs.correcting.settled_points.Goals.{then-is_settled, else-is_settled}

pub loop-row-init : goal.loop-row-init
loop-row-init g c = marked-none g.M.WordMemory.word c.args.code.split c.args.code.mask c.args.rows.now (2 ^ c.args.lg) c.in_ok-points.points c.in_ok-points.ensures

pub loop-row-preserved : goal.loop-row-preserved
loop-row-preserved g c =
    let word = g.M.WordMemory.word in
    let split = c.args.code.split in
    let mask = c.args.code.mask in
    let rows = c.args.rows.now in
    let n = c.loop-row.row-index in
    let row = c.row-item.result in
    let size = 2 ^ c.args.lg in
    elim c.if-is_settled.branch [
      | then-is_settled w ↦
          subst (AreMarkedBefore word split mask rows (n + 1) size) (sym (w.points-is ∙ w.set_non_vanishing.ensures))
          (marked-set word split mask rows n size row c.loop-row.points c.loop-row-test.true c.row-item.is (rw (← c.row-item.is) at (c.requires.below n row c.loop-row-test.true))
          (c.is_settled.ensures.0 w.if-is_settled.true) c.loop-row.invariant)
      | else-is_settled w ↦
          subst (AreMarkedBefore word split mask rows (n + 1) size) (sym w.points-is)
          (marked-passed word split mask rows n size row c.loop-row.points c.loop-row-test.true c.row-item.is (λ s. false≢true (sym w.if-is_settled.false ∙ c.is_settled.ensures.1 s)) c.loop-row.invariant)
    ]

pub returns : goal.returns
returns g c = marked-all g.M.WordMemory.word c.args.code.split c.args.code.mask c.args.rows.now c.loop-row.row-index (2 ^ c.args.lg) c.loop-row.points (omega (arith, c.loop-row-test.false, c.loop-row.auto.row-index-end)) c.loop-row.invariant
