use Rattle.std.proofs.Common.{◌≡◌, ◌∙◌, ◌≤◌, ◌^◌, length, refl, subst, sym, arith}
use Rattle.std.specs.Int.{IsNextPowerOfTwo}
use Rattle.math_splitting.proofs.LayoutNumbers.{next_of}
use Rattle.math_shards.specs.Correcting.{is_settled, settled}
use Rattle.math_shards.proofs.GatheredShards.{HoldsFirst, holds_none, holds_all}
use Rattle.math_shards.proofs.KeptItems.{kept-all, kept-fails}
use Rattle.math_shards.proofs.SettledShards.{holds_settled, settled_sound}
use Rattle.math_shards.proofs.shards.correcting.settled_rows.Goals as goal
use Rattle.math_shards.proofs.shards.correcting.settled_rows.Goals.{then-is_settled+in_ok-fill_row, else-is_settled}

pub new-layout-requires-clause-some : goal.new-layout-requires-clause-some
new-layout-requires-clause-some c = let s = c.requires.sound 0 c.args.first.now c.requires.some in omega (arith, s.0.least, s.0.some)

pub new-layout-requires-clause-within : goal.new-layout-requires-clause-within
new-layout-requires-clause-within c = let s = c.requires.sound 0 c.args.first.now c.requires.some in omega (arith, s.0.least, s.0.most, s.0.within)

pub loop-shard-init : goal.loop-shard-init
loop-shard-init c =
    let first = c.args.first.now in
    let shards = c.args.shards.now in
    let layout = c.new-layout.result in
    let total = c.new-layout.ensures.total in
    let wide : layout.width ≡ length first.cells.items = omega (arith, c.new-layout.ensures.width, c.len.ensures, first.cells.ok.0) in
    let points : first.total ≤ 2 ^ layout.lg = omega (arith, layout.points, total) in (
      layout,
      total,
      holds_none layout.lg _ first (settled shards) points refl (settled_sound first shards c.requires.sound) c.in_ok-values.values
          (rw wide at c.in_ok-values.ensures.size) c.in_ok-values.ensures.filled,
    )

-- the row of a shard is one of the rows
pub fill_row-requires-clause-row : goal.fill_row-requires-clause-row
fill_row-requires-clause-row c = grind arith

pub fill_row-requires-clause-few : goal.fill_row-requires-clause-few
fill_row-requires-clause-few c = grind arith

pub loop-shard-preserved : goal.loop-shard-preserved
loop-shard-preserved c =
    let first = c.args.first.now in
    let shards = c.args.shards.now in
    let layout = c.loop-shard.invariant.0 in
    let total = c.loop-shard.invariant.1 in
    let held = c.loop-shard.invariant.2 in
    let points : first.total ≤ 2 ^ layout.lg = omega (arith, layout.points, total) in
    let n = c.loop-shard.shard-index in
    let s = c.shard-item.result in (
      layout,
      total,
      elim c.if-is_settled.branch [
        | then-is_settled+in_ok-fill_row w ↦
            rw w.values-is (holds_settled layout.lg _ first shards points refl c.requires.sound n s c.loop-shard.values w.fill_row.new.self held c.loop-shard-test.true
            c.shard-item.is (sym c.is_settled.ensures ∙ w.if-is_settled.true) (rw w.deref.ensures.value at w.in_ok-fill_row.ensures.ok))
        | else-is_settled w ↦
            rw (w.values-is, kept-fails (is_settled shards) shards n s c.loop-shard-test.true c.shard-item.is (sym c.is_settled.ensures ∙ w.if-is_settled.false)) held
      ],
    )

pub returns : goal.returns
returns c =
    let first = c.args.first.now in
    let shards = c.args.shards.now in
    let layout = c.loop-shard.invariant.0 in
    let total = c.loop-shard.invariant.1 in
    let points : first.total ≤ 2 ^ layout.lg = omega (arith, layout.points, total) in
    let all : length shards ≤ c.loop-shard.shard-index = omega arith in
    let held = subst (λ m. HoldsFirst layout.lg (length first.cells.items) (settled shards) m c.loop-shard.values) (kept-all (is_settled shards) shards c.loop-shard.shard-index all) c.loop-shard.invariant.2 in (
      layout.lg,
      record {
        short = omega (arith, layout.short, total);
        next = subst (λ n. IsNextPowerOfTwo n (2 ^ layout.lg)) total (next_of layout);
        holds = holds_all layout.lg _ first (settled shards) points refl (settled_sound first shards c.requires.sound) c.loop-shard.values held;
        some = c.requires.some;
        sound = c.requires.sound;
      },
    )
