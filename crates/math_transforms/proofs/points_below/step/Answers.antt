use Rattle.std.proofs.Common.{◌≡◌, ◌-◌, ◌*◌, ◌<◌, ◌≤◌, ◌^◌, length, refl, ap, pow_pos, rules, arith}
use Rattle.std.proofs.lemmas.Nat.{mul-le}
use Rattle.math_transforms.proofs.StepsBelow.{step-at}
use Rattle.math_transforms.proofs.points_below.step.Goals as goal

pub overflow_mul-part : goal.overflow_mul-part
overflow_mul-part g c =
    let p = c.args.points.now in
    let w = step-at c.args.levels p.lg c.args.levels p.place c.args.cols (length p.roots.now) (length c.args.rows.now) c.size_of.result refl c.requires.deep c.requires.points.within c.requires.size c.size_of.ensures in
    let least : 1 * (c.size_of.result * c.args.cols) ≤ 2 ^ c.args.levels * (c.size_of.result * c.args.cols) = mul-le 1 (c.size_of.result * c.args.cols) (2 ^ c.args.levels) (c.size_of.result * c.args.cols) (pow_pos c.args.levels) (omega arith) in
    let within : c.size_of.result * c.args.cols ≤ length c.args.rows.now = omega (arith, w.cells, least) in
    search rules

pub returns-then-levels-eq0-clause-stepped : goal.returns-then-levels-eq0-clause-stepped
returns-then-levels-eq0-clause-stepped g c = record { none = λ z. refl; one = λ z. absurd (omega (arith, z, c.if-levels-eq0.true)); two = λ z. absurd (omega (arith, z, c.if-levels-eq0.true)) }

pub returns-then-levels-eq0-clause-counted : goal.returns-then-levels-eq0-clause-counted
returns-then-levels-eq0-clause-counted g c = let none : c.args.levels * length c.args.rows.now ≡ 0 * length c.args.rows.now = ap (λ i. i * length c.args.rows.now) c.if-levels-eq0.true in omega (arith, none)

pub combine_rows_at-requires-clause-inside : goal.combine_rows_at-requires-clause-inside
combine_rows_at-requires-clause-inside g c =
    let p = c.args.points.now in
    let w = step-at 1 p.lg c.args.levels p.place c.args.cols (length p.roots.now) (length c.args.rows.now) c.size_of.result c.if-levels-eq1.true c.requires.deep c.requires.points.within c.requires.size c.size_of.ensures in
    omega (arith, w.inside)

pub combine_rows_at-requires-clause-size : goal.combine_rows_at-requires-clause-size
combine_rows_at-requires-clause-size g c =
    let p = c.args.points.now in
    let w = step-at 1 p.lg c.args.levels p.place c.args.cols (length p.roots.now) (length c.args.rows.now) c.size_of.result c.if-levels-eq1.true c.requires.deep c.requires.points.within c.requires.size c.size_of.ensures in
    w.cells

pub combine_rows_at-requires-clause-room : goal.combine_rows_at-requires-clause-room
combine_rows_at-requires-clause-room g c =
    let p = c.args.points.now in
    let w = step-at 1 p.lg c.args.levels p.place c.args.cols (length p.roots.now) (length c.args.rows.now) c.size_of.result c.if-levels-eq1.true c.requires.deep c.requires.points.within c.requires.size c.size_of.ensures in
    omega (arith, w.cells, w.count, c.requires.room)

pub returns-in_err-combine_rows_at-clause-counted : goal.returns-in_err-combine_rows_at-clause-counted
returns-in_err-combine_rows_at-clause-counted g c =
    let p = c.args.points.now in
    let w = step-at 1 p.lg c.args.levels p.place c.args.cols (length p.roots.now) (length c.args.rows.now) c.size_of.result c.if-levels-eq1.true c.requires.deep c.requires.points.within c.requires.size c.size_of.ensures in
    omega (arith, w.cells, w.count, c.combine_rows_at.ensures.counted)

pub returns-in_err-combine_rows_at-clause-refused : goal.returns-in_err-combine_rows_at-clause-refused
returns-in_err-combine_rows_at-clause-refused g c =
    let p = c.args.points.now in
    let w = step-at 1 p.lg c.args.levels p.place c.args.cols (length p.roots.now) (length c.args.rows.now) c.size_of.result c.if-levels-eq1.true c.requires.deep c.requires.points.within c.requires.size c.size_of.ensures in
    let more : c.args.work.now.butterflies < c.combine_rows_at.new.work.butterflies = omega (arith, w.cells, c.requires.some, c.combine_rows_at.ensures.counted) in
    search rules

pub returns-then-levels-eq1-clause-counted : goal.returns-then-levels-eq1-clause-counted
returns-then-levels-eq1-clause-counted g c =
    let p = c.args.points.now in
    let w = step-at 1 p.lg c.args.levels p.place c.args.cols (length p.roots.now) (length c.args.rows.now) c.size_of.result c.if-levels-eq1.true c.requires.deep c.requires.points.within c.requires.size c.size_of.ensures in
    omega (arith, w.cells, w.count, c.combine_rows_at.ensures.counted)

pub returns-then-levels-eq1-clause-stepped : goal.returns-then-levels-eq1-clause-stepped
returns-then-levels-eq1-clause-stepped g c = grind arith

pub turn_rows_at-requires-clause-two : goal.turn_rows_at-requires-clause-two
turn_rows_at-requires-clause-two g c = omega (arith, c.requires.few, c.requires.deep, c.if-levels-eq0.false, c.if-levels-eq1.false)

pub turn_rows_at-requires-clause-inside : goal.turn_rows_at-requires-clause-inside
turn_rows_at-requires-clause-inside g c =
    let p = c.args.points.now in
    let w = step-at 2 p.lg c.args.levels p.place c.args.cols (length p.roots.now) (length c.args.rows.now) c.size_of.result (omega (arith, c.requires.few, c.if-levels-eq0.false, c.if-levels-eq1.false)) c.requires.deep c.requires.points.within c.requires.size c.size_of.ensures in
    omega (arith, w.inside)

pub turn_rows_at-requires-clause-size : goal.turn_rows_at-requires-clause-size
turn_rows_at-requires-clause-size g c =
    let p = c.args.points.now in
    let w = step-at 2 p.lg c.args.levels p.place c.args.cols (length p.roots.now) (length c.args.rows.now) c.size_of.result (omega (arith, c.requires.few, c.if-levels-eq0.false, c.if-levels-eq1.false)) c.requires.deep c.requires.points.within c.requires.size c.size_of.ensures in
    w.cells

pub turn_rows_at-requires-clause-room : goal.turn_rows_at-requires-clause-room
turn_rows_at-requires-clause-room g c =
    let p = c.args.points.now in
    let w = step-at 2 p.lg c.args.levels p.place c.args.cols (length p.roots.now) (length c.args.rows.now) c.size_of.result (omega (arith, c.requires.few, c.if-levels-eq0.false, c.if-levels-eq1.false)) c.requires.deep c.requires.points.within c.requires.size c.size_of.ensures in
    omega (arith, w.cells, w.count, c.requires.room)

pub returns-in_err-turn_rows_at-clause-counted : goal.returns-in_err-turn_rows_at-clause-counted
returns-in_err-turn_rows_at-clause-counted g c =
    let p = c.args.points.now in
    let w = step-at 2 p.lg c.args.levels p.place c.args.cols (length p.roots.now) (length c.args.rows.now) c.size_of.result (omega (arith, c.requires.few, c.if-levels-eq0.false, c.if-levels-eq1.false)) c.requires.deep c.requires.points.within c.requires.size c.size_of.ensures in
    omega (arith, w.cells, w.count, c.turn_rows_at.ensures.counted)

pub returns-in_err-turn_rows_at-clause-refused : goal.returns-in_err-turn_rows_at-clause-refused
returns-in_err-turn_rows_at-clause-refused g c =
    let p = c.args.points.now in
    let w = step-at 2 p.lg c.args.levels p.place c.args.cols (length p.roots.now) (length c.args.rows.now) c.size_of.result (omega (arith, c.requires.few, c.if-levels-eq0.false, c.if-levels-eq1.false)) c.requires.deep c.requires.points.within c.requires.size c.size_of.ensures in
    let more : c.args.work.now.butterflies < c.turn_rows_at.new.work.butterflies = omega (arith, w.cells, c.requires.some, c.turn_rows_at.ensures.counted) in
    search rules

pub returns-clause-counted : goal.returns-clause-counted
returns-clause-counted g c =
    let p = c.args.points.now in
    let w = step-at 2 p.lg c.args.levels p.place c.args.cols (length p.roots.now) (length c.args.rows.now) c.size_of.result (omega (arith, c.requires.few, c.if-levels-eq0.false, c.if-levels-eq1.false)) c.requires.deep c.requires.points.within c.requires.size c.size_of.ensures in
    omega (arith, w.cells, w.count, c.turn_rows_at.ensures.counted)

pub returns-clause-stepped : goal.returns-clause-stepped
returns-clause-stepped g c = grind arith
