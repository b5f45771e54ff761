use Rattle.std.proofs.Common.{◌≡◌, ◌+◌, ◌*◌, ◌≤◌, ℕ, length, subst, arith}
use Rattle.systematic_shards.specs.Filled.{AreRunsFilled, made_word}
use Rattle.systematic_shards.specs.declared.making.Strip.{Strip}
use Rattle.systematic_shards.specs.Strips.{AreTargetsFilled, target_word}
use Rattle.systematic_shards.proofs.Filled.{filled-none}
use Rattle.systematic_shards.proofs.Made.{made-filled, made-within}
use Rattle.systematic_shards.proofs.filling.write_targets.Goals as goal

pub loop-from-init : goal.loop-from-init
loop-from-init g c =
    let w = c.args.maker.now in
    record {
      within = omega arith;
      filled = λ a through. filled-none w.code.split.width c.args.places.now (target_word w a) (g.M.WordMemory.word c.args.out.now);
    }

pub write_strip-requires-clause-fits : goal.write_strip-requires-clause-fits
write_strip-requires-clause-fits g c =
    let w = c.args.maker.now in
    let s = c.strip_of-strip.ensures in
    let (a, through, room) = c.requires.fits in
    let from : ℕ = c.loop-from.from in
    let cols : ℕ = c.min-cols.result in
    let within : from + cols ≤ w.code.split.width = omega (arith, c.loop-from.invariant.within, c.min-cols.ensures) in
    let made = c.make.new.room in
    rw (s.code, s.targets, s.columns.0, s.columns.1, s.elements, c.loop-from.auto.out)
    (made-within w.code.split w.code.mask w.interpolation.targets.items a from cols within made (c.make.ensures a through) c.args.places.now c.requires.places.count (g.M.WordMemory.BYTES * length c.args.out.now) room)

pub loop-from-preserved : goal.loop-from-preserved
loop-from-preserved g c =
    let w = c.args.maker.now in
    let s = c.strip_of-strip.ensures in
    let word = g.M.WordMemory.word in
    let from : ℕ = c.loop-from.from in
    let cols : ℕ = c.min-cols.result in
    let within : from + cols ≤ w.code.split.width = omega (arith, c.loop-from.invariant.within, c.min-cols.ensures) in
    let places = c.args.places.now in
    let strip : Strip = c.strip_of-strip.result in
    let filled : AreRunsFilled strip.code.split.width strip.from strip.cols places (made_word strip.code.split strip.code.mask strip.targets.now strip.cols strip.elements.now) (length places)
    (word c.loop-from.out) (word c.write_strip.new.out) = c.write_strip.ensures in
    let put = rw (s.code, s.targets, s.columns.0, s.columns.1, s.elements) at filled in
    record {
      within = within;
      filled = λ a through.
          made-filled w.code.split w.code.mask w.interpolation.targets.items a from cols within c.make.new.room (c.make.ensures a through)
          c.args.places.now c.requires.places.count (word c.args.out.now) (word c.loop-from.out) (word c.write_strip.new.out) put (c.loop-from.invariant.filled a through);
    }

pub returns : goal.returns
returns g c =
    let w = c.args.maker.now in
    let all : c.loop-from.from ≡ w.code.split.width = omega (arith, c.loop-from-test.false, c.loop-from.invariant.within) in
    subst (λ n. AreTargetsFilled g.M.WordMemory.word w c.args.places.now n (g.M.WordMemory.word c.args.out.now) (g.M.WordMemory.word c.loop-from.out)) all c.loop-from.invariant.filled
