use Rattle.std.proofs.Common.{◌∙◌, ◌≤◌, ◌+◌, ◌*◌, ℕ, length, get_or, refl, sym, true≢false, arith}
use Rattle.std.proofs.lemmas.Nat.{mul-le}
use Rattle.systematic_shards.specs.Strips.{IsStripWithin, target_word}
use Rattle.systematic_shards.specs.Words.{IsWithin}
use Rattle.systematic_shards.proofs.Bytes.{within-room}
use Rattle.systematic_shards.proofs.Elements.{word-fits}
use Rattle.systematic_shards.proofs.Made.{made-within, within-made}
use Rattle.systematic_shards.proofs.Written.{below-run}
use Rattle.systematic_shards.proofs.planning.are_targets_within.Goals as goal

pub loop-from-init : goal.loop-from-init
loop-from-init g c = λ a through k j b l.
    let w = c.args.maker.now in
    let split = w.code.split in
    let target = get_or w.interpolation.targets.items j 0 in
    let p : ℕ = get_or c.args.places.now j 0 in
    let up : p * split.width ≤ c.args.last * split.width = mul-le p split.width c.args.last split.width (c.requires.behind j 0 l) (omega arith) in
    within-room c.args.size (p * split.width + k) (target_word w a j k)
    (let room = c.first_past-from.ensures k b in omega (arith, room, up))
    (word-fits split.min w.code.mask target (a target k) w.code.short)

pub loop-from-preserved : goal.loop-from-preserved
loop-from-preserved g c = λ a through k j b l.
    let w = c.args.maker.now in
    let split = w.code.split in
    let s = c.strip_of-strip.ensures in
    let p : ℕ = get_or c.args.places.now j 0 in
    let from : ℕ = c.loop-from.from in
    let cols : ℕ = c.min-cols.result in
    let within : from + cols ≤ split.width = omega (arith, c.loop-from-test.true, c.min-cols.ensures) in
    let fit = rw (s.code, s.targets, s.columns.0, s.columns.1, s.elements) at (c.is_strip_within.ensures.0 c.if-not-is_strip_within.false) in
    below-run (λ i. IsWithin c.args.size (p * split.width + i) (target_word w a j i)) from cols
    (λ i before. c.loop-from.invariant a through i j before l)
    (λ i inside. within-made split w.code.mask w.interpolation.targets.items a from cols within c.make.new.room (c.make.ensures a through) c.args.places.now c.requires.places.count c.args.size fit j i l inside)
    k b

pub returns-then-not-is_strip_within : goal.returns-then-not-is_strip_within
returns-then-not-is_strip_within g c = λ a through.
    let w = c.args.maker.now in
    let split = w.code.split in
    let s = c.strip_of-strip.ensures in
    let from : ℕ = c.loop-from.from in
    let cols : ℕ = c.min-cols.result in
    let within : from + cols ≤ split.width = omega (arith, c.loop-from-test.true, c.min-cols.ensures) in (
      λ f. absurd (true≢false (sym f)),
      λ all.
          let fit : IsStripWithin c.args.size c.strip_of-strip.result c.args.places.now (length c.args.places.now) =
          rw (s.code, s.targets, s.columns.0, s.columns.1, s.elements)
          (made-within split w.code.mask w.interpolation.targets.items a from cols within c.make.new.room (c.make.ensures a through) c.args.places.now c.requires.places.count c.args.size all) in
          sym c.if-not-is_strip_within.true ∙ c.is_strip_within.ensures.1 fit,
    )

pub returns : goal.returns
returns g c = λ a through. (λ _ j k l m. c.loop-from.invariant a through k j (omega (arith, m, c.loop-from-test.false)) l, λ _. refl)
