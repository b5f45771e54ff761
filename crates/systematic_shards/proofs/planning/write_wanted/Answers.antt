use Rattle.std.proofs.Common.{◌∙◌, ◌*◌, ◌<◌, ◌≤◌, ◌^◌, ℕ, List, length, take, get_or, ap, sym, subst, arith}
use Rattle.std.specs.List.{All, Contains}
use Rattle.std.proofs.lemmas.Bool.{false≢true}
use Rattle.std.proofs.lemmas.List.{get_or_default}
use Rattle.std.proofs.lemmas.List.Elements.{All-take}
use Rattle.row_interpolation.proofs.RisingIndices.{rising-distinct}
use Rattle.systematic_shards.specs.declared.rows.Row.{Row}
use Rattle.systematic_shards.specs.declared.split.Split.{Split}
use Rattle.systematic_shards.specs.Filled.{AreFilled, ArePlaces, row_word}
use Rattle.systematic_shards.specs.Held.{AreIndexed}
use Rattle.systematic_shards.specs.Made.{AreSourcesFor}
use Rattle.systematic_shards.specs.Shards.{IsElementIn, IsRowOf}
use Rattle.systematic_shards.specs.Strips.{HasRoomFor, IsCodewordFor}
use Rattle.systematic_shards.specs.Wanted.{AreCopiesWithin, AreLost}
use Rattle.systematic_shards.proofs.OneCodeword.{contains-take, first-sources, through-sources}
use Rattle.systematic_shards.proofs.Ranges.{places-inside}
use Rattle.systematic_shards.proofs.Wanted.{copies-within, lost-within, wanted-rows}
use Rattle.systematic_shards.proofs.planning.write_wanted.Goals as goal

-- places among the wanted rows are places for the lost ones
lost-places : (width : ℕ) (indices wanted lost places : List ℕ) → length wanted * width ≤ 2 ^ 61 → AreLost indices wanted (length wanted) lost places → ArePlaces width lost places
lost-places width indices wanted lost places room L = record {
  count = sym L.count;
  apart = rising-distinct places L.rise;
  inside =
      let below : All (λ p. p < length wanted) places = λ k d l. let b : get_or places k 0 < length wanted = L.inside k l in omega (arith, b, get_or_default places k d 0 l) in
      places-inside (length wanted) (length wanted) width (2 ^ 61) places below (omega arith) room;
}

-- the lost rows are made from the first ones in hand
lost-sources : {M : Type 0} (split : Split) (held : List (Row M)) (indices wanted lost places : List ℕ) → AreIndexed split indices held → All (λ i. i < split.total) wanted
    → AreLost indices wanted (length wanted) lost places → AreSourcesFor split (take split.min held) (take split.min indices) lost
lost-sources split held indices wanted lost places h below L =
    first-sources split held indices lost h
    (λ j d l.
    let b : j < length places = omega (arith, l, L.count) in
    let less : get_or wanted (get_or places j 0) 0 < split.total = below (get_or places j 0) 0 (L.inside j b) in
    omega (arith, less, L.index j b, get_or_default lost j d 0 l))
    (λ j d l there.
    let b : j < length places = omega (arith, l, L.count) in
    let among : Contains indices (get_or lost j d) = contains-take split.min (get_or lost j d) indices there in
    L.missing j b (subst (Contains indices) (get_or_default lost j d 0 l) among))

pub new-requires : goal.new-requires
new-requires g c =
    let split = c.args.code.split in
    let held = c.args.held.now in
    let lost = c.in_ok-lost.lost in
    let L = rw c.deref.ensures.value at c.in_ok-lost.ensures in
    rw (c.deref-2.ensures.value, c.deref-3.ensures.value, c.deref-4.ensures.value)
    (lost-sources split held.rows.items held.indices.items c.args.wanted.now lost.indices.items lost.places.items c.requires.indexed c.requires.below L)

pub are_targets_within-requires-clause-places : goal.are_targets_within-requires-clause-places
are_targets_within-requires-clause-places g c =
    let lost = c.in_ok-lost.lost in
    let made = c.in_ok-maker.ensures in
    rw (made.0, made.2, c.deref-4.ensures.value, c.deref-5.ensures.value)
    (lost-places c.args.code.split.width c.deref.result.now c.args.wanted.now lost.indices.items lost.places.items c.requires.inside c.in_ok-lost.ensures)

pub are_targets_within-requires-clause-behind : goal.are_targets_within-requires-clause-behind
are_targets_within-requires-clause-behind g c = λ k d l.
    let places : List ℕ = c.in_ok-lost.lost.places.items in
    let inside : k < length places = omega (arith, l, ap length c.deref-5.ensures.value) in
    let below : get_or places k 0 < length c.args.wanted.now = c.in_ok-lost.ensures.inside k inside in
    omega (arith, below, get_or_default places k d 0 inside, ap (λ ps. get_or ps k d) c.deref-5.ensures.value, c.saturating_sub-last.ensures)

pub write_targets-requires-clause-places : goal.write_targets-requires-clause-places
write_targets-requires-clause-places g c =
    let lost = c.in_ok-lost.lost in
    let made = c.in_ok-maker.ensures in
    rw (made.0, made.2, c.deref-4.ensures.value, c.deref-6.ensures.value)
    (lost-places c.args.code.split.width c.deref.result.now c.args.wanted.now lost.indices.items lost.places.items c.requires.inside c.in_ok-lost.ensures)

pub write_targets-requires-clause-fits : goal.write_targets-requires-clause-fits
write_targets-requires-clause-fits g c =
    let word = g.M.WordMemory.word in
    let code = c.args.code in
    let split = code.split in
    let mask = code.mask in
    let held : List (Row g.row.M.Denot) = c.args.held.now.rows.items in
    let indices : List ℕ = c.args.held.now.indices.items in
    let lost = c.in_ok-lost.lost in
    let made = c.in_ok-maker.ensures in
    let L = rw c.deref.ensures.value at c.in_ok-lost.ensures in
    let P : Row g.row.M.Denot → Type 0 = λ row. (k : ℕ) → k < split.width → IsElementIn split.min mask row.index (word row.cells.now k) in
    let (a, of_code, belong) =
    through-sources word split mask code.short (take split.min held) (take split.min indices) lost.indices.items
    (lost-sources split held indices c.args.wanted.now lost.indices.items lost.places.items c.requires.indexed c.requires.below L) (All-take P split.min held c.requires.elements) in
    let through : IsCodewordFor word c.in_ok-maker.maker a = rw (made.0, made.1, c.deref-2.ensures.value) (of_code, belong) in
    let room = (c.are_targets_within.ensures a through).0 c.if-not-are_targets_within.false in
    let here : HasRoomFor (g.M.WordMemory.BYTES * length c.write_copies.new.out) c.in_ok-maker.maker c.deref-6.result.now a =
    rw (c.write_copies.auto.out, c.deref-6.ensures.value) (rw (c.BYTES.ensures, c.deref-5.ensures.value) at room) in
    (a, through, here)

pub returns-then-not-are_copies_within-clause-no : goal.returns-then-not-are_copies_within-clause-no
returns-then-not-are_copies_within-clause-no g c = λ no a of_code belong within.
    let word = g.M.WordMemory.word in
    let code = c.args.code in
    let split = code.split in
    let held : List (Row g.row.M.Denot) = c.args.held.now.rows.items in
    let indices : List ℕ = c.args.held.now.indices.items in
    let wanted : List ℕ = c.args.wanted.now in
    let lost = c.in_ok-lost.lost in
    let L = rw c.deref.ensures.value at c.in_ok-lost.ensures in
    let fit : AreCopiesWithin (c.BYTES.result * length c.args.out.now) word split.width indices held wanted (length wanted) =
    rw c.BYTES.ensures
    (copies-within word split code.mask indices held c.requires.indexed wanted lost.indices.items lost.places.items L a belong (g.M.WordMemory.BYTES * length c.args.out.now) within) in
    false≢true (sym c.if-not-are_copies_within.true ∙ c.are_copies_within.ensures.1 fit)

pub returns-then-not-are_targets_within-clause-no : goal.returns-then-not-are_targets_within-clause-no
returns-then-not-are_targets_within-clause-no g c = λ no a of_code belong within.
    let word = g.M.WordMemory.word in
    let code = c.args.code in
    let split = code.split in
    let mask = code.mask in
    let held : List (Row g.row.M.Denot) = c.args.held.now.rows.items in
    let indices : List ℕ = c.args.held.now.indices.items in
    let lost = c.in_ok-lost.lost in
    let made = c.in_ok-maker.ensures in
    let L = rw c.deref.ensures.value at c.in_ok-lost.ensures in
    let size : ℕ = g.M.WordMemory.BYTES * length c.args.out.now in
    let Q : Row g.row.M.Denot → Type 0 = λ row. IsRowOf split mask a row.index (word row.cells.now) in
    let through : IsCodewordFor word c.in_ok-maker.maker a = rw (made.0, made.1, c.deref-2.ensures.value) (of_code, All-take Q split.min held belong) in
    let fit : HasRoomFor (c.BYTES.result * length c.args.out.now) c.in_ok-maker.maker c.deref-5.result.now a =
    rw (made.0, made.2, c.deref-4.ensures.value, c.deref-5.ensures.value, c.BYTES.ensures)
    (lost-within word split mask indices held c.requires.indexed c.args.wanted.now lost.indices.items lost.places.items L a belong size within) in
    false≢true (sym c.if-not-are_targets_within.true ∙ (c.are_targets_within.ensures a through).1 fit)

pub returns-clause-yes : goal.returns-clause-yes
returns-clause-yes g c = λ yes a of_code belong.
    let word = g.M.WordMemory.word in
    let code = c.args.code in
    let split = code.split in
    let mask = code.mask in
    let held : List (Row g.row.M.Denot) = c.args.held.now.rows.items in
    let indices : List ℕ = c.args.held.now.indices.items in
    let lost = c.in_ok-lost.lost in
    let made = c.in_ok-maker.ensures in
    let L = rw c.deref.ensures.value at c.in_ok-lost.ensures in
    let mid = word c.write_copies.new.out in
    let new = word c.write_targets.new.out in
    let Q : Row g.row.M.Denot → Type 0 = λ row. IsRowOf split mask a row.index (word row.cells.now) in
    let through : IsCodewordFor word c.in_ok-maker.maker a = rw (made.0, made.1, c.deref-2.ensures.value) (of_code, All-take Q split.min held belong) in
    let filled : AreFilled split.width lost.places.items (row_word split mask a lost.indices.items) split.width mid new =
    rw (made.0, made.2, c.deref-4.ensures.value, c.deref-6.ensures.value) at (c.write_targets.ensures a through) in
    wanted-rows word split mask indices held c.requires.indexed c.args.wanted.now lost.indices.items lost.places.items L a belong mid new c.write_copies.ensures filled

pub write_copies-requires-clause-fits : goal.write_copies-requires-clause-fits
write_copies-requires-clause-fits g c = rw c.BYTES.ensures at (c.are_copies_within.ensures.0 c.if-not-are_copies_within.false)
