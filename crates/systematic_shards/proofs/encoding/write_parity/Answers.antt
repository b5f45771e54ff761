use Rattle.std.proofs.Common.{◌≡◌, ◌∙◌, ◌-◌, ◌*◌, ◌<◌, ◌^◌, ℕ, List, length, sym, ap, subst, arith}
use Rattle.std.specs.List.{All, range_with_len}
use Rattle.std.proofs.lemmas.List.FromFn.{length-range_with_len}
use Rattle.systematic_shards.specs.declared.rows.Row.{Row}
use Rattle.systematic_shards.specs.Shards.{AreBlockRows}
use Rattle.systematic_shards.proofs.ParityRows.{block-codeword, block-sources, encoded-shards, parity-places, room-filled}
use Rattle.systematic_shards.proofs.Ranges.{range-rising}
use Rattle.systematic_shards.proofs.encoding.write_parity.Goals as goal

pub new-requires : goal.new-requires
new-requires g c =
    let word = g.M.WordMemory.word in
    let split = c.args.code.split in
    let mask = c.args.code.mask in
    let short : mask < 2 ^ 32 = c.args.code.short in
    let rows : List (Row g.row.M.Denot) = c.deref.result.now in
    let are : AreBlockRows word split.width c.args.block.now split.min rows = subst (AreBlockRows word split.width c.args.block.now split.min) (sym c.deref.ensures.value) c.in_ok-rows.ensures in
    let first_are : c.deref-2.result.now ≡ range_with_len 0 split.min = c.deref-2.ensures.value ∙ c.in_ok-first.ensures ∙ ap (range_with_len 0) (let e : split.min - 0 ≡ split.min = omega arith in e) in
    rw (first_are, c.deref-3.ensures.value, c.in_ok-targets.ensures) (block-sources word split c.args.code.mask short c.args.block.now rows are)

pub write_targets-requires-clause-places : goal.write_targets-requires-clause-places
write_targets-requires-clause-places g c =
    let split = c.args.code.split in
    let n : ℕ = split.total - split.min in
    let made = c.in_ok-maker.ensures in
    let many : length c.in_ok-targets.targets.items ≡ n = ap length c.in_ok-targets.ensures ∙ length-range_with_len split.min n in
    let count : c.len.result ≡ n = omega (arith, many, c.len.ensures, c.in_ok-targets.targets.ok.0) in
    rw (made.0, made.2, c.deref-3.ensures.value, c.in_ok-targets.ensures, c.deref-4.ensures.value, c.in_ok-places.ensures, count) (parity-places split)

pub write_targets-requires-clause-fits : goal.write_targets-requires-clause-fits
write_targets-requires-clause-fits g c =
    let word = g.M.WordMemory.word in
    let split = c.args.code.split in
    let mask = c.args.code.mask in
    let n : ℕ = split.total - split.min in
    let made = c.in_ok-maker.ensures in
    let size : ℕ = g.M.WordMemory.BYTES * length c.args.parity.now in
    let targets : List ℕ = c.in_ok-maker.maker.interpolation.targets.items in
    let places : List ℕ = c.deref-4.result.now in
    let rows : List (Row g.row.M.Denot) = c.deref.result.now in
    let short : mask < 2 ^ 32 = c.args.code.short in
    let many : length c.in_ok-targets.targets.items ≡ n = ap length c.in_ok-targets.ensures ∙ length-range_with_len split.min n in
    let count : c.len.result ≡ n = omega (arith, many, c.len.ensures, c.in_ok-targets.targets.ok.0) in
    let below : All (λ p. p < n) places = rw (c.deref-4.ensures.value, c.in_ok-places.ensures, count) (range-rising 0 n n (omega arith)).1 in
    let are : AreBlockRows word split.width c.args.block.now split.min rows = subst (AreBlockRows word split.width c.args.block.now split.min) (sym c.deref.ensures.value) c.in_ok-rows.ensures in
    let (a, of_code, belong) = block-codeword word split mask short c.args.block.now rows are c.requires.free c.requires.fit in
    rw (made.0, made.1) (a, (of_code, belong), room-filled split mask size n a targets places short c.requires.room below)

pub returns-clause-ok : goal.returns-clause-ok
returns-clause-ok g c =
    let word = g.M.WordMemory.word in
    let split = c.args.code.split in
    let mask = c.args.code.mask in
    let made = c.in_ok-maker.ensures in
    let block = c.args.block.now in
    let rows : List (Row g.row.M.Denot) = c.deref.result.now in
    let targets : List ℕ = c.in_ok-maker.maker.interpolation.targets.items in
    let short : mask < 2 ^ 32 = c.args.code.short in
    let are : AreBlockRows word split.width block split.min rows = subst (AreBlockRows word split.width block split.min) (sym c.deref.ensures.value) c.in_ok-rows.ensures in
    let targets_are : targets ≡ range_with_len split.min (split.total - split.min) = made.2 ∙ c.deref-3.ensures.value ∙ c.in_ok-targets.ensures in
    let count : c.len.result ≡ length targets = omega (arith, c.len.ensures, c.in_ok-targets.targets.ok.0, ap length (made.2 ∙ c.deref-3.ensures.value)) in
    let places_are : c.deref-4.result.now ≡ range_with_len 0 (length targets) = c.deref-4.ensures.value ∙ c.in_ok-places.ensures ∙ ap (range_with_len 0) count in
    encoded-shards word split mask short block rows are targets c.deref-4.result.now (word c.args.parity.now) (word c.write_targets.new.out) targets_are places_are
    (block-codeword word split mask short block rows are c.requires.free c.requires.fit) (rw (made.0, made.1) at c.write_targets.ensures)
