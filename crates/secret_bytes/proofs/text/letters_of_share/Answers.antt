use Rattle.std.proofs.Common.{◌≡◌, ◌+◌, ◌++◌, rules}
use Rattle.secret_bytes.specs.Gathered.{IsNextGoingOn}
use Rattle.secret_bytes.proofs.GatheredLines.{gathered-first, gathered-next}
use Rattle.secret_bytes.proofs.text.letters_of_share.Goals as goal

pub loop-letters-init : goal.loop-letters-init
loop-letters-init c =
    gathered-first c.args.text.now c.first_line.result.0.now c.in_ok-letters.letters.items c.first_line.result.1.now c.first_line.ensures.first c.first_line.ensures.shorter c.in_ok-letters.ensures

pub loop-letters-preserved : goal.loop-letters-preserved
loop-letters-preserved c =
    let next : IsNextGoingOn c.loop-letters.rest.now c.in-Some.more.items c.in-Some.after.now = rw c.in-Some.is at c.in_ok-more.ensures.some in
    let all : c.extend_from_slice.new.self.items ≡ c.loop-letters.letters.items ++ c.in-Some.more.items = rw c.deref.ensures.value at c.in_ok-extend_from_slice.ensures.items in
    let count : c.saturating_add-count.result ≡ c.loop-letters.count + 1 = search rules in
    gathered-next c.args.text.now c.loop-letters.letters.items c.extend_from_slice.new.self.items c.loop-letters.rest.now c.in-Some.more.items c.in-Some.after.now c.loop-letters.count
    c.saturating_add-count.result c.loop-letters.invariant next all count
