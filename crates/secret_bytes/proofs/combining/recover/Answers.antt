use Rattle.std.proofs.Common.{◌≡◌, ◌+◌, ◌<◌, ◌≤◌, ◌++◌, length, ap, arith}
use Rattle.secret_bytes.specs.Combined.{others}
use Rattle.secret_bytes.specs.Passes.{AreFirstElements, AreReady, IsPass, indices_at}
use Rattle.secret_bytes.specs.declared.combining.Pass.TheVariants.{Fit, TooManyWrong, Wrong}
use Rattle.secret_bytes.proofs.RecoveredShares.{IsProgress, elements-left, progress-end, progress-next, progress-none, progress-ready}
use Rattle.secret_bytes.proofs.RefusedRecoveries.{not-more, not-none}
use Rattle.secret_bytes.proofs.combining.recover.Goals as goal

pub loop-elements-init : goal.loop-elements-init
loop-elements-init c = record {
  progress = progress-none c.args.t c.args.width c.args.shares.items c.new-wrong.result.items c.new-wrong.ensures.items c.requires;
  elements = rw c.in_ok-elements.ensures.items record { count = omega arith; fit = λ j l. absurd (omega (arith, l)) };
}

pub look-requires-clause-ready : goal.look-requires-clause-ready
look-requires-clause-ready c =
    rw c.deref.ensures.value (progress-ready c.args.t c.args.width c.args.shares.items c.loop-elements.kept.items c.loop-elements.wrong.items c.requires c.loop-elements.invariant.progress)

pub returns-in-Fit-clause-recovered : goal.returns-in-Fit-clause-recovered
returns-in-Fit-clause-recovered c =
    let kept = c.loop-elements.kept.items in
    let all = c.look.new.elements.items in
    let found : AreFirstElements c.args.t c.args.width kept all = rw c.deref.ensures.value at c.in_ok-look.ensures.elements in
    let pass : IsPass c.args.t c.args.width kept (length all) Fit = rw c.in-Fit.is at c.in_ok-look.ensures.pass in
    progress-end c.args.t c.args.width c.args.shares.items kept c.loop-elements.wrong.items c.sort_unstable.new.self.items all c.requires c.loop-elements.invariant.progress
    c.sort_unstable.ensures.permutation c.sort_unstable.ensures.sorted pass (λ j l. found.fit j (omega (arith, l, pass)))

pub returns-in-TooManyWrong-clause-due : goal.returns-in-TooManyWrong-clause-due
returns-in-TooManyWrong-clause-due c = λ all ws r.
    let pass : IsPass c.args.t c.args.width c.loop-elements.kept.items (length c.look.new.elements.items) TooManyWrong = rw (c.in-TooManyWrong.is, c.deref.ensures.value) at c.in_ok-look.ensures.pass in
    not-none c.args.t c.args.width c.args.shares.items c.loop-elements.kept.items c.loop-elements.wrong.items c.requires c.loop-elements.invariant.progress all ws r pass.0 pass.1 pass.2

pub returns-then-len-most-clause-due : goal.returns-then-len-most-clause-due
returns-then-len-most-clause-due c = λ all ws r.
    let kept = c.loop-elements.kept.items in
    let wrong = c.loop-elements.wrong.items in
    let places = c.in-Wrong.places.items in
    let pass : IsPass c.args.t c.args.width kept (length c.look.new.elements.items) (Wrong c.in-Wrong.places) = rw (c.in-Wrong.is, c.deref.ensures.value) at c.in_ok-look.ensures.pass in
    let found : c.push_indices.new.out.items ≡ wrong ++ indices_at kept places = rw (c.deref-in-Wrong.ensures.value, c.deref-in-Wrong-2.ensures.value) at c.in_ok-push_indices-in-Wrong.ensures in
    let many : length c.args.shares.items < length (wrong ++ indices_at kept places) + length (wrong ++ indices_at kept places) + c.args.t =
    omega (arith, ap length found, c.len-in-Wrong.ensures, c.push_indices.new.out.ok, c.if-len-most.true, c.len.ensures, c.args.shares.ok, c.requires.enough) in
    not-more c.args.t c.args.width c.args.shares.items kept wrong c.requires c.loop-elements.invariant.progress all ws r pass.0 pass.1 places pass.2 pass.4 many

pub loop-elements-preserved : goal.loop-elements-preserved
loop-elements-preserved c =
    let kept = c.loop-elements.kept.items in
    let wrong = c.loop-elements.wrong.items in
    let places = c.in-Wrong.places.items in
    let pass : IsPass c.args.t c.args.width kept (length c.look.new.elements.items) (Wrong c.in-Wrong.places) = rw (c.in-Wrong.is, c.deref.ensures.value) at c.in_ok-look.ensures.pass in
    let found : c.push_indices.new.out.items ≡ wrong ++ indices_at kept places = rw (c.deref-in-Wrong.ensures.value, c.deref-in-Wrong-2.ensures.value) at c.in_ok-push_indices-in-Wrong.ensures in
    let few : length (wrong ++ indices_at kept places) + length (wrong ++ indices_at kept places) + c.args.t ≤ length c.args.shares.items =
    omega (arith, ap length found, c.len-in-Wrong.ensures, c.push_indices.new.out.ok, c.if-len-most.false, c.len.ensures, c.args.shares.ok, c.requires.enough) in
    let left : c.leave_out.new.shares.items ≡ others (wrong ++ indices_at kept places) kept = rw (c.deref-in-Wrong-3.ensures.value, found) at c.leave_out.ensures in
    let next : IsProgress c.args.t c.args.width c.args.shares.items c.leave_out.new.shares.items (wrong ++ indices_at kept places) =
    progress-next c.args.t c.args.width c.args.shares.items kept wrong pass.0 pass.1 places c.requires c.loop-elements.invariant.progress pass.2 pass.4 c.leave_out.new.shares.items few left in
    let ready : AreReady c.args.t c.args.width c.leave_out.new.shares.items =
    progress-ready c.args.t c.args.width c.args.shares.items c.leave_out.new.shares.items (wrong ++ indices_at kept places) c.requires next in
    let all : AreFirstElements c.args.t c.args.width kept c.look.new.elements.items = rw c.deref.ensures.value at c.in_ok-look.ensures.elements in
    record {
      progress = rw found next;
      elements = elements-left c.args.t c.args.width kept c.leave_out.new.shares.items (wrong ++ indices_at kept places) c.look.new.elements.items ready left all;
    }
