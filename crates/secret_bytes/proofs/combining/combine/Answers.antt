use Rattle.std.proofs.Common.{◌≡◌, ◌<◌, ◌≤◌, ◌^◌, length, slice_get, Some, ap, arith, refl, sym}
use Rattle.std.specs.List.{All}
use Rattle.secret_bytes.specs.Combined.{AreElementsOfShares, IsDueCombining}
use Rattle.secret_bytes.specs.Keyed.{AreKeyed}
use Rattle.secret_bytes.specs.Passes.{IsDueRecovering}
use Rattle.secret_bytes.specs.Settled.{IsDueSettling, StandBelow, firsts}
use Rattle.secret_bytes.proofs.CombinedShares.{due-fault, due-recovering, firsts-ready, refused}
use Rattle.secret_bytes.proofs.combining.combine.Goals as goal

pub returns-in_err-require_one_deal-clause-due : goal.returns-in_err-require_one_deal-clause-due
returns-in_err-require_one_deal-clause-due c =
    let shares = c.args.shares.items in
    let first = c.in-Some.first.now in
    let is_first : slice_get shares 0 ≡ Some first = rw c.deref.ensures.value at (sym c.in-Some.ensures.value) in
    let width : c.len.result ≡ length first.values.items = omega (arith, c.len.ensures, first.values.ok) in
    let due : IsDueSettling first.threshold first.deal (length first.values.items) shares c.in_err-require_one_deal.field-0.0 = rw (c.deref-2.ensures.value, width) at c.in_err-require_one_deal.ensures.due in
    refused c.from_residual.result c.in_err-require_one_deal.field-0.0 (IsDueCombining shares) c.from_residual.ensures.1 (due-fault shares first is_first c.in_err-require_one_deal.field-0.0 due)

pub returns-then-len-t-clause-due : goal.returns-then-len-t-clause-due
returns-then-len-t-clause-due c =
    let shares = c.args.shares.items in
    let first = c.in-Some.first.now in
    let is_first : slice_get shares 0 ≡ Some first = rw c.deref.ensures.value at (sym c.in-Some.ensures.value) in
    let width : c.len.result ≡ length first.values.items = omega (arith, c.len.ensures, first.values.ok) in
    let stand : StandBelow first.threshold first.deal (length first.values.items) shares (length shares) = rw (c.deref-2.ensures.value, width) at c.in_ok-require_one_deal.ensures.stand in (
      first,
      record { first_is = is_first; stand = stand },
      omega (arith, c.len-then-len-t.ensures, c.in_ok-kept.kept.ok, ap length c.in_ok-kept.ensures),
      refl,
      omega (arith, c.len-then-len-t.ensures, c.len-2.ensures, c.if-len-t.true),
    )

pub recover-requires : goal.recover-requires
recover-requires c =
    let shares = c.args.shares.items in
    let first = c.in-Some.first.now in
    let stand : StandBelow first.threshold first.deal c.len.result shares (length shares) = rw c.deref-2.ensures.value at c.in_ok-require_one_deal.ensures.stand in
    let small : All (λ s. s.index < 2 ^ 32) shares = rw c.deref-2.ensures.value at c.in_ok-require_one_deal.ensures.small in
    rw c.in_ok-kept.ensures (firsts-ready first.threshold first.deal c.len.result shares stand small
    (omega (arith, c.len-2.ensures, c.if-len-t.false, c.in_ok-kept.kept.ok, ap length c.in_ok-kept.ensures)))

pub returns-in_err-found-clause-due : goal.returns-in_err-found-clause-due
returns-in_err-found-clause-due c =
    let shares = c.args.shares.items in
    let first = c.in-Some.first.now in
    let is_first : slice_get shares 0 ≡ Some first = rw c.deref.ensures.value at (sym c.in-Some.ensures.value) in
    let width : c.len.result ≡ length first.values.items = omega (arith, c.len.ensures, first.values.ok) in
    let stand : StandBelow first.threshold first.deal (length first.values.items) shares (length shares) = rw (c.deref-2.ensures.value, width) at c.in_ok-require_one_deal.ensures.stand in
    let enough : first.threshold ≤ length (firsts shares) = omega (arith, c.len-2.ensures, c.if-len-t.false, c.in_ok-kept.kept.ok, ap length c.in_ok-kept.ensures) in
    let due : IsDueRecovering first.threshold (length first.values.items) (firsts shares) c.in_err-found.field-0.0 = rw (c.in_ok-kept.ensures, width) at c.in_err-found.ensures.due in
    refused c.from_residual-in_err-found.result c.in_err-found.field-0.0 (IsDueCombining shares) c.from_residual-in_err-found.ensures.1
    (due-recovering shares first (record { first_is = is_first; stand = stand }) enough c.in_err-found.field-0.0 due)

pub returns-in_default-2-clause-due : goal.returns-in_default-2-clause-due
returns-in_default-2-clause-due c =
    let shares = c.args.shares.items in
    let first = c.in-Some.first.now in
    let is_first : slice_get shares 0 ≡ Some first = rw c.deref.ensures.value at (sym c.in-Some.ensures.value) in
    let width : c.len.result ≡ length first.values.items = omega (arith, c.len.ensures, first.values.ok) in
    let stand : StandBelow first.threshold first.deal (length first.values.items) shares (length shares) = rw (c.deref-2.ensures.value, width) at c.in_ok-require_one_deal.ensures.stand in
    let recovered : AreElementsOfShares first.threshold (length first.values.items) (firsts shares) c.in_ok-found.found.elements.items c.in_ok-found.found.wrong.items =
    rw (c.in_ok-kept.ensures, width) at c.in_ok-found.ensures.recovered in (
      first,
      record { first_is = is_first; stand = stand },
      c.in_ok-found.found.elements.items,
      c.in_ok-found.found.wrong.items,
      recovered,
      rw (c.in_default-2.is, c.deref-3.ensures.value) at c.in_ok-bytes.ensures.none,
    )

pub returns-clause-combined : goal.returns-clause-combined
returns-clause-combined c =
    let shares = c.args.shares.items in
    let first = c.in-Some.first.now in
    let is_first : slice_get shares 0 ≡ Some first = rw c.deref.ensures.value at (sym c.in-Some.ensures.value) in
    let width : c.len.result ≡ length first.values.items = omega (arith, c.len.ensures, first.values.ok) in
    let stand : StandBelow first.threshold first.deal (length first.values.items) shares (length shares) = rw (c.deref-2.ensures.value, width) at c.in_ok-require_one_deal.ensures.stand in
    let recovered : AreElementsOfShares first.threshold (length first.values.items) (firsts shares) c.in_ok-found.found.elements.items c.in_ok-found.found.wrong.items =
    rw (c.in_ok-kept.ensures, width) at c.in_ok-found.ensures.recovered in
    let keyed : AreKeyed c.in-Some-2.bytes.items c.in_ok-found.found.elements.items = rw (c.in-Some-2.is, c.deref-3.ensures.value) at c.in_ok-bytes.ensures.some in
    record { first = first; all = c.in_ok-found.found.elements.items; of_deal = record { first_is = is_first; stand = stand }; recovered = recovered; keyed = keyed }
