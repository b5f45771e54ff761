use Rattle.std.proofs.Common.{arith, length-append, [], ◌∷◌}
use Rattle.std.proofs.lemmas.Result.{err_from_is_err_and}
use Rattle.math_codec.proofs.ItemScan.{admitted_push, item_read, item_fails, items_done, item_taken}
use Rattle.math_codec.proofs.FirstItem.{past_first, push_memory}
use Rattle.math_codec.proofs.codec.list.read_items.Goals as goal

pub returns-in_err-item-clause-exact : goal.returns-in_err-item-clause-exact
returns-in_err-item-clause-exact g c =
    let scan = g.T.Read.scan c.args.cfg.now in
    let loop = c.loop in
    let p = err_from_is_err_and c.from_residual.result c.from_residual.ensures.1 in
    rw (p.1, p.2) (item_fails _ scan c.args.count loop.counter loop.rest.now _ c.loop-test.true c.in_err-item.ensures.exact loop.invariant.exact)

pub returns-in_err-push_item-clause-memory : goal.returns-in_err-push_item-clause-memory
returns-in_err-push_item-clause-memory g c =
    let scan = g.T.Read.scan c.args.cfg.now in
    let grows = g.T.Read.grows c.args.cfg.now in
    let p = err_from_is_err_and c.from_residual-in_err-push_item.result c.from_residual-in_err-push_item.ensures.1 in
    rw (p.1, p.2) (push_memory scan grows c.args.count c.loop.counter _ _ _ c.loop-test.true c.loop.invariant.first c.in_ok-item.ensures.exact)

pub loop-preserved : goal.loop-preserved
loop-preserved g c =
    let v = c.in_ok-item.item in
    let scan = g.T.Read.scan c.args.cfg.now in
    let loop = c.loop in
    let taken = c.in_ok-item.ensures.taken in
    rw c.in_ok-push_item.ensures.ok
    record {
      number = omega (arith, length-append loop.items.items (v ∷ []), loop.invariant.number);
      admitted = admitted_push (g.T.Read.admits c.args.cfg.now) loop.items.items v loop.invariant.admitted taken.0;
      room = rw c.in_ok-push_item.ensures.ok at c.push_item.ensures.room;
      taken = item_taken g.T.Encoding.spelling loop.items.items v c.args.bytes.now loop.rest.now _ loop.invariant.taken taken.1;
      first = past_first scan c.args.bytes.now loop.rest.now _ loop.invariant.first c.in_ok-item.ensures.exact;
      exact = item_read scan c.args.count loop.counter loop.rest.now _ _ c.loop-test.true c.in_ok-item.ensures.exact loop.invariant.exact;
    }

pub returns-clause-exact : goal.returns-clause-exact
returns-clause-exact g c =
    items_done (g.T.Read.scan c.args.cfg.now) c.args.count c.loop.counter _ _ c.loop-test.false c.loop.invariant.exact
