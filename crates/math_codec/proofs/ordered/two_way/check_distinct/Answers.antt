use Rattle.std.proofs.Common.{◌+◌, take, drop, Bor, sym, ap, ◌∙◌}
use Rattle.std.specs.List.{list_any}
use Rattle.std.specs.Map.{keys_of, values_of}
use Rattle.std.specs.Ordering.{is_eq}
use Rattle.std.proofs.lemmas.Bool.{not-true, not-false}
use Rattle.math_codec.specs.OrderedMaps.{is_equal}
use Rattle.math_codec.proofs.FirstPairs.{none_alike}
use Rattle.math_codec.proofs.SeenSoFar.{seen_more, differ_more, taken_more, taken_before, key_taken, value_taken}
use Rattle.math_codec.proofs.ordered.two_way.check_distinct.Goals as goal

pub loop-key-init : goal.loop-key-init
loop-key-init g c = record {
  keys = λ q. ap (list_any (λ k. is_eq (g.I.Ord.cmp q.now k.now))) c.new-keys.ensures.empty;
  values = λ q. ap (list_any (λ v. is_eq (g.V.Ord.cmp q.now v.now))) c.new-values.ensures.empty;
  keys_differ = none_alike (is_equal g.I.Ord.cmp);
  values_differ = none_alike (is_equal g.V.Ord.cmp);
}

pub loop-key-preserved : goal.loop-key-preserved
loop-key-preserved g c =
    let ps = c.args.pairs.now in
    let i = c.loop-key.key-index in
    let p = c.loop-key-item.result in
    let key : Bor g.row.I.Denot = record { ref_ptr = c.args.pairs.ref_ptr; now = p.0 } in
    let value : Bor g.row.V.Denot = record { ref_ptr = c.args.pairs.ref_ptr; now = p.1 } in
    let more = taken_more ps i p c.loop-key-test.true c.loop-key-item.is in
    let ks = key_taken ps i p more in
    let vs = value_taken ps i p more in
    let new_key = sym (c.loop-key.invariant.keys key) ∙ not-true _ (sym c.in_ok-insert.ensures.added ∙ c.if-not-branch.false) in
    let new_value = sym (c.loop-key.invariant.values value) ∙ not-true _ (sym c.in_ok-insert-2.ensures.added ∙ c.if-not-branch-2.false) in
    record {
      keys = λ q. seen_more g.met.I.Ord.total (keys_of (take i ps)) (keys_of (take (i + 1) ps)) q.now p.0 _ _ ks (c.loop-key.invariant.keys q) (c.in_ok-insert.ensures.updates.0 q);
      values = λ q. seen_more g.met.V.Ord.total (values_of (take i ps)) (values_of (take (i + 1) ps)) q.now p.1 _ _ vs (c.loop-key.invariant.values q) (c.in_ok-insert-2.ensures.updates.0 q);
      keys_differ = differ_more g.met.I.Ord.total (keys_of (take i ps)) (keys_of (take (i + 1) ps)) p.0 ks c.loop-key.invariant.keys_differ new_key;
      values_differ = differ_more g.met.V.Ord.total (values_of (take i ps)) (values_of (take (i + 1) ps)) p.1 vs c.loop-key.invariant.values_differ new_value;
    }

pub returns-then-not-branch-clause-repeated_key : goal.returns-then-not-branch-clause-repeated_key
returns-then-not-branch-clause-repeated_key g c =
    let ps = c.args.pairs.now in
    let i = c.loop-key.key-index in
    let p = c.loop-key-item.result in
    let key : Bor g.row.I.Denot = record { ref_ptr = c.args.pairs.ref_ptr; now = p.0 } in
    let value : Bor g.row.V.Denot = record { ref_ptr = c.args.pairs.ref_ptr; now = p.1 } in (
      record {
        before = take i ps;
        pair = p;
        after = drop (i + 1) ps;
        is = taken_before ps i p c.loop-key-test.true c.loop-key-item.is;
        keys_differ = c.loop-key.invariant.keys_differ;
        values_differ = c.loop-key.invariant.values_differ;
      },
      sym (c.loop-key.invariant.keys key) ∙ not-false _ (sym c.in_ok-insert.ensures.added ∙ c.if-not-branch.true),
    )

pub returns-then-not-branch-2-clause-repeated_value : goal.returns-then-not-branch-2-clause-repeated_value
returns-then-not-branch-2-clause-repeated_value g c =
    let ps = c.args.pairs.now in
    let i = c.loop-key.key-index in
    let p = c.loop-key-item.result in
    let key : Bor g.row.I.Denot = record { ref_ptr = c.args.pairs.ref_ptr; now = p.0 } in
    let value : Bor g.row.V.Denot = record { ref_ptr = c.args.pairs.ref_ptr; now = p.1 } in (
      record {
        before = take i ps;
        pair = p;
        after = drop (i + 1) ps;
        is = taken_before ps i p c.loop-key-test.true c.loop-key-item.is;
        keys_differ = c.loop-key.invariant.keys_differ;
        values_differ = c.loop-key.invariant.values_differ;
      },
      sym (c.loop-key.invariant.keys key) ∙ not-true _ (sym c.in_ok-insert.ensures.added ∙ c.if-not-branch.false),
      sym (c.loop-key.invariant.values value) ∙ not-false _ (sym c.in_ok-insert-2.ensures.added ∙ c.if-not-branch-2.true),
    )
