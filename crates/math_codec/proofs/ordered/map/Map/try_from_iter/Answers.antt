use Rattle.std.proofs.Common.{◌≡◌, true, false, subst, sym, refl, ap, ◌∙◌, ◌++◌, ◌∷◌, []}
use Rattle.std.proofs.lemmas.Bool.{not-true, not-false}
use Rattle.math_codec.specs.OrderedMaps.{first_pair, has_key, is_equal}
use Rattle.math_codec.proofs.FirstPairs.{SameFirsts, same_firsts_push, same_keys, keys_differ_push, none_alike}
use Rattle.math_codec.proofs.ItemsSoFar.{yields_more}
use Rattle.math_codec.proofs.ordered.map.Map.try_from_iter.Goals as goal

pub loop-key-init : goal.loop-key-init
loop-key-init g c =
    let finite = c.requires c.into_iter-key-iterator.result c.into_iter-key-iterator.ensures.into_iter_gives in
    (finite.0, finite.1, λ q. ap (first_pair g.I.Ord.cmp q) c.new-entries.ensures.empty, none_alike (is_equal g.I.Ord.cmp))

pub loop-key-preserved : goal.loop-key-preserved
loop-key-preserved g c =
    let goes = c.in-Some.ensures.goes.on c.loop-key.invariant.1 in
    let cmp = g.I.Ord.cmp in
    let key = c.in-Some.key in
    let value = c.in-Some.value in
    let es = c.loop-key.entries.entries in
    let xs = c.loop-key.yielded in
    let absent : has_key cmp key es ≡ false = not-true (has_key cmp key es) (sym c.in_ok-add_new.ensures.added ∙ c.if-not-branch.false) in (
      goes.0,
      goes.1,
      subst (λ l. SameFirsts cmp l (xs ++ (key, value) ∷ [])) (sym c.in_ok-add_new.ensures.entries) (same_firsts_push g.met.I.Ord.total es xs key value c.loop-key.invariant.2),
      keys_differ_push g.met.I.Ord.total xs key value c.loop-key.invariant.3 (sym (same_keys g.met.I.Ord.total es xs c.loop-key.invariant.2 key) ∙ absent),
    )

pub returns-then-not-branch-clause-repeated : goal.returns-then-not-branch-clause-repeated
returns-then-not-branch-clause-repeated g c =
    let cmp = g.I.Ord.cmp in
    let key = c.in-Some.key in
    let value = c.in-Some.value in
    let es = c.loop-key.entries.entries in
    let xs = c.loop-key.yielded in
    let start = c.into_iter-key-iterator.result in
    let there : has_key cmp key es ≡ true = not-false (has_key cmp key es) (sym c.in_ok-add_new.ensures.added ∙ c.if-not-branch.true) in (
      start,
      xs ++ (key, value) ∷ [],
      c.into_iter-key-iterator.ensures.into_iter_gives,
      (c.next.new.self, yields_more g.P.IntoIter.Iterator.next_gives start xs c.loop-key.key-iterator (key, value) c.next.new.self c.loop-key.yielded_by c.in-Some.ensures.steps),
      record {
        before = xs;
        last = (key, value);
        is = refl;
        keys_differ = c.loop-key.invariant.3;
        repeated = sym (same_keys g.met.I.Ord.total es xs c.loop-key.invariant.2 key) ∙ there;
      },
    )
