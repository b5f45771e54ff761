use Rattle.std.proofs.Common.{subst, sym, ◌++◌, ◌∷◌, []}
use Rattle.math_codec.proofs.FirstPairs.{SameFirsts, same_firsts_push}
use Rattle.math_codec.proofs.ordered.map.Map.from_iter_dedup.Goals as goal

pub loop-key-preserved : goal.loop-key-preserved
loop-key-preserved g c =
    let goes = c.in-Some.ensures.goes.on c.loop-key.invariant.1 in
    let cmp = g.I.Ord.cmp in
    let key = c.in-Some.key in
    let value = c.in-Some.value in (
      goes.0,
      goes.1,
      subst (λ es. SameFirsts cmp es (c.loop-key.yielded ++ (key, value) ∷ [])) (sym c.in_ok-add_new.ensures.entries)
          (same_firsts_push g.met.I.Ord.total c.loop-key.entries.entries c.loop-key.yielded key value c.loop-key.invariant.2),
    )
