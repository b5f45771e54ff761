use Rattle.std.proofs.Common.{◌∙◌, ◌++◌, [], ◌∷◌, take, subst, sym, ap, List}
use Rattle.std.proofs.lemmas.List.{take_more}
use Rattle.shard_format.specs.declared.header.Header.{Header}
use Rattle.shard_format.specs.Splits.{IsLargestOf}
use Rattle.shard_format.proofs.splits.largest.Goals as goal

pub loop-header-preserved : goal.loop-header-preserved
loop-header-preserved c =
    let headers = c.args.headers.now in
    let seen = take c.loop-header.header-index headers in
    let more = take_more headers c.loop-header.header-index c.header-item.result c.loop-header-test.true ∙ ap (λ (h : Header). seen ++ h ∷ []) (sym c.header-item.is) in
    record {
      best = subst (λ (s : List Header). IsLargestOf headers s c.seen_more-seen.result.best) (sym more) (c.seen_more-seen.ensures.largest seen c.loop-header.invariant.best);
      right = c.seen_more-seen.ensures.right;
    }
