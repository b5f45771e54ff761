use Rattle.std.proofs.Common.{◌≡◌, ◌++◌, [], ◌∷◌}
use Rattle.shared_secret.proofs.CombinedShares.{alike_next}
use Rattle.shared_secret.proofs.combining.copied_values.Goals as goal

pub loop-share-preserved : goal.loop-share-preserved
loop-share-preserved g c =
    let pushed : c.push.new.self.items ≡ c.loop-share.out.items ++ (c.in_ok-copy.copy ∷ []) = c.in_ok-push.ensures.items in
    rw pushed (alike_next (λ share copy. g.T.Object.same copy share.value) c.args.shares.now c.loop-share.out.items c.loop-share.share-index c.share-item.result c.in_ok-copy.copy
    c.loop-share-test.true c.share-item.is c.loop-share.invariant c.in_ok-copy.ensures.ok)
