use Rattle.std.proofs.Common.{◌≡◌, ℕ}
use Rattle.std.specs.BTreeMap.{get}
use Rattle.std.specs.Option.{is_some}
use Rattle.std.specs.Ordering.{nat_cmp}
use Rattle.secret_bytes.specs.Settled.{firsts, firsts_after, has_index}
use Rattle.secret_bytes.proofs.one_deal.firsts.Given as goal

-- what is kept of those that are left is kept of all, and the map has the indices of those that are kept
abbrev pub invariant-loop-share : goal.invariant-loop-share
invariant-loop-share l = record {
  left : firsts_after l.kept.items l.share-iterator.rest.items ≡ firsts l.fn.shares.items;
  seen : (i : ℕ) → is_some (get nat_cmp l.seen i) ≡ has_index l.kept.items i;
}
