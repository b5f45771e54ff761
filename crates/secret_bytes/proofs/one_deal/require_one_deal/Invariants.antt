use Rattle.std.proofs.Common.{◌<◌, ◌^◌, ℕ, slice_index_or}
use Rattle.std.specs.BTreeMap.{get}
use Rattle.std.specs.Ordering.{nat_cmp}
use Rattle.secret_bytes.specs.declared.share.SecretShare.{SecretShare}
use Rattle.secret_bytes.specs.Settled.{IsPlaceOf, StandBelow}
use Rattle.secret_bytes.proofs.one_deal.require_one_deal.Given as goal

-- the shares so far stand, and the map has the place of the first of each index
abbrev pub invariant-loop-place : goal.invariant-loop-place
invariant-loop-place l = record {
  stand : StandBelow l.of.threshold l.of.deal l.of.width l.shares l.place;
  small : (k : ℕ) (s : SecretShare) → k < l.place → (slice_index_or l.shares k s).index < 2 ^ 32;
  first : (i : ℕ) → IsPlaceOf l.shares l.place i (get nat_cmp l.places i);
}
