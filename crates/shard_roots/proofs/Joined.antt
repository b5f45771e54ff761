-- What is joined, and what is refused, from the parts.
use Rattle.std.proofs.Common.{◌≡◌, ◌∙◌, ℕ, ◌<◌, ◌≤◌, ◌^◌, List, ◌++◌, arith, drop, length, subst, sym, take}
use Rattle.std.proofs.lemmas.List.{take-append-le, take_all}
use Rattle.math_fields.specs.declared.goldilocks.F.{F}
use Rattle.systematic_shards.specs.declared.rows.Row.{Row}
use Rattle.systematic_shards.specs.declared.split.Split.{Split}
use Rattle.systematic_shards.specs.Refusals.{HaveEnough, IsDecodeDue}
use Rattle.systematic_shards.specs.Shards.{AreDataOf, BelongTo, IsCodewordOf}
use Rattle.systematic_shards.specs.Words.{word_of_bytes}
use Rattle.shard_roots.specs.declared.Error.{Error}
use Rattle.shard_roots.specs.declared.Error.TheVariants.{Memory, TooMany, Masks, Rows, Root}
use Rattle.shard_roots.specs.declared.shards.Shard.{Shard}
use Rattle.shard_roots.specs.Joining.{AreJoined, AreThoseUnder, HaveMask, HaveOtherMasks, IsJoinDue, IsRefusedDecode, rows_of}

-- what was written over all items stands there
pub whole_back : {X : Type 0} (n : ℕ) (new old : List X) → length new ≡ n → take n (new ++ drop (length new) old) ≡ new
whole_back n new old e = take-append-le n new (drop (length new) old) (omega (arith, e)) ∙ take_all n new (omega (arith, e))

module _ (h : List ℕ → List ℕ) (split : Split) (top : List ℕ) (shards kept : List Shard) (those : AreThoseUnder h split top shards kept) where
  pub masks_due : (same : List Shard) (e : Error) → split.total ≤ 2 ^ 16 → same ≡ kept → (e ≡ Masks) × HaveOtherMasks same → IsJoinDue h split top shards e
  masks_due same e few is (named, other) = subst (IsJoinDue h split top shards) (sym named) (few, (kept, those, subst HaveOtherMasks is other))

  pub rows_due : (mask : ℕ) (rows : List (Row ℕ)) (e : Error) → split.total ≤ 2 ^ 16 → HaveMask mask kept → rows ≡ rows_of kept → IsRefusedDecode split mask rows e
      → IsJoinDue h split top shards e
  rows_due mask rows (Memory e) few one is due = due
  rows_due mask rows TooMany few one is due = absurd due
  rows_due mask rows Masks few one is due = absurd due
  rows_due mask rows (Rows e) few one is due =
      let (other, decode) = due in
      (few, record { kept = kept; those = those; mask = mask; one = one; other = other; due = subst (λ r. IsDecodeDue 1 word_of_bytes split mask r e) is decode })
  rows_due mask rows Root few one is due = due

  pub joined : (mask : ℕ) (rows : List (Row ℕ)) (block : List ℕ) → mask < 2 ^ 32 → HaveMask mask kept → rows ≡ rows_of kept → length block ≡ split.size
      → ((a : ℕ → ℕ → F) × IsCodewordOf split a × BelongTo word_of_bytes split mask rows a × AreDataOf split mask a (word_of_bytes block)) → HaveEnough split.min rows
      → AreJoined h split top shards block
  joined mask rows block short one is size (a, code, belong, give) enough = record {
    kept = kept;
    those = those;
    mask = mask;
    short = short;
    one = one;
    cells = a;
    of_code = code;
    belong = subst (λ r. BelongTo word_of_bytes split mask r a) is belong;
    enough = subst (HaveEnough split.min) is enough;
    sizes = size;
    give = give;
  }
