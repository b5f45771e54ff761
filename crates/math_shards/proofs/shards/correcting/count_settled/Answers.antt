use Rattle.std.proofs.Common.{◌≡◌, ◌∙◌, ◌+◌, ◌<◌, ◌++◌, [], ◌∷◌, ℕ, List, map, take, sym, ap, subst, arith}
use Rattle.std.specs.List.{All, filter}
use Rattle.std.proofs.lemmas.List.{map-append, take_all}
use Rattle.std.proofs.lemmas.List.Elements.{All-map, All-weaker}
use Rattle.math_splitting.specs.declared.shards.Shard.{Shard}
use Rattle.math_shards.specs.Correcting.{is_settled, settled}
use Rattle.math_shards.specs.Fitting.{distinct_among}
use Rattle.math_shards.specs.Joining.{IsSound}
use Rattle.math_shards.proofs.DistinctIndices.{count_distinct}
use Rattle.math_shards.proofs.JoinedRows.{distinct_of_shards}
use Rattle.math_shards.proofs.KeptItems.{filter-fails, filter-passes}
use Rattle.math_shards.proofs.SettledShards.{settled_sound}
use Rattle.math_shards.proofs.shards.correcting.count_settled.Goals as goal
use Rattle.math_shards.proofs.shards.correcting.count_settled.Goals.{then-is_settled+in_ok-push, else-is_settled}

abbrev index_of : Shard → ℕ
index_of s = s.index

pub loop-shard-preserved : goal.loop-shard-preserved
loop-shard-preserved c =
    let shards = c.args.shards.now in
    let n = c.loop-shard.shard-index in
    let s = c.shard-item.result in
    let kept : List Shard = filter (is_settled shards) (take n shards) in
    elim c.if-is_settled.branch [
      | then-is_settled+in_ok-push w ↦
          let more : filter (is_settled shards) (take (n + 1) shards) ≡ kept ++ s ∷ [] =
          filter-passes (is_settled shards) shards n s c.loop-shard-test.true c.shard-item.is (sym c.is_settled.ensures ∙ w.if-is_settled.true) in
          rw (w.indices-is, w.in_ok-push.ensures.items, more) (ap (λ xs. xs ++ s.index ∷ []) c.loop-shard.invariant ∙ sym (map-append index_of kept (s ∷ [])))
      | else-is_settled w ↦
          rw (w.indices-is, filter-fails (is_settled shards) shards n s c.loop-shard-test.true c.shard-item.is (sym c.is_settled.ensures ∙ w.if-is_settled.false)) c.loop-shard.invariant
    ]

pub returns : goal.returns
returns c =
    let first = c.args.first.now in
    let shards = c.args.shards.now in
    let found = c.distinct.result in
    let all : c.loop-shard.indices.items ≡ map index_of (settled shards) =
    c.loop-shard.invariant ∙ ap (λ (xs : List Shard). map index_of (filter (is_settled shards) xs)) (take_all c.loop-shard.shard-index shards (omega arith)) in
    let below : All (λ i. i < first.total) (map index_of (settled shards)) =
    All-map (λ i. i < first.total) index_of (settled shards)
    (All-weaker (IsSound first) (λ s. s.index < first.total) (λ s sound. omega (arith, sound.1, sound.0.most)) (settled shards) (settled_sound first shards c.requires)) in
    let count = count_distinct found.items c.distinct.ensures.rising first.total c.loop-shard.indices.items (subst (All (λ i. i < first.total)) (sym all) below) c.distinct.ensures.exactly in
    omega (arith, c.len.ensures, found.ok.0, count, ap (distinct_among first.total) all, distinct_of_shards first.total (settled shards))
