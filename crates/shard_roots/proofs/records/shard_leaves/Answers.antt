use Rattle.std.proofs.Common.{◌≡◌, ◌∙◌, ℕ, List, [], ◌∷◌, ◌++◌, ap, ap₂, arith, map, sym}
use Rattle.std.specs.List.{range_with_len}
use Rattle.std.proofs.lemmas.List.{get_or_default}
use Rattle.hash_trees.specs.Trees.{leaf_message}
use Rattle.sha2.specs.Sha512.{sha512_256}
use Rattle.shard_roots.specs.Records.{record_of, row_of}
use Rattle.shard_roots.proofs.MadeRecords.{leaves_mapped, mapped_more}
use Rattle.shard_roots.proofs.records.shard_leaves.Goals as goal

pub loop-index-preserved : goal.loop-index-preserved
loop-index-preserved c =
    let content_of : ℕ → List ℕ = λ i. record_of c.args.split c.args.mask i (row_of c.args.split c.args.block.now c.args.parity.now i) in
    c.in_ok-push.ensures.items ∙ ap₂ (λ xs x. xs ++ x ∷ []) c.loop-index.invariant c.in_ok-leaf.ensures ∙ sym (mapped_more (λ i. sha512_256 (leaf_message (content_of i))) c.loop-index.index)

pub returns-clause-bytes : goal.returns-clause-bytes
returns-clause-bytes c = λ k d l. omega (arith, c.type_inv.parity k, get_or_default c.args.parity.now k d 0 l)

pub returns-clause-leaves : goal.returns-clause-leaves
returns-clause-leaves c =
    let content_of : ℕ → List ℕ = λ i. record_of c.args.split c.args.mask i (row_of c.args.split c.args.block.now c.args.parity.now i) in
    let all : c.loop-index.index ≡ c.args.split.total = omega arith in
    c.loop-index.invariant ∙ ap (λ n. map (λ i. sha512_256 (leaf_message (content_of i))) (range_with_len 0 n)) all
    ∙ leaves_mapped sha512_256 content_of (range_with_len 0 c.args.split.total)
