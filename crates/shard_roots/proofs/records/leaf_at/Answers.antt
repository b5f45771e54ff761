use Rattle.std.proofs.Common.{◌∙◌, refl, ap, ◌*◌, ◌+◌, arith}
use Rattle.hash_trees.specs.Trees.{leaf_message}
use Rattle.sha2.specs.Sha512.{sha512_256}
use Rattle.shard_roots.specs.Records.{record_of}
use Rattle.shard_roots.proofs.MadeRecords.{whole_row}
use Rattle.shard_roots.proofs.records.leaf_at.Goals as goal

pub returns-then-end-bytes : goal.returns-then-end-bytes
returns-then-end-bytes c =
    c.record_digest.ensures ∙ ap (λ row. sha512_256 (leaf_message (record_of c.args.split c.args.mask c.args.index row)))
    (whole_row (8 * c.args.split.width) c.args.bytes.now c.args.i ((c.args.i + 1) * (8 * c.args.split.width)) refl (omega (arith, c.if-end-bytes.true)))
