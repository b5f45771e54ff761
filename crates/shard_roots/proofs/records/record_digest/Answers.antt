use Rattle.std.proofs.Common.{◌∙◌, [], ap}
use Rattle.std.specs.Int.{to_be_bytes, w64}
use Rattle.sha2.specs.Sha512.{sha512_256}
use Rattle.shard_roots.proofs.MadeRecords.{joined_record}
use Rattle.shard_roots.proofs.records.record_digest.Goals as goal

pub returns : goal.returns
returns c =
    let tag = c.update.ensures [] c.new-hasher.ensures in
    let size = c.update-2.ensures _ tag in
    let index = c.update-3.ensures _ size in
    let min = c.update-4.ensures _ index in
    let total = c.update-5.ensures _ min in
    let mask = c.update-6.ensures _ total in
    let all = c.update-7.ensures _ mask in
    let joined = joined_record c.args.split c.args.mask c.args.index c.to_be_bytes.result c.to_be_bytes-2.result c.to_be_bytes-3.result c.to_be_bytes-4.result c.to_be_bytes-5.result c.args.row.now
    c.to_be_bytes.ensures (c.to_be_bytes-2.ensures ∙ ap (to_be_bytes w64) c.from.ensures) (c.to_be_bytes-3.ensures ∙ ap (to_be_bytes w64) c.from-2.ensures)
    (c.to_be_bytes-4.ensures ∙ ap (to_be_bytes w64) c.from-3.ensures) (c.to_be_bytes-5.ensures ∙ ap (to_be_bytes w64) c.from-4.ensures) in
    c.finalize.ensures _ all ∙ ap sha512_256 joined
