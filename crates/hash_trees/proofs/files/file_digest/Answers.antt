use Rattle.std.proofs.Common.{◌∙◌, [], ap}
use Rattle.sha2.specs.Sha512.{sha512_256}
use Rattle.hash_trees.proofs.FileMessages.{joined_message}
use Rattle.hash_trees.proofs.files.file_digest.Goals as goal

pub returns : goal.returns
returns c =
    let tag = c.update.ensures [] c.new-hasher.ensures in
    let min = c.update-2.ensures _ tag in
    let total = c.update-3.ensures _ min in
    let block = c.update-4.ensures _ total in
    let size = c.update-5.ensures _ block in
    let all = c.update-6.ensures _ size in
    let joined = joined_message c.args.numbers c.to_be_bytes.result c.to_be_bytes-2.result c.to_be_bytes-3.result c.to_be_bytes-4.result c.args.top.now
    c.to_be_bytes.ensures c.to_be_bytes-2.ensures c.to_be_bytes-3.ensures c.to_be_bytes-4.ensures in
    c.finalize.ensures _ all ∙ ap sha512_256 joined
