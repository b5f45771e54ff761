-- Which file a root means.
use Rattle.std.specs.Prelude.{ℕ, List, [], Option, unwrap_or}
use Rattle.sha2.specs.Sha512.{sha512_256}
use Rattle.hash_trees.specs.Files.{file_root_over}
use Rattle.hash_trees.specs.declared.files.FileNumbers.{FileNumbers}
use Rattle.shard_format.specs.declared.header.Header.{Header}

-- the numbers of the file that a header says
abbrev pub numbers_of : Header → FileNumbers
numbers_of header = record { min = header.min; total = header.total; block_size = header.block; size = header.length }

-- the root of the file with the numbers of the header, and with this top of the tree over its blocks; none where it has no block
abbrev pub root_of : Header → Option (List ℕ) → List ℕ
root_of header top = file_root_over sha512_256 (numbers_of header) (unwrap_or top [])
