use Rattle.std.proofs.Common.{◌∙◌, ap, length, sym}
use Rattle.std.proofs.lemmas.Bool.{eqb-true}
use Rattle.sha2.specs.Sha512.{sha512_256}
use Rattle.hash_trees.specs.Files.{file_root_over}
use Rattle.hash_trees.proofs.Steps.{root_none}
use Rattle.hash_trees.proofs.files.file_root.Goals as goal

pub returns-then-is_empty : goal.returns-then-is_empty
returns-then-is_empty c =
    let none = root_none sha512_256 c.args.block_roots.now (eqb-true (length c.args.block_roots.now) 0 (sym c.is_empty.ensures ∙ c.if-is_empty.true)) in
    c.file_root_above.ensures ∙ ap (file_root_over sha512_256 c.args.numbers) (sym none)
