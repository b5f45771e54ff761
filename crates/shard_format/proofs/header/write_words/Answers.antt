use Rattle.std.proofs.Common.{◌≡◌, ◌++◌, ◌∙◌, ap}
use Rattle.shard_format.specs.Formats.{version_of}
use Rattle.shard_format.specs.Headers.{beginning_spelling}
use Rattle.shard_format.proofs.AppendedWords.{appended_four}
use Rattle.shard_format.proofs.header.write_words.Goals as goal

pub returns-clause-ok : goal.returns-clause-ok
returns-clause-ok c =
    let h = c.args.header.now in
    let before = c.args.out.now.items in
    let begun : c.write_beginning.new.out.items ≡ before ++ beginning_spelling (version_of h.format) h.index =
    c.in_ok-write_beginning.ensures.ok ∙ ap (λ v. before ++ beginning_spelling v h.index) c.version.ensures in
    appended_four _ _ _ _ _ _ _ _ _ begun c.in_ok-write_split.ensures.ok c.in_ok-write_pair.ensures.ok c.in_ok-write_paths.ensures.ok
