use Rattle.std.proofs.Common.{◌<◌, ◌^◌, ◌∙◌, ap, sym, arith}
use Rattle.math_codec.specs.Words.{word_in_front}
use Rattle.math_codec.specs.WordLaws.{word_in_front-spelled}
use Rattle.shard_format.specs.Headers.{version_in}
use Rattle.shard_format.proofs.header.read_beginning.Goals as goal

pub returns-clause-version : goal.returns-clause-version
returns-clause-version c =
    let version = c.in_ok-version.version in
    let fits : version < 2 ^ 64 = omega (arith, c.in_ok-version.ensures.known.1) in
    sym (ap version_in c.in_ok-read_fixed.ensures.taken ∙ ap word_in_front c.in_ok-version.ensures.taken ∙ word_in_front-spelled version c.read_version.new.input.now fits)
