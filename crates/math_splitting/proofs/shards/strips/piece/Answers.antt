use Rattle.std.proofs.Common.{◌%◌, ◌∙◌, ap}
use Rattle.math_numbers.specs.Goldilocks.{P}
use Rattle.math_splitting.proofs.PackedWords.{both-number}
use Rattle.math_splitting.proofs.shards.strips.piece.Goals as goal

pub returns : goal.returns
returns c = c.from.ensures ∙ ap (λ n. n % P) (both-number c.args.before c.args.word c.args.taken c.ranges.before.fits c.ranges.word.fits c.requires)
