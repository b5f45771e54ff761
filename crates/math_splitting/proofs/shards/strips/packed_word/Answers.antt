use Rattle.std.proofs.Common.{◌∙◌, sym, arith}
use Rattle.math_splitting.specs.DataWords.{words_in}
use Rattle.math_splitting.proofs.PackedWords.{counted-behind}
use Rattle.math_splitting.proofs.shards.strips.packed_word.Goals as goal

pub returns : goal.returns
returns g c = c.word_in.ensures ∙ sym (counted-behind (words_in g.W.Word.word c.args.source.now) c.args.place (omega arith))
